-- `Operation::next` meets its contract: the word of a token asks for what the token asks for, and the end for what no bytes ask for. Assumes
-- nothing.
use Rattle.std.proofs.Common.{refl, sym, ap, ◌∙◌, []}
use Rattle.condorbed.specs.Requests.{requests, found, same_bytes, asked_by}
use Rattle.condorbed.proofs.Names.{word_finds}
use Rattle.condorbed.proofs.requests.Operation.next.Goals as goal

pub returns-in_default : goal.returns-in_default
unfolding asked_by found requests same_bytes
returns-in_default c = ([], refl)

pub returns-in-Ok : goal.returns-in-Ok
returns-in-Ok c =
    let read = c.in-Some.ensures.word in
    (read.0, sym (word_finds read.0) ∙ ap asked_by (sym read.2) ∙ ap asked_by (sym c.as_slice.ensures) ∙ sym c.named.ensures ∙ c.in-Ok.is)
