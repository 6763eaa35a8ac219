-- `Reader::number` meets its contract: the bytes of a token are pushed one by one. Assumes nothing.
use Rattle.std.proofs.Common.{◌≡◌, Some, sym, ap, ◌∙◌, of_calls}
use Rattle.protocol.specs.Inner.State.{start, pushed_all}
use Rattle.protocol.proofs.Folds.{number_folds}
use Rattle.protocol.proofs.input.Reader.number.Goals as goal

pub returns-in-Some-Some-clause-state : goal.returns-in-Some-Some-clause-state
returns-in-Some-Some-clause-state c =
    let pushed = c.in-Some-Some.ensures.pushed in
    let t = pushed.0 in
    let folds : Some c.in-Some-Some.number ≡ pushed_all (Some start) t =
    sym c.in-Some-Some.field-0-is
    ∙ number_folds (λ s b u r. search of_calls) (Some c.new.result) t c.in-Some-Some.field-0 pushed.2
    ∙ ap (λ s. pushed_all (Some s) t) c.new.ensures in
    (t, pushed.1, sym folds)
