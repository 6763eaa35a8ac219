-- `Reader::token` meets its contract: one byte more is pushed. Assumes nothing.
use Rattle.std.proofs.Common.{[], ◌∷◌, ◌++◌, arith, rules, length-append}
use Rattle.std.proofs.lemmas.Fn.{FoldsTo-push}
use Rattle.protocol.proofs.input.Reader.token.Goals as goal

pub loop-next-preserved : goal.loop-next-preserved
loop-next-preserved g c =
    let pushed = c.loop-next.invariant.1 in
    (search rules, (pushed.0 ++ c.loop-next.b ∷ [], FoldsTo-push _ _ _ _ _ _ pushed.1 c.push-read.ensures))

pub returns-in_default-clause-pushed : goal.returns-in_default-clause-pushed
returns-in_default-clause-pushed g c =
    let pushed = c.loop-next.invariant.1 in
    (pushed.0 ++ c.loop-next.b ∷ [], omega (arith, length-append pushed.0 (c.loop-next.b ∷ [])), FoldsTo-push _ _ _ _ _ _ pushed.1 c.push-read.ensures)
