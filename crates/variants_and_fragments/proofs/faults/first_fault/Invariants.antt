-- The test holds of the numbers passed.
use Rattle.std.proofs.Common.{ℕ, ◌<◌, ◌≤◌, true}
use Rattle.variants_and_fragments.proofs.faults.first_fault.Given as goal

abbrev pub invariant-loop-v : goal.invariant-loop-v
invariant-loop-v g l = (j : ℕ) → l.first ≤ j → j < l.v → g.F.Fn.post l.ok (j, tt) true
