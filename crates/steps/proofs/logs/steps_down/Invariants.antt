-- `hi` steps down are low enough, and fewer than `lo` are not.
use Rattle.std.proofs.Common.{◌≡◌, ℕ, ◌-◌, ◌<◌, ◌≤◌, true, false}
use Rattle.steps.specs.OneMinus.{low}
use Rattle.steps.proofs.logs.steps_down.Given as goal

abbrev pub invariant-loop-lo : goal.invariant-loop-lo
invariant-loop-lo l =
    (l.lo ≤ l.hi) × (l.hi ≤ 57344) × (low l.p l.hi ≡ true) × ((k : ℕ) → k < l.lo → low l.p k ≡ false)

abbrev pub decreases-loop-lo : goal.decreases-loop-lo
decreases-loop-lo l = l.hi - l.lo
