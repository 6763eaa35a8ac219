-- The first places are lowered, and the others as they were.
use Rattle.std.proofs.Common.{◌≡◌, ℕ, ◌<◌, ◌≤◌, get_or, pos, ◌-ℤ◌}
use Rattle.genotype_probs.proofs.posteriors.normalize.Given as goal

abbrev pub invariant-loop-x : goal.invariant-loop-x
invariant-loop-x l =
    ((p : ℕ) → p < l.x-index → get_or l.x-items p (pos 0) ≡ get_or l.fn.post p (pos 0) -ℤ l.total.0)
    × ((p : ℕ) → l.x-index ≤ p → get_or l.x-items p (pos 0) ≡ get_or l.initial.x-items p (pos 0))
