-- The first p places are scored, and the others as they were.
use Rattle.std.proofs.Common.{◌≡◌, ℕ, ◌/◌, ◌%◌, ◌<◌, ◌≤◌, get_or, pos, ◌+ℤ◌}
use Rattle.no_haplotypes.specs.Inner.Tally.{pair_gain}
use Rattle.no_haplotypes.proofs.tally.Tally.score.Given as goal

abbrev pub invariant-loop-p : goal.invariant-loop-p
invariant-loop-p l =
    ((q : ℕ) → q < l.p → get_or l.post q (pos 0) ≡ get_or l.fn.post q (pos 0) +ℤ pair_gain l.self (q / l.k) (q % l.k))
    × ((q : ℕ) → l.p ≤ q → get_or l.post q (pos 0) ≡ get_or l.fn.post q (pos 0))
