-- i rows of scores are written, and j more. Assumes nothing.
use Rattle.std.proofs.Common.{ℕ, ◌+◌, ◌*◌, ◌/◌, ◌%◌, get_or, pos, ◌+ℤ◌}
use Rattle.call_genotypes.specs.Inner.Scores.{pair_rise}
use Rattle.call_genotypes.proofs.Written.{Writing}
use Rattle.call_genotypes.proofs.score.Sums.write_scores.Given as goal

abbrev pub invariant-loop-j : goal.invariant-loop-j
invariant-loop-j l = Writing (λ (p : ℕ). (get_or l.pri (9 * l.v + p) (pos 0) +ℤ l.fn.base) +ℤ pair_rise l.self.of (p / l.k) (p % l.k)) (9 * l.v) (l.k * l.k) l.fn.post l.post (l.i * l.k + l.j)

abbrev pub invariant-loop-i : goal.invariant-loop-i
invariant-loop-i l = Writing (λ (p : ℕ). (get_or l.pri (9 * l.v + p) (pos 0) +ℤ l.fn.base) +ℤ pair_rise l.self.of (p / l.k) (p % l.k)) (9 * l.v) (l.k * l.k) l.fn.post l.post (l.i * l.k)
