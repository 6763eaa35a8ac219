-- b is the first of the greatest among the first g, and best is number b. Assumes nothing.
use Rattle.std.proofs.Common.{ℕ, get_or, pos}
use Rattle.call_genotypes.proofs.Written.{Best}
use Rattle.call_genotypes.proofs.score.first_max.Given as goal

abbrev pub invariant-loop-g : goal.invariant-loop-g
invariant-loop-g l = Best (λ (x : ℕ). get_or l.s x (pos 0)) l.b l.best l.g
