-- i is a place of the allele, and all bases before it agree.
use Rattle.std.proofs.Common.{◌≡◌, ℕ, ◌-◌, ◌<◌, length, get_or}
use Rattle.genotype_probs.proofs.letters.stop_at.Given as goal

abbrev pub invariant-loop-i : goal.invariant-loop-i
invariant-loop-i l = (l.i < length l.allele.bases.now) × ((j : ℕ) → j < l.i → get_or l.reference j 0 ≡ get_or l.allele.bases.now j 0)

abbrev pub decreases-loop-i : goal.decreases-loop-i
decreases-loop-i l = length l.allele.bases.now - l.i
