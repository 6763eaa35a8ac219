-- `at` is where variant v's bytes start, and those of the variants passed are bases.
use Rattle.std.proofs.Common.{◌≡◌, ℕ, ◌<◌, true}
use Rattle.variants_and_fragments.specs.Alleles.{alleles_start, alleles_ok}
use Rattle.variants_and_fragments.proofs.alleles.check_alleles.Given as goal

abbrev pub invariant-loop-v : goal.invariant-loop-v
invariant-loop-v l = (l.at ≡ alleles_start l.known.laid.words.now l.v) × ((j : ℕ) → j < l.v → alleles_ok l.known.laid.words.now l.bases j ≡ true)
