-- The sum is where variant v's bytes start, and at most 192 for each variant passed.
use Rattle.std.proofs.Common.{◌≡◌, ◌*◌, ◌≤◌}
use Rattle.variants_and_fragments.specs.Alleles.{alleles_start}
use Rattle.variants_and_fragments.proofs.laid.WithVariants.all_alleles_length.Given as goal

abbrev pub invariant-loop-v : goal.invariant-loop-v
invariant-loop-v l = (l.sum ≤ 192 * l.v) × (l.sum ≡ alleles_start l.self.laid.words.now l.v)
