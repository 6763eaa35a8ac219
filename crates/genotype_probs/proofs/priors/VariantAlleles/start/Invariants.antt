-- Where allele i starts.
use Rattle.std.proofs.Common.{◌≡◌, ◌+◌, ◌*◌, ◌≤◌}
use Rattle.variants_and_fragments.specs.Decode.{allele_start}
use Rattle.genotype_probs.proofs.priors.VariantAlleles.start.Given as goal

abbrev pub invariant-loop-i : goal.invariant-loop-i
invariant-loop-i l = (l.start ≡ allele_start l.self.alleles.now.known.laid.words.now l.self.v l.i) × (l.start ≤ 196608 + 64 * l.i)
