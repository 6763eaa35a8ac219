-- The places of the first v variants are written, and `at` is where the bytes of variant v start.
use Rattle.std.proofs.Common.{◌≡◌, ◌*◌}
use Rattle.variants_and_fragments.specs.Alleles.{alleles_start}
use Rattle.variants_and_fragments.specs.Decode.{decode}
use Rattle.variants_and_fragments.specs.Written.{written}
use Rattle.genotype_probs.specs.Inner.PriorTable.{table_prior_at}
use Rattle.genotype_probs.proofs.priors.write_priors.Given as goal

abbrev pub invariant-loop-v : goal.invariant-loop-v
invariant-loop-v l =
    (l.at ≡ alleles_start l.alleles.known.laid.words.now l.v) × (l.priors ≡ written (table_prior_at l.table.bases (decode l.alleles.known.laid.words.now l.alleles.bases.now)) (9 * l.v) l.fn.priors)
