-- 01, section 7: the final answer of one variant, from its normalised posteriors.
-- Assumes nothing.
use Rattle.std.specs.Prelude.{true, List, ℕ, ℤ}
use Rattle.variants_and_fragments.specs.declared.VarFilter.TheVariants.{Pass}
use Rattle.genotype_probs.specs.Posteriors.{max_genotype, genotype_of, qual_of, gq_of}
use Rattle.with_haplotypes.specs.declared.finals.FinalAnswer.{FinalAnswer}

-- the called pair is the first maximum, phased; the filter is Pass
unfoldable pub final_of : List ℤ → ℕ → FinalAnswer
final_of tab k = let p = max_genotype true tab k in record {
  genotype = genotype_of k p;
  qual = record { 0 = qual_of tab };
  gq = record { 0 = gq_of tab k p };
  filter = Pass;
}
