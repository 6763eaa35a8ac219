-- One more count is written. Assumes nothing.
use Rattle.variants_and_fragments.proofs.Written.{written_on}
use Rattle.likelihoods.proofs.sweep_case.write_allele_counts.Goals as goal

pub loop-v-preserved : goal.loop-v-preserved
loop-v-preserved c = written_on _ _ _ _ _ c.loop-v.invariant c.allele_count.ensures
