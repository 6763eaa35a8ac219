use Rattle.std.proofs.Common.{refl}
use Rattle.variants_and_fragments.specs.Written.{written}
use Rattle.haplotype_assembly.proofs.Cited.{written_on}
use Rattle.haplotype_assembly.proofs.phase.write_names.Goals as goal

pub loop-v-init : goal.loop-v-init
unfolding written
loop-v-init c = refl

pub loop-v-preserved : goal.loop-v-preserved
loop-v-preserved c = written_on _ _ _ _ _ c.loop-v.invariant c.name_at.ensures
