use Rattle.std.proofs.Common.{refl}
use Rattle.variants_and_fragments.specs.Written.{written}
use Rattle.haplotype_assembly.specs.Inner.PhaseRead.{start_at}
use Rattle.haplotype_assembly.proofs.Pairs.{pair_on}
use Rattle.haplotype_assembly.proofs.phase.write_haplotypes.Goals as goal

pub loop-v-init : goal.loop-v-init
unfolding written
loop-v-init c = refl

pub loop-v-preserved : goal.loop-v-preserved
unfolding start_at
loop-v-preserved c =
    let e = rw (c.genotype-a.ensures, c.genotype-b.ensures) at c.ordered-first.ensures in pair_on _ _ _ _ _ _ _ c.loop-v.invariant e.0 e.1
