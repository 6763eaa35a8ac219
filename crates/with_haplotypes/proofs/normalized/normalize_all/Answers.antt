-- One more table is normalised: the places after it are still as they were. Assumes nothing.
use Rattle.std.proofs.Common.{refl}
use Rattle.variants_and_fragments.specs.Written.{written}
use Rattle.genotype_probs.proofs.NinePlaces.{own, own_written}
use Rattle.with_haplotypes.proofs.NormalizedTables.{table_kept, normalized_on}
use Rattle.with_haplotypes.proofs.normalized.normalize_all.Goals as goal

pub loop-v-init : goal.loop-v-init
unfolding written
loop-v-init c = refl

pub normalize-requires : goal.normalize-requires
normalize-requires c =
    own (table_kept c.args.ks.now c.args.post.now c.loop-v.post c.loop-v.v c.loop-v.invariant _ (c.requires.each c.loop-v.v c.loop-v-test.true))

pub loop-v-preserved : goal.loop-v-preserved
loop-v-preserved c =
    let t = table_kept c.args.ks.now c.args.post.now c.loop-v.post c.loop-v.v c.loop-v.invariant _ (c.requires.each c.loop-v.v c.loop-v-test.true) in
    normalized_on c.args.ks.now c.args.post.now c.loop-v.post c.loop-v.v c.loop-v.invariant _ (own_written t _ c.normalize.ensures)
