-- Each variant's bytes start where those of the one before end.
use Rattle.std.proofs.Common.{arith}
use Rattle.variants_and_fragments.proofs.AlleleBytes.{off_on}
use Rattle.variants_and_fragments.proofs.laid.WithVariants.all_alleles_length.Goals as goal

pub loop-v-preserved : goal.loop-v-preserved
loop-v-preserved c = (omega (arith, c.alleles_length-sum.ensures), cc (c.loop-v.invariant.1, c.alleles_length-sum.ensures.0, off_on c.args.self.now.laid.words.now c.loop-v.v))
