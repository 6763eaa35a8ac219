-- One more variant is added. Assumes nothing.
use Rattle.std.proofs.Common.{arith}
use Rattle.likelihoods.proofs.RunningSums.{running_start, running_more}
use Rattle.likelihoods.proofs.totals.PairPriors.total.Goals as goal

pub loop-v-init : goal.loop-v-init
loop-v-init c = running_start _ _

pub loop-v-preserved : goal.loop-v-preserved
loop-v-preserved c =
    running_more _ _ _ _ _ c.loop-v.invariant c.share.ensures.0 (omega (arith, c.share.ensures.1)) (omega (arith, c.args.self.now.priors_in.variants_top))
