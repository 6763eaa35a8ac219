-- One more read is added. Assumes nothing.
use Rattle.std.proofs.Common.{◌+◌, ◌*◌, arith, w64}
use Rattle.steps.proofs.Signed.{plus_fits}
use Rattle.likelihoods.proofs.RunningSums.{running_start, running_more}
use Rattle.likelihoods.proofs.TotalParts.{standing_is}
use Rattle.likelihoods.proofs.totals.mixes_total.Goals as goal

pub loop-f-init : goal.loop-f-init
loop-f-init c = running_start _ _

pub mixed-requires : goal.mixed-requires
mixed-requires c =
    let within = c.args.standing.now.within in
    rw (c.at.ensures.0, c.at.ensures.1) (omega (arith, within (2 * c.loop-f.f)), omega (arith, within (2 * c.loop-f.f + 1)))

pub overflow_add-sum : goal.overflow_add-sum
overflow_add-sum c =
    let k = standing_is c.args.standing.now.lik.now c.loop-f.f c.at.result _ c.args.standing.now.within c.at.ensures c.mixed.ensures in
    plus_fits w64 c.loop-f.sum.0 c.mixed.result.0 (omega (arith, k.1, c.loop-f.invariant.small))

pub loop-f-preserved : goal.loop-f-preserved
loop-f-preserved c =
    let k = standing_is c.args.standing.now.lik.now c.loop-f.f c.at.result _ c.args.standing.now.within c.at.ensures c.mixed.ensures in
    running_more _ _ _ _ _ c.loop-f.invariant k.0 (omega (arith, k.1)) (omega arith)
