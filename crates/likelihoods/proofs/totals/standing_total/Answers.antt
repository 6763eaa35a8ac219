-- The sum of its two parts does not wrap. Assumes nothing.
use Rattle.std.proofs.Common.{◌∙◌, arith, w64}
use Rattle.steps.proofs.Signed.{plus_read}
use Rattle.likelihoods.specs.Inner.Totals.{standing_total}
use Rattle.likelihoods.proofs.TotalParts.{same_sum}
use Rattle.likelihoods.proofs.totals.standing_total.Goals as goal

pub returns : goal.returns
unfolding standing_total
returns c =
    plus_read w64 c.total-x.result.0 c.mixes_total-y.result.0 (omega (arith, c.total-x.ensures.1, c.mixes_total-y.ensures.1))
    ∙ same_sum c.total-x.ensures.0 c.mixes_total-y.ensures.0
