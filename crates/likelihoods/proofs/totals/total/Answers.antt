-- The two parts make up the total, and their sum is at most 2^40 steps from 0. Assumes nothing.
use Rattle.std.proofs.Common.{◌∙◌, arith, w64}
use Rattle.steps.proofs.Signed.{add_abs, plus_read}
use Rattle.likelihoods.proofs.TotalParts.{same_sum, total_parts}
use Rattle.likelihoods.proofs.totals.total.Goals as goal

pub returns : goal.returns
returns c =
    let x = c.total-x.result.0 in
    let y = c.fragments_total-y.result.0 in
    let k = c.total-x.ensures in
    let m = rw (c.requires.same.0, c.requires.same.1) at c.fragments_total-y.ensures in
    let e = plus_read w64 x y (omega (arith, k.1, m.1)) in
    rw e (same_sum k.0 m.0 ∙ total_parts _ _ _ _ _ _ _ _, omega (arith, add_abs x y, k.1, m.1))
