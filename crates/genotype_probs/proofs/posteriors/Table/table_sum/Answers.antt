-- One more row's sum on the way, and none left at the end.
use Rattle.std.proofs.Common.{◌+◌, ◌^◌, ◌≤◌, nat_abs, ap, ◌∙◌, arith}
use Rattle.steps.specs.Logs.{add_exp}
use Rattle.steps.proofs.Marks.{size_small, add_is}
use Rattle.genotype_probs.specs.Posteriors.{row_sum, table_sum}
use Rattle.genotype_probs.proofs.TableSums.{summing_start, summing_more, summing_end}
use Rattle.genotype_probs.proofs.posteriors.Table.table_sum.Goals as goal

pub loop-i-init : goal.loop-i-init
loop-i-init c =
    let t = c.args.self.now in
    let e = c.row_sum-sum.ensures.0 in
    summing_start (2 ^ 40 + 12288) (row_sum t.post.now t.k) t.k _ t.table_in.k_low e (omega (arith, ap nat_abs e, c.row_sum-sum.ensures.1))

pub ln_add_exp-sum-requires : goal.ln_add_exp-sum-requires
ln_add_exp-sum-requires c =
    let t = c.args.self.now in
    let a = c.loop-i.sum.0 in
    let x = c.row_sum.result.0 in
    let s : nat_abs a ≤ 2 ^ 40 + 24576 = omega (arith, c.loop-i.invariant.small, c.loop-i.invariant.inside, t.table_in.k_high) in
    let y = c.row_sum.ensures.1 in
    (omega (arith, size_small a (omega arith)), omega (arith, size_small x (omega arith)))

pub loop-i-preserved : goal.loop-i-preserved
loop-i-preserved c =
    let t = c.args.self.now in
    let a = c.loop-i.sum.0 in
    let x = c.row_sum.result.0 in
    let s : nat_abs a ≤ 2 ^ 40 + 24576 = omega (arith, c.loop-i.invariant.small, c.loop-i.invariant.inside, t.table_in.k_high) in
    let y = c.row_sum.ensures in
    let e = add_is a x c.ln_add_exp-sum.result.0 (omega arith) (omega (arith, y.1)) c.ln_add_exp-sum.ensures in
    summing_more (2 ^ 40 + 12288) (row_sum t.post.now t.k) t.k a _ c.loop-i.i c.loop-i.invariant c.loop-i-test.true
    (e ∙ ap (add_exp a) y.0)
    (omega (arith, ap nat_abs y.0, y.1))

pub returns : goal.returns
unfolding table_sum
returns c =
    let t = c.args.self.now in
    let r = summing_end (2 ^ 40 + 12288) (row_sum t.post.now t.k) t.k c.loop-i.sum.0 c.loop-i.i c.loop-i.invariant (omega arith) in
    (r.0, omega (arith, r.1, t.table_in.k_high))
