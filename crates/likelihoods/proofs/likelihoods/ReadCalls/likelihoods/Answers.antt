-- One more row is added to either likelihood. Assumes nothing.
use Rattle.std.proofs.Common.{◌≡◌, length, sym, ◌∙◌, arith, w64}
use Rattle.steps.proofs.Signed.{plus_fits}
use Rattle.likelihoods.proofs.RunningSums.{running_start, running_more}
use Rattle.likelihoods.proofs.CallShares.{row_in, rows_sum}
use Rattle.likelihoods.proofs.likelihoods.ReadCalls.likelihoods.Goals as goal

pub loop-word-init : goal.loop-word-init
loop-word-init c = record { first = running_start _ _; second = running_start _ _ }

pub call_share-requires : goal.call_share-requires
call_share-requires c = (row_in c.args.self.now.calls_in c.loop-word.word-index c.loop-word-test.true, omega arith)

pub call_share-requires-in-loop-word : goal.call_share-requires-in-loop-word
call_share-requires-in-loop-word c = (row_in c.args.self.now.calls_in c.loop-word.word-index c.loop-word-test.true, omega arith)

pub overflow_add-first : goal.overflow_add-first
overflow_add-first c =
    plus_fits w64 c.loop-word.first.0 c.call_share.result.0
    (omega (arith, c.call_share.ensures.1, c.loop-word.invariant.first.small, c.loop-word-test.true, c.args.self.now.calls_in.count_top))

pub overflow_add-second : goal.overflow_add-second
overflow_add-second c =
    plus_fits w64 c.loop-word.second.0 c.call_share-in-loop-word.result.0
    (omega (arith, c.call_share-in-loop-word.ensures.1, c.loop-word.invariant.second.small, c.loop-word-test.true, c.args.self.now.calls_in.count_top))

pub loop-word-preserved : goal.loop-word-preserved
loop-word-preserved c =
    let few = c.args.self.now.calls_in.count_top in
    record {
      first = running_more _ _ _ _ _ c.loop-word.invariant.first c.call_share.ensures.0 (omega (arith, c.call_share.ensures.1)) (omega (arith, c.loop-word-test.true));
      second = running_more _ _ _ _ _ c.loop-word.invariant.second c.call_share-in-loop-word.ensures.0 (omega (arith, c.call_share-in-loop-word.ensures.1)) (omega (arith, c.loop-word-test.true));
    }

pub returns : goal.returns
returns c =
    let s = c.args.self.now in
    let e : c.loop-word.word-index ≡ length s.rows.now = omega (arith, c.loop-word.auto.word-index-end, c.loop-word-test.false) in
    let x = rw e at c.loop-word.invariant.first in
    let y = rw e at c.loop-word.invariant.second in
    record {
      first_is = x.is ∙ sym (rows_sum _ _ _ _ _);
      second_is = y.is ∙ sym (rows_sum _ _ _ _ _);
      first_small = omega (arith, x.small);
      second_small = omega (arith, y.small);
    }
