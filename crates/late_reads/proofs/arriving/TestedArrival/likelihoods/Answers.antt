-- What one more call adds is added to either likelihood; there are 16384 calls at most.
use Rattle.std.proofs.Common.{◌∙◌, arith}
use Rattle.late_reads.proofs.ReadShares.{arriving_few, summing_start, summing_in, first_fits, second_fits, summing_on, first_summed, second_summed}
use Rattle.late_reads.proofs.arriving.TestedArrival.likelihoods.Goals as goal

pub loop-call-init : goal.loop-call-init
loop-call-init c = summing_start _ _ _ (c.into_iter-call-iterator.ensures.into_iter_gives ∙ c.iter-call-items.ensures)

pub share-requires : goal.share-requires
share-requires c = (summing_in c.loop-call.invariant c.in-Some.ensures.steps c.args.self.now.arriving, omega arith)

pub share-requires-in-loop-call : goal.share-requires-in-loop-call
share-requires-in-loop-call c = (summing_in c.loop-call.invariant c.in-Some.ensures.steps c.args.self.now.arriving, omega arith)

pub overflow_add-first : goal.overflow_add-first
overflow_add-first c =
    let s = c.args.self.now in
    first_fits c.loop-call.invariant c.in-Some.ensures.steps (arriving_few s.arriving s.ready.ready.case_in) c.share.result.0 c.share.ensures.1

pub overflow_add-second : goal.overflow_add-second
overflow_add-second c =
    let s = c.args.self.now in
    second_fits c.loop-call.invariant c.in-Some.ensures.steps (arriving_few s.arriving s.ready.ready.case_in) c.share-in-loop-call.result.0 c.share-in-loop-call.ensures.1

pub loop-call-preserved : goal.loop-call-preserved
loop-call-preserved c =
    let s = c.args.self.now in
    summing_on c.loop-call.invariant c.in-Some.ensures.steps (arriving_few s.arriving s.ready.ready.case_in) _ _ c.share.ensures c.share-in-loop-call.ensures

pub returns : goal.returns
returns c =
    let s = c.args.self.now in
    let few = arriving_few s.arriving s.ready.ready.case_in in
    record { first_value = first_summed c.loop-call.invariant c.in-None.ensures.steps.0 few; second_value = second_summed c.loop-call.invariant c.in-None.ensures.steps.0 few }
