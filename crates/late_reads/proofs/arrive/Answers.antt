-- What is refused is refused by a test of the definition; past the tests the values and the words are written as it says.
use Rattle.std.proofs.Common.{◌≡◌, sym, ◌∙◌, arith, to_z-of_z}
use Rattle.variants_and_fragments.specs.Refusals.{done}
use Rattle.variants_and_fragments.proofs.Outcomes.{exit_is, promise_refused}
use Rattle.late_reads.specs.Arriving.{arriving_read}
use Rattle.late_reads.specs.Values.{values, likelihood_on}
use Rattle.late_reads.specs.LateReads.{late_input, kept_outcome}
use Rattle.late_reads.specs.Inner.Ready.{fixed_at, arriving_tests}
use Rattle.late_reads.proofs.KeptCase.{kept_past}
use Rattle.late_reads.proofs.Moved.{total_more}
use Rattle.late_reads.proofs.Promised.{arrive_stops, arriving_stops, arriving, arrive_refuses, arrive_updates}
use Rattle.late_reads.proofs.Ranged.{total_small, counts_lent, same_put}
use Rattle.late_reads.proofs.ReadCalls.{arriving_held, arriving_counted}
use Rattle.late_reads.proofs.arrive.Goals as goal
use Rattle.late_reads.proofs.arrive.Goals.{In_ok-ready, In_ok-arrival, After-likelihoods-own}

-- past the tests of the case and of what is lent
ready : (c : In_ok-ready) → kept_outcome (late_input c.args.words.now c.args.bases.now c.args.phase.now c.args.haplotypes.now (values c.args.likelihoods.now c.args.counts.now c.args.total.0)) ≡ done c.in_ok-ready.ready.case.laid.sizes
ready c = sym c.in_ok-ready.ensures.outcome

-- and past those of the arrival
tested : (c : In_ok-arrival) → arriving_tests c.args.words.now c.in_ok-ready.ready.case.laid.sizes c.args.fragment c.args.strand c.args.calls.now ≡ done c.in_ok-arrival.arrival.ready.case.laid.sizes
tested c = sym (rw (c.in_ok-ready.ensures.lent.0, to_z-of_z c.ranges.strand) at c.in_ok-arrival.ensures.outcome)

-- the likelihoods of the read
first_is : (c : After-likelihoods-own) → c.likelihoods-own.result.first.0 ≡ likelihood_on (fixed_at c.args.words.now c.args.phase.now c.args.haplotypes.now) (arriving_read c.args.strand c.args.calls.now) 0
first_is c =
    rw (c.in_ok-arrival.ensures.same.0, c.in_ok-arrival.ensures.same.1, c.in_ok-ready.ensures.lent.0, c.in_ok-ready.ensures.lent.1, c.in_ok-ready.ensures.lent.2, to_z-of_z c.ranges.strand) at c.likelihoods-own.ensures.first_value.0

second_is : (c : After-likelihoods-own) → c.likelihoods-own.result.second.0 ≡ likelihood_on (fixed_at c.args.words.now c.args.phase.now c.args.haplotypes.now) (arriving_read c.args.strand c.args.calls.now) 1
second_is c =
    rw (c.in_ok-arrival.ensures.same.0, c.in_ok-arrival.ensures.same.1, c.in_ok-ready.ensures.lent.0, c.in_ok-ready.ensures.lent.1, c.in_ok-ready.ensures.lent.2, to_z-of_z c.ranges.strand) at c.likelihoods-own.ensures.second_value.0

pub returns-in_err-ready : goal.returns-in_err-ready
returns-in_err-ready c =
    rw (exit_is c.from_residual.ensures.1) (promise_refused _ (arrive_stops _ _ _ _ _ c.in_err-ready.ensures.outcome))

pub returns-in_err-arrival : goal.returns-in_err-arrival
returns-in_err-arrival c =
    rw (exit_is c.from_residual-in_err-arrival.ensures.1)
    (promise_refused _ (arriving_stops _ _ _ _ _ (ready (goal.at.returns-in_err-arrival c).In_ok-ready) _ (rw (c.in_ok-ready.ensures.lent.0, to_z-of_z c.ranges.strand) at c.in_err-arrival.ensures.outcome)))

pub moved-sum-requires : goal.moved-sum-requires
moved-sum-requires c =
    let k = kept_past _ _ (ready (goal.at.moved-sum-requires c).In_ok-ready) in
    (total_small k, omega (arith, c.mix.ensures.bound, c.likelihoods-own.ensures.first_value.1, c.likelihoods-own.ensures.second_value.1), omega arith)

pub returns-then-not-in_range : goal.returns-then-not-in_range
returns-then-not-in_range c =
    let at = goal.at.returns-then-not-in_range c in
    let own = at.After-likelihoods-own in
    let n = c.in_ok-ready.ready.case.laid.sizes.n in
    let e = total_more c.args.total.0 c.mix.ensures.value (first_is own) (second_is own) c.moved-sum.ensures in
    let counts = arriving_counted c.args.words.now n c.args.counts.now c.in_ok-ready.ensures.lent.0 c.args.strand c.args.calls.now c.iter.ensures (rw (to_z-of_z c.ranges.strand) at c.nat_of-side.ensures) in
    arrive_refuses _ _ _ _ _ (ready at.In_ok-ready) _ (tested at.In_ok-arrival) (rw (c.total_ok.ensures, c.fits.ensures, e, counts) at c.if-not-in_range.true)

pub fits-requires-clause-rises : goal.fits-requires-clause-rises
fits-requires-clause-rises c =
    let at = goal.at.fits-requires-clause-rises c in
    let k = kept_past _ _ (ready at.In_ok-ready) in
    arriving_held k.ready.case_in (arriving _ _ _ _ _ (ready at.In_ok-ready) _ (tested at.In_ok-arrival)) c.iter.ensures

pub fits-requires-clause-lent : goal.fits-requires-clause-lent
fits-requires-clause-lent c = counts_lent (kept_past _ _ (ready (goal.at.fits-requires-clause-lent c).In_ok-ready)) (omega arith)

pub put-requires : goal.put-requires
put-requires c =
    let at = goal.at.put-requires c in
    let k = kept_past _ _ (ready at.In_ok-ready) in
    omega (arith, k.likelihoods_long, (arriving _ _ _ _ _ (ready at.In_ok-ready) _ (tested at.In_ok-arrival)).below)

pub count-requires-clause-rises : goal.count-requires-clause-rises
count-requires-clause-rises c =
    let at = goal.at.count-requires-clause-rises c in
    let k = kept_past _ _ (ready at.In_ok-ready) in
    arriving_held k.ready.case_in (arriving _ _ _ _ _ (ready at.In_ok-ready) _ (tested at.In_ok-arrival)) c.iter-2.ensures

pub count-requires-clause-lent : goal.count-requires-clause-lent
count-requires-clause-lent c = counts_lent (kept_past _ _ (ready (goal.at.count-requires-clause-lent c).In_ok-ready)) (omega arith)

pub returns : goal.returns
returns c =
    let at = goal.at.returns c in
    let own = at.After-likelihoods-own in
    let n = c.in_ok-ready.ready.case.laid.sizes.n in
    let e = total_more c.args.total.0 c.mix.ensures.value (first_is own) (second_is own) c.moved-sum.ensures in
    let side = rw (to_z-of_z c.ranges.strand) at c.nat_of-side.ensures in
    let counts = arriving_counted c.args.words.now n c.args.counts.now c.in_ok-ready.ensures.lent.0 c.args.strand c.args.calls.now c.iter.ensures side in
    arrive_updates _ _ _ _ _ (ready at.In_ok-ready) _ (tested at.In_ok-arrival) c.moved-sum.result e (rw (c.total_ok.ensures, c.fits.ensures, e, counts) at c.if-not-in_range.false)
    (rw (to_z-of_z c.ranges.strand) at c.lay_arrival.ensures)
    (c.put.ensures ∙ same_put c.args.likelihoods.now c.args.fragment (first_is own) (second_is own))
    (c.count.ensures ∙ arriving_counted c.args.words.now n c.args.counts.now c.in_ok-ready.ensures.lent.0 c.args.strand c.args.calls.now c.iter-2.ensures side)
