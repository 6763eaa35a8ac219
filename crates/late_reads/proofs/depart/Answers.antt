-- What is refused is refused by a test of the definition; past the tests the values and the words are written as it says.
use Rattle.std.proofs.Common.{◌≡◌, ◌+◌, ◌*◌, true, sym, ◌∙◌, arith}
use Rattle.variants_and_fragments.specs.declared.Refusal.TheVariants.{Fragment}
use Rattle.variants_and_fragments.specs.Chain.{present_at}
use Rattle.variants_and_fragments.specs.Refusals.{done}
use Rattle.variants_and_fragments.proofs.Outcomes.{exit_is, promise_refused}
use Rattle.late_reads.specs.Values.{values}
use Rattle.late_reads.specs.LateReads.{late_input, kept_outcome}
use Rattle.late_reads.proofs.KeptCase.{kept_past}
use Rattle.late_reads.proofs.Moved.{total_less}
use Rattle.late_reads.proofs.Promised.{depart_stops, depart_past, depart_not_there, depart_refuses, depart_updates}
use Rattle.late_reads.proofs.Ranged.{total_small, likelihood_small, counts_lent}
use Rattle.late_reads.proofs.ReadCalls.{chain_held, departing_counted}
use Rattle.late_reads.proofs.depart.Goals as goal
use Rattle.late_reads.proofs.depart.Goals.{In_ok-ready, Else-not-is_present, then-s-f-via-then-s-f, then-s-f-via-else-s-f+then-not-is_present}

-- past the tests of the case and of what is lent
ready : (c : In_ok-ready) → kept_outcome (late_input c.args.words.now c.args.bases.now c.args.phase.now c.args.haplotypes.now (values c.args.likelihoods.now c.args.counts.now c.args.total.0)) ≡ done c.in_ok-ready.ready.case.laid.sizes
ready c = sym c.in_ok-ready.ensures.outcome

-- the fragment is present
there : (c : Else-not-is_present) → present_at c.args.words.now c.in_ok-ready.ready.case.laid.sizes c.args.fragment ≡ true
there c = rw c.in_ok-ready.ensures.lent.0 at (sym c.is_present.ensures ∙ c.if-not-is_present.false)

pub returns-in_err-ready : goal.returns-in_err-ready
returns-in_err-ready c =
    rw (exit_is c.from_residual.ensures.1) (promise_refused _ (depart_stops _ _ _ c.in_err-ready.ensures.outcome))

pub returns-then-s-f : goal.returns-then-s-f
returns-then-s-f c =
    let ok = ready (goal.at.returns-then-s-f c).In_ok-ready in
    elim c.then-s-f.branch [
      | then-s-f-via-then-s-f w ↦ promise_refused (Fragment _) (depart_past _ _ _ ok w.if-s-f.true)
      | then-s-f-via-else-s-f+then-not-is_present w ↦
          promise_refused (Fragment _) (depart_not_there _ _ _ ok w.if-s-f.false (rw c.in_ok-ready.ensures.lent.0 at (sym w.is_present.ensures ∙ w.if-not-is_present.true)))
    ]

pub at-own-requires : goal.at-own-requires
at-own-requires c = let k = kept_past _ _ (ready (goal.at.at-own-requires c).In_ok-ready) in omega (arith, k.likelihoods_long, c.if-s-f.false)

pub mix-requires : goal.mix-requires
mix-requires c =
    let k = kept_past _ _ (ready (goal.at.mix-requires c).In_ok-ready) in
    let f = c.args.fragment in
    let own = c.at-own.ensures in
    (rw own.0 (likelihood_small k (2 * f) (omega (arith, c.if-s-f.false))), rw own.1 (likelihood_small k (2 * f + 1) (omega (arith, c.if-s-f.false))))

pub moved-rest-requires : goal.moved-rest-requires
moved-rest-requires c =
    let k = kept_past _ _ (ready (goal.at.moved-rest-requires c).In_ok-ready) in
    let f = c.args.fragment in
    let own = c.at-own.ensures in
    let a = likelihood_small k (2 * f) (omega (arith, c.if-s-f.false)) in
    let b = likelihood_small k (2 * f + 1) (omega (arith, c.if-s-f.false)) in
    (total_small k, omega (arith, rw (own.0, own.1) at c.mix.ensures.bound, a, b), omega arith)

pub returns-then-not-in_range : goal.returns-then-not-in_range
returns-then-not-in_range c =
    let at = goal.at.returns-then-not-in_range c in
    let ok = ready at.In_ok-ready in
    let s = c.in_ok-ready.ready.case.laid.sizes in
    let p = there at.Else-not-is_present in
    let e = total_less c.args.total.0 c.mix.ensures.value c.at-own.ensures.0 c.at-own.ensures.1 c.moved-rest.ensures in
    let counts = departing_counted c.args.words.now s.n c.args.counts.now c.in_ok-ready.ensures.lent.0 s c.args.fragment p c.new.ensures c.strand-strand.ensures in
    depart_refuses _ _ _ ok c.if-s-f.false p (rw (c.total_ok.ensures, c.fits.ensures, e, counts) at c.if-not-in_range.true)

pub fits-requires-clause-rises : goal.fits-requires-clause-rises
fits-requires-clause-rises c = chain_held c.in_ok-ready.ready.case.case_in c.args.fragment c.if-s-f.false c.new.ensures

pub fits-requires-clause-lent : goal.fits-requires-clause-lent
fits-requires-clause-lent c = counts_lent (kept_past _ _ (ready (goal.at.fits-requires-clause-lent c).In_ok-ready)) (omega arith)

pub put-requires : goal.put-requires
put-requires c =
    let k = kept_past _ _ (ready (goal.at.put-requires c).In_ok-ready) in
    omega (arith, k.likelihoods_long, c.if-s-f.false)

pub count-requires-clause-rises : goal.count-requires-clause-rises
count-requires-clause-rises c = chain_held c.in_ok-ready.ready.case.case_in c.args.fragment c.if-s-f.false c.new-2.ensures

pub count-requires-clause-lent : goal.count-requires-clause-lent
count-requires-clause-lent c = counts_lent (kept_past _ _ (ready (goal.at.count-requires-clause-lent c).In_ok-ready)) (omega arith)

pub returns : goal.returns
returns c =
    let at = goal.at.returns c in
    let ok = ready at.In_ok-ready in
    let s = c.in_ok-ready.ready.case.laid.sizes in
    let w = c.in_ok-ready.ensures.lent.0 in
    let p = there at.Else-not-is_present in
    let e = total_less c.args.total.0 c.mix.ensures.value c.at-own.ensures.0 c.at-own.ensures.1 c.moved-rest.ensures in
    let counts = departing_counted c.args.words.now s.n c.args.counts.now w s c.args.fragment p c.new.ensures c.strand-strand.ensures in
    depart_updates _ _ _ ok c.if-s-f.false p c.moved-rest.result e (rw (c.total_ok.ensures, c.fits.ensures, e, counts) at c.if-not-in_range.false)
    c.lay_departure.ensures
    c.put.ensures
    (c.count.ensures ∙ departing_counted c.args.words.now s.n c.args.counts.now w s c.args.fragment p c.new-2.ensures c.strand-strand.ensures)
