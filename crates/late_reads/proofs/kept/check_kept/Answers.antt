-- At each return the tests before it went on and its own stopped, or none did.
use Rattle.std.proofs.Common.{sym, ◌∙◌, eq-eqb, ne_eqb}
use Rattle.variants_and_fragments.proofs.Outcomes.{exit_is, check_past, then_refused, unless_on, unless_at, enough_past, enough_stops, enough_passes}
use Rattle.variants_and_fragments.proofs.Short.{short_fits}
use Rattle.late_reads.specs.LateReads.{kept_outcome}
use Rattle.late_reads.proofs.kept.check_kept.Goals as goal

pub returns-in_err-case-clause-outcome : goal.returns-in_err-case-clause-outcome
unfolding kept_outcome
returns-in_err-case-clause-outcome c =
    rw (exit_is c.from_residual.ensures.1) (then_refused _ _ _ c.in_err-case.ensures.outcome)

pub returns-then-phase-s-clause-outcome : goal.returns-then-phase-s-clause-outcome
unfolding kept_outcome
returns-then-phase-s-clause-outcome c = unless_at _ 7 _ _ (ne_eqb _ _ c.if-phase-s.true) ∙ check_past _ _ c.in_ok-case.case c.in_ok-case.ensures.outcome

pub returns-in_err-long_enough-clause-outcome : goal.returns-in_err-long_enough-clause-outcome
unfolding kept_outcome
returns-in_err-long_enough-clause-outcome c =
    rw (exit_is c.from_residual-in_err-long_enough.ensures.1)
    (enough_stops _ _ _ c.in_err-long_enough.ensures ∙ unless_on _ 7 _ _ (eq-eqb _ _ c.if-phase-s.false) ∙ check_past _ _ c.in_ok-case.case c.in_ok-case.ensures.outcome)

pub in_range-requires : goal.in_range-requires
in_range-requires c =
    let z = c.in_ok-case.case.laid.sized in
    let h = short_fits _ _ _ (enough_past _ _ tt (sym c.in_ok-long_enough.ensures)).0 in
    let l = short_fits _ _ _ h.1 in
    (z.n_top, z.f_top, l.0, (short_fits _ _ _ l.1).0)

pub returns-then-not-in_range-clause-outcome : goal.returns-then-not-in_range-clause-outcome
unfolding kept_outcome
returns-then-not-in_range-clause-outcome c =
    unless_at _ 10 0 _ (sym c.in_range.ensures ∙ c.if-not-in_range.true)
    ∙ enough_passes _ _ c.in_ok-long_enough.ensures
    ∙ unless_on _ 7 _ _ (eq-eqb _ _ c.if-phase-s.false)
    ∙ check_past _ _ c.in_ok-case.case c.in_ok-case.ensures.outcome

pub invariant_of-result : goal.invariant_of-result
invariant_of-result c = record {
  ready = record {
    case_in = c.accepted_words.result.case_in;
    phase_long = rw c.accepted_words.ensures c.if-phase-s.false;
    haps_long = rw c.accepted_words.ensures (short_fits _ _ _ (enough_past _ _ tt (sym c.in_ok-long_enough.ensures)).0).0;
  };
}

pub returns-clause-outcome : goal.returns-clause-outcome
unfolding kept_outcome
returns-clause-outcome c =
    rw c.accepted_words.ensures (unless_on _ 10 0 _ (sym c.in_range.ensures ∙ c.if-not-in_range.false)
    ∙ enough_passes _ _ c.in_ok-long_enough.ensures
    ∙ unless_on _ 7 _ _ (eq-eqb _ _ c.if-phase-s.false)
    ∙ check_past _ _ c.in_ok-case.case c.in_ok-case.ensures.outcome)
