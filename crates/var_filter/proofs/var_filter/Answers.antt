-- Each way out is one line of the table, or the filters written.
use Rattle.std.proofs.Common.{◌∙◌, sym}
use Rattle.variants_and_fragments.specs.declared.Refusal.TheVariants.{DensityQual}
use Rattle.variants_and_fragments.proofs.Decoded.{variants_are}
use Rattle.variants_and_fragments.proofs.Outcomes.{unless_on, unless_at, enough_stops, enough_passes, enough_fits, case_stops, case_past, exit_is, promise_refused, promise_done}
use Rattle.variants_and_fragments.proofs.Short.{short_fits}
use Rattle.var_filter.specs.Filtered.{var_filter_outcome, var_filter_written}
use Rattle.var_filter.proofs.var_filter.Goals as goal

pub returns-in_err-case : goal.returns-in_err-case
unfolding var_filter_outcome
returns-in_err-case c =
    rw (exit_is c.from_residual.ensures.1) (promise_refused _ (case_stops _ _ _ _ c.in_err-case.ensures.outcome))

pub returns-in_err-long_enough : goal.returns-in_err-long_enough
unfolding var_filter_outcome
returns-in_err-long_enough c =
    rw (exit_is c.from_residual-in_err-long_enough.ensures.1) (promise_refused _ (enough_stops _ _ _ c.in_err-long_enough.ensures ∙ case_past _ _ _ c.in_ok-case.case c.in_ok-case.ensures.outcome))

pub returns-then-not-is_finite : goal.returns-then-not-is_finite
unfolding var_filter_outcome
returns-then-not-is_finite c =
    promise_refused (DensityQual 0)
    (unless_at _ 11 0 _ (sym c.is_finite.ensures.value ∙ c.if-not-is_finite.true)
    ∙ enough_passes _ _ c.in_ok-long_enough.ensures ∙ case_past _ _ _ c.in_ok-case.case c.in_ok-case.ensures.outcome)

pub invariant_of-scan : goal.invariant_of-scan
invariant_of-scan c = record { quals_in = rw c.accepted_words.ensures (short_fits _ _ _ (enough_fits _ c.in_ok-long_enough.ensures)).0 }

pub write_filters-requires : goal.write_filters-requires
write_filters-requires c = rw c.accepted_words.ensures (short_fits _ _ _ (short_fits _ _ _ (enough_fits _ c.in_ok-long_enough.ensures)).1).0

pub returns : goal.returns
unfolding var_filter_outcome var_filter_written
returns c =
    let n = rw c.in_ok-case.ensures.lent.0 at (variants_are c.in_ok-case.case.case_in c.args.bases.now) in
    promise_done tt
    (unless_on _ 11 0 _ (sym c.is_finite.ensures.value ∙ c.if-not-is_finite.false)
    ∙ enough_passes _ _ c.in_ok-long_enough.ensures ∙ case_past _ _ _ c.in_ok-case.case c.in_ok-case.ensures.outcome)
    (rw n (rw (c.accepted_words.ensures, c.in_ok-case.ensures.lent.0) at (c.write_filters.ensures c.args.bases.now)))
