-- Each way out is a line of the table, or the answers written.
use Rattle.std.proofs.Common.{sym, ◌∙◌}
use Rattle.variants_and_fragments.proofs.Outcomes.{case_stops, each_stops, each_passes, enough_fits, exit_is, promise_refused, promise_done}
use Rattle.variants_and_fragments.proofs.Short.{short_fits}
use Rattle.no_haplotypes.specs.NoHaplotypes.{call_genotypes_no_haplotypes_outcome}
use Rattle.no_haplotypes.proofs.CallRefusals.{past_case, all_called}
use Rattle.no_haplotypes.proofs.call_genotypes_no_haplotypes.Goals as goal

pub returns-in_err-case : goal.returns-in_err-case
unfolding call_genotypes_no_haplotypes_outcome
returns-in_err-case c =
    rw (exit_is c.from_residual.ensures.1) (promise_refused _ (case_stops _ _ _ _ c.in_err-case.ensures.outcome))

pub returns-in_err-accepted : goal.returns-in_err-accepted
returns-in_err-accepted c =
    rw (exit_is c.from_residual-in_err-accepted.ensures.1) (promise_refused _ (each_stops 6 _ 0 7 _ _ c.in_err-accepted.ensures.outcome ∙ past_case _ _ _ _ _ (sym c.in_ok-case.ensures.outcome)))

pub returns-in_err-long_enough : goal.returns-in_err-long_enough
returns-in_err-long_enough c =
    rw (exit_is c.from_residual-in_err-long_enough.ensures.1) (promise_refused _ (c.in_err-long_enough.ensures ∙ each_passes 6 _ 0 7 _ c.in_ok-accepted.ensures.outcome ∙ past_case _ _ _ _ _ (sym c.in_ok-case.ensures.outcome)))

pub call_accepted-requires : goal.call_accepted-requires
call_accepted-requires c =
    let variants = short_fits _ _ _ (enough_fits _ c.in_ok-long_enough.ensures) in
    let quals = short_fits _ _ _ variants.1 in
    (variants.0, quals.0, (short_fits _ _ _ quals.1).0)

pub returns : goal.returns
returns c =
    let lent = c.in_ok-case.ensures.lent in
    promise_done tt
    (c.in_ok-long_enough.ensures ∙ each_passes 6 _ 0 7 _ c.in_ok-accepted.ensures.outcome ∙ past_case _ _ _ _ _ (sym c.in_ok-case.ensures.outcome))
    (rw (← lent.0, ← lent.1, ← c.in_ok-accepted.ensures.same) (all_called _ _ _ _ c.in_ok-case.case.case_in c.call_accepted.ensures))
