-- Each way out is a line of the table, or the priors written.
use Rattle.std.proofs.Common.{sym, ◌∙◌}
use Rattle.variants_and_fragments.proofs.Decoded.{variants_are}
use Rattle.variants_and_fragments.proofs.Outcomes.{case_stops, case_past, each_stops, each_passes, enough_past, exit_is, promise_refused, promise_done}
use Rattle.variants_and_fragments.proofs.Short.{short_fits}
use Rattle.genotype_probs.specs.Answers.{genotype_priors_outcome, genotype_priors_written}
use Rattle.genotype_probs.proofs.genotype_priors.Goals as goal

pub returns-in_err-case : goal.returns-in_err-case
unfolding genotype_priors_outcome
returns-in_err-case c =
    rw (exit_is c.from_residual.ensures.1) (promise_refused _ (case_stops _ _ _ _ c.in_err-case.ensures.outcome))

pub returns-in_err-accepted : goal.returns-in_err-accepted
unfolding genotype_priors_outcome
returns-in_err-accepted c =
    rw (exit_is c.from_residual-in_err-accepted.ensures.1) (promise_refused _ (each_stops 6 _ 0 7 _ _ c.in_err-accepted.ensures.outcome ∙ case_past _ _ _ c.in_ok-case.case c.in_ok-case.ensures.outcome))

pub returns-in_err-long_enough : goal.returns-in_err-long_enough
unfolding genotype_priors_outcome
returns-in_err-long_enough c =
    rw (exit_is c.from_residual-in_err-long_enough.ensures.1) (promise_refused _ (c.in_err-long_enough.ensures ∙ each_passes 6 _ 0 7 _ c.in_ok-accepted.ensures.outcome ∙ case_past _ _ _ c.in_ok-case.case c.in_ok-case.ensures.outcome))

pub make_priors-requires : goal.make_priors-requires
make_priors-requires c = (short_fits _ _ _ (enough_past _ _ tt (sym c.in_ok-long_enough.ensures)).0).0

pub returns : goal.returns
unfolding genotype_priors_outcome genotype_priors_written
returns c =
    let lent = c.in_ok-case.ensures.lent in
    promise_done tt
    (c.in_ok-long_enough.ensures ∙ each_passes 6 _ 0 7 _ c.in_ok-accepted.ensures.outcome ∙ case_past _ _ _ c.in_ok-case.case c.in_ok-case.ensures.outcome)
    (rw (← lent.0, ← lent.1, variants_are c.in_ok-case.case.case_in c.in_ok-case.case.bases.now, ← c.in_ok-accepted.ensures.same) c.make_priors.ensures)
