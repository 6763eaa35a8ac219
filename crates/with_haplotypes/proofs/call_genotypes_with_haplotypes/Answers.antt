-- Each way out is a line of the table, or the round. Assumes nothing.
use Rattle.std.proofs.Common.{◌≡◌, sym}
use Rattle.variants_and_fragments.proofs.Outcomes.{exit_is}
use Rattle.variants_and_fragments.specs.Refusals.{done, smallest_short}
use Rattle.with_haplotypes.specs.Round.{round_input}
use Rattle.with_haplotypes.specs.Promise.{round_slices, round_needs}
use Rattle.with_haplotypes.specs.Inner.Checks.{round_checks}
use Rattle.with_haplotypes.proofs.CheckLaws.{rates_stop, phase_stop, orders_stop, limit_stop, short_stop, all_pass}
use Rattle.with_haplotypes.proofs.RoundAnswers.{admits, answer_case, answer_checks, answer_done}
use Rattle.with_haplotypes.proofs.call_genotypes_with_haplotypes.Goals as goal
use Rattle.with_haplotypes.proofs.call_genotypes_with_haplotypes.Goals.{In_ok-long_enough}

pub returns-in_err-case : goal.returns-in_err-case
returns-in_err-case c =
    rw (exit_is c.from_residual.ensures.1)
    (answer_case _ _ _ _ c.in_err-case.ensures.outcome)

pub returns-in_err-rates : goal.returns-in_err-rates
returns-in_err-rates c =
    rw (exit_is c.from_residual-in_err-rates.ensures.1)
    (answer_checks _ _ _ _ _ (sym c.in_ok-case.ensures.outcome) (rates_stop _ _ _ _ _ _ _ _ c.in_err-rates.ensures.outcome))

pub returns-in_err-check_phase : goal.returns-in_err-check_phase
returns-in_err-check_phase c =
    rw (exit_is c.from_residual-in_err-check_phase.ensures.1)
    (answer_checks _ _ _ _ _ (sym c.in_ok-case.ensures.outcome)
    (phase_stop _ _ _ _ _ _ _ c.in_ok-rates.ensures.outcome _ c.in_err-check_phase.ensures))

pub returns-in_err-m : goal.returns-in_err-m
returns-in_err-m c =
    rw (exit_is c.from_residual-in_err-m.ensures.1)
    (answer_checks _ _ _ _ _ (sym c.in_ok-case.ensures.outcome)
    (orders_stop _ _ _ _ _ _ _ c.in_ok-rates.ensures.outcome c.in_ok-check_phase.ensures _ c.in_err-m.ensures))

pub returns-in_err-check_limit : goal.returns-in_err-check_limit
returns-in_err-check_limit c =
    rw (exit_is c.from_residual-in_err-check_limit.ensures.1)
    (answer_checks _ _ _ _ _ (sym c.in_ok-case.ensures.outcome)
    (limit_stop _ _ _ _ _ _ _ c.in_ok-rates.ensures.outcome c.in_ok-check_phase.ensures _ c.in_ok-m.ensures _ c.in_err-check_limit.ensures))

pub returns-in_err-long_enough : goal.returns-in_err-long_enough
returns-in_err-long_enough c =
    rw (exit_is c.from_residual-in_err-long_enough.ensures.1)
    (answer_checks _ _ _ _ _ (sym c.in_ok-case.ensures.outcome)
    (short_stop _ _ _ _ _ _ _ c.in_ok-rates.ensures.outcome c.in_ok-check_phase.ensures _ c.in_ok-m.ensures c.in_ok-check_limit.ensures _ c.in_err-long_enough.ensures))

-- past all checks
passed : (c : In_ok-long_enough) → done c.in_ok-m.m ≡ round_checks c.in_ok-case.case.laid.sizes.n c.args.rates c.args.phase.now c.args.sets.now c.args.orders.now c.args.limit (smallest_short (round_needs c.in_ok-case.case.laid.sizes.n c.in_ok-case.case.laid.sizes.f (round_slices c.args.haplotypes.now c.args.likelihoods.now c.args.posteriors.now c.args.quals.now c.args.gqs.now)))
passed c = all_pass _ _ _ _ _ _ _ c.in_ok-rates.ensures.outcome c.in_ok-check_phase.ensures _ c.in_ok-m.ensures c.in_ok-check_limit.ensures c.in_ok-long_enough.ensures

pub invariant_of-round : goal.invariant_of-round
invariant_of-round c =
    let k = passed (goal.at.invariant_of-round c).In_ok-long_enough in
    let lent = c.in_ok-case.ensures.lent in
    record { admitted = rw (lent.0, lent.1, c.in_ok-rates.ensures.same) (admits _ _ _ _ _ (sym c.in_ok-case.ensures.outcome) (sym k)).0 }

pub call-requires : goal.call-requires
call-requires c =
    let k = passed (goal.at.call-requires c).In_ok-long_enough in
    (admits (round_input c.args.words.now c.args.bases.now c.args.rates c.args.phase.now c.args.orders.now c.args.limit) _ _ _ _ (sym c.in_ok-case.ensures.outcome) (sym k)).1

pub returns : goal.returns
returns c =
    let k = passed (goal.at.returns c).In_ok-long_enough in
    let lent = c.in_ok-case.ensures.lent in
    answer_done _ _ _ _ _ (sym c.in_ok-case.ensures.outcome) (sym k) _ _ (rw (lent.0, lent.1, c.in_ok-rates.ensures.same) at c.call.ensures)
