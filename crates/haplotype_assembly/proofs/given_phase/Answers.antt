-- Each way out is one line of the table, or what is written of an accepted case.
use Rattle.std.proofs.Common.{sym, ◌∙◌, arith}
use Rattle.variants_and_fragments.proofs.Outcomes.{exit_is, case_stops, case_past, enough_fits, promise_refused, promise_done}
use Rattle.variants_and_fragments.proofs.Short.{short_fits}
use Rattle.haplotype_assembly.specs.GivenPhase.{phase_slices, given_phase_outcome}
use Rattle.haplotype_assembly.proofs.PhaseLaws.{phase_stops, phase_passes, faultless, phase_written}
use Rattle.haplotype_assembly.proofs.given_phase.Goals as goal

pub returns-in_err-check_case : goal.returns-in_err-check_case
unfolding given_phase_outcome
returns-in_err-check_case c =
    rw (exit_is c.from_residual.ensures.1)
    (promise_refused _ (case_stops _ _ _ _ c.in_err-check_case.ensures.outcome))

pub returns-in_err-check_phase : goal.returns-in_err-check_phase
unfolding given_phase_outcome
returns-in_err-check_phase c =
    let phase = rw c.accepted_words-case.ensures at c.in_err-check_phase.ensures in
    rw (exit_is c.from_residual-in_err-check_phase.ensures.1) (promise_refused _ (phase_stops _ _ _ _ _ phase ∙ case_past _ _ _ c.in_ok-check_case.field-0 c.in_ok-check_case.ensures.outcome))

pub returns-in_err-long_enough : goal.returns-in_err-long_enough
unfolding given_phase_outcome
returns-in_err-long_enough c =
    let phase = rw c.accepted_words-case.ensures at c.in_ok-check_phase.ensures in
    let enough = rw c.accepted_words-case.ensures at c.in_err-long_enough.ensures in
    rw (exit_is c.from_residual-in_err-long_enough.ensures.1) (promise_refused _ (enough ∙ phase_passes _ _ _ _ phase ∙ case_past _ _ _ c.in_ok-check_case.field-0 c.in_ok-check_case.ensures.outcome))

pub write_phase-requires : goal.write_phase-requires
write_phase-requires c =
    let h = short_fits _ _ _ (enough_fits _ c.in_ok-long_enough.ensures) in
    let f = faultless _ _ _ c.in_ok-check_phase.ensures in
    (omega (arith, f.bytes_long), (h.0, (short_fits _ _ _ h.1).0))

pub invariant_of-write_names : goal.invariant_of-write_names
invariant_of-write_names c = record { faultless = faultless _ _ _ c.in_ok-check_phase.ensures }

pub write_names-requires : goal.write_names-requires
write_names-requires c =
    let h = short_fits _ _ _ (enough_fits _ c.in_ok-long_enough.ensures) in
    let p = short_fits _ _ _ h.1 in (short_fits _ _ _ p.1).0

pub returns : goal.returns
unfolding given_phase_outcome
returns c =
    let same = c.accepted_words-case.ensures in
    let lent = c.in_ok-check_case.ensures.lent in
    let phase = rw same at c.in_ok-check_phase.ensures in
    let enough = rw same at c.in_ok-long_enough.ensures in
    promise_done tt
    (enough ∙ phase_passes _ _ _ _ phase ∙ case_past _ _ _ c.in_ok-check_case.field-0 c.in_ok-check_case.ensures.outcome)
    (phase_written _ _ _ (sym c.in_ok-check_case.ensures.outcome) _ _ (phase_slices c.args.haplotypes.now c.args.phased.now c.args.names.now) _ _ _
    (rw (same, lent.0) at c.write_phase.ensures.haplotypes_after) (rw (same, lent.0) at c.write_phase.ensures.phased_after) (rw (same, lent.0) at c.write_names.ensures))
