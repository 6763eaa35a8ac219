-- Each way out is one line of the table, or the lines written: the rows that it makes are those of the case.
use Rattle.std.proofs.Common.{sym, ap, ◌∙◌, arith}
use Rattle.variants_and_fragments.specs.Refusals.{done}
use Rattle.variants_and_fragments.proofs.Outcomes.{exit_is, case_stops, case_past, enough_stops, enough_passes, enough_fits, promise_refused, promise_done}
use Rattle.variants_and_fragments.proofs.Short.{short_fits}
use Rattle.haplotype_assembly.specs.FlistBuffer.{generate_flist_buffer_outcome}
use Rattle.haplotype_assembly.proofs.LinesDecoded.{given, bytes_are, amount_is, buffer_written}
use Rattle.haplotype_assembly.proofs.generate_flist_buffer.Goals as goal

pub returns-in_err-check_case : goal.returns-in_err-check_case
unfolding generate_flist_buffer_outcome
returns-in_err-check_case c =
    rw (exit_is c.from_residual.ensures.1)
    (promise_refused _ (case_stops _ _ _ _ c.in_err-check_case.ensures.outcome))

pub invariant_of-flist : goal.invariant_of-flist
invariant_of-flist c =
    let sized = c.accepted_words-case.result.laid.sized in
    record { lines_given = given _ sized.n_top sized.f_top (c.make_rows.ensures.0.grouped c.args.bases.now) }

pub returns-in_err-long_enough : goal.returns-in_err-long_enough
unfolding generate_flist_buffer_outcome
returns-in_err-long_enough c =
    let same = c.accepted_words-case.ensures in
    let lent = c.in_ok-check_case.ensures.lent.0 in
    let bytes = bytes_are _ _ _ (sym c.in_ok-check_case.ensures.outcome) _ _ (rw (same, lent) at (c.make_rows.ensures.0.grouped c.args.bases.now)) _ _ (rw (same, lent) at c.count-counted.ensures) in
    rw (exit_is c.from_residual-in_err-long_enough.ensures.1)
    (promise_refused _ (enough_stops _ _ _ (rw bytes at c.in_err-long_enough.ensures) ∙ case_past _ _ _ c.in_ok-check_case.field-0 c.in_ok-check_case.ensures.outcome))

pub write-requires : goal.write-requires
write-requires c = omega (arith, c.count-counted.ensures.bytes_are, (short_fits _ _ _ (enough_fits _ c.in_ok-long_enough.ensures)).0)

pub returns : goal.returns
unfolding generate_flist_buffer_outcome
returns c =
    let same = c.accepted_words-case.ensures in
    let lent = c.in_ok-check_case.ensures.lent.0 in
    let accepted = sym c.in_ok-check_case.ensures.outcome in
    let grouped = rw (same, lent) at (c.make_rows.ensures.0.grouped c.args.bases.now) in
    let counted = rw (same, lent) at c.count-counted.ensures in
    let enough = rw (bytes_are _ _ _ accepted _ _ grouped _ _ counted) at c.in_ok-long_enough.ensures in
    promise_done _
    (ap done (amount_is _ _ _ accepted _ _ grouped _ _ counted) ∙ enough_passes _ _ enough ∙ case_past _ _ _ c.in_ok-check_case.field-0 c.in_ok-check_case.ensures.outcome)
    (rw (same, lent) at c.write.ensures ∙ buffer_written _ _ _ accepted _ _ grouped _ _ (short_fits _ _ _ (enough_fits _ enough)).0)
