-- A fragment without a line adds nothing, another its line's length.
use Rattle.std.proofs.Common.{sym, ◌∙◌, arith}
use Rattle.haplotype_assembly.specs.Inner.LinesRead.{shown_fragment}
use Rattle.haplotype_assembly.proofs.Counting.{on_none, on_some}
use Rattle.haplotype_assembly.proofs.Pieces.{line_top}
use Rattle.haplotype_assembly.proofs.flist.Flist.count_fragment.Goals as goal

pub returns-then-not-has_line : goal.returns-then-not-has_line
returns-then-not-has_line c = on_none _ _ _ _ _ c.tally-tally.ensures.0 (sym c.has_line.ensures ∙ c.if-not-has_line.true)

pub overflow_add-result : goal.overflow_add-result
overflow_add-result c =
    let top = line_top c.tally-tally.result _ _ c.line_bytes-bytes.ensures (omega (arith, c.args.self.now.case.laid.sized.f_top)) c.tally-tally.ensures.1 in
    omega (arith, top, c.args.self.now.case.laid.sized.f_top)

pub returns : goal.returns
returns c =
    let on = on_some _ _ (shown_fragment c.args.self.now.case.laid.words.now c.args.self.now.case.laid.sizes c.args.self.now.rows.words.now c.args.self.now.rows.ends.now c.args.f) _ c.args.counted c.tally-tally.ensures.0 (sym c.has_line.ensures ∙ c.if-not-has_line.false) (omega (arith, c.args.self.now.case.laid.sized.f_top)) c.tally-tally.ensures.1 _ c.line_bytes-bytes.ensures in
    record { bytes_are = omega (arith, on.bytes_are); lines_are = omega (arith, on.lines_are); bytes_top = omega (arith, on.bytes_top) }
