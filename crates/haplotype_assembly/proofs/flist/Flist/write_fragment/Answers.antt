-- A fragment without a line puts nothing, another its line.
use Rattle.std.proofs.Common.{sym, ◌∙◌, arith}
use Rattle.haplotype_assembly.proofs.Pieces.{line_none, one_none, line_shown, line_fits, one_some, no_more, one_more}
use Rattle.haplotype_assembly.proofs.Stores.{put_none, put_as}
use Rattle.haplotype_assembly.proofs.flist.Flist.write_fragment.Goals as goal

pub returns-then-not-has_line-clause-put : goal.returns-then-not-has_line-clause-put
returns-then-not-has_line-clause-put c =
    put_as (sym (line_none _ _ _ _ _ c.tally-tally.ensures.0 (sym c.has_line.ensures ∙ c.if-not-has_line.true))) (put_none _ _)

pub returns-then-not-has_line-clause-lines : goal.returns-then-not-has_line-clause-lines
returns-then-not-has_line-clause-lines c = no_more _ _ (one_none _ _ 0 _ _ c.tally-tally.ensures.0 (sym c.has_line.ensures ∙ c.if-not-has_line.true))

pub write_line-bytes-requires-clause-in_bounds : goal.write_line-bytes-requires-clause-in_bounds
write_line-bytes-requires-clause-in_bounds c =
    omega (arith, line_fits _ _ _ _ _ c.tally-tally.ensures.0 (sym c.has_line.ensures ∙ c.if-not-has_line.false) _ c.strand.ensures _ _ c.requires.in_bounds)

pub returns-clause-put : goal.returns-clause-put
returns-clause-put c =
    put_as (sym (line_shown _ _ _ _ _ c.tally-tally.ensures.0 (sym c.has_line.ensures ∙ c.if-not-has_line.false) _ c.strand.ensures)) c.write_line-bytes.ensures

pub returns-clause-lines : goal.returns-clause-lines
returns-clause-lines c = one_more _ _ (one_some _ _ 0 _ _ c.tally-tally.ensures.0 (sym c.has_line.ensures ∙ c.if-not-has_line.false))
