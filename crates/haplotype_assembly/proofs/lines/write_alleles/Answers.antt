use Rattle.std.proofs.Common.{[], ◌∷◌, ◌++◌, ap, ◌∙◌, arith}
use Rattle.haplotype_assembly.specs.Lines.{digit, block_start, allele_bytes}
use Rattle.haplotype_assembly.specs.Inner.LinesRead.{call_of}
use Rattle.haplotype_assembly.proofs.Gathered.{gather_room, gather_on, gather_end}
use Rattle.haplotype_assembly.proofs.Pieces.{alleles_on}
use Rattle.haplotype_assembly.proofs.lines.write_alleles.Goals as goal

pub write_call-end-requires-clause-allele_in_bounds : goal.write_call-end-requires-clause-allele_in_bounds
write_call-end-requires-clause-allele_in_bounds c =
    gather_room c.loop-row.invariant (block_start c.loop-row.next c.in-Some.row.variant ++ (digit c.in-Some.row.allele ∷ [])) _
    (ap (allele_bytes c.loop-row.next) c.in-Some.ensures.steps.0 ∙ alleles_on _ (call_of c.in-Some.row) _) c.requires

pub overflow_add-next : goal.overflow_add-next
overflow_add-next c = omega (arith, c.in-Some.ensures.steps.1.variant_top)

pub loop-row-preserved : goal.loop-row-preserved
loop-row-preserved c =
    gather_on c.loop-row.invariant (block_start c.loop-row.next c.in-Some.row.variant ++ (digit c.in-Some.row.allele ∷ [])) _
    (ap (allele_bytes c.loop-row.next) c.in-Some.ensures.steps.0 ∙ alleles_on _ (call_of c.in-Some.row) _) c.write_call-end.ensures

pub returns : goal.returns
unfolding allele_bytes
returns c = gather_end c.loop-row.invariant (ap (allele_bytes c.loop-row.next) c.in-None.ensures.steps.0.0)
