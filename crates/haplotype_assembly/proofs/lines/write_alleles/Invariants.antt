-- What is put, with the alleles of the calls that are left, is the whole.
use Rattle.haplotype_assembly.specs.Lines.{allele_bytes}
use Rattle.haplotype_assembly.proofs.Gathered.{Gathered}
use Rattle.haplotype_assembly.proofs.lines.write_alleles.Given as goal

abbrev pub invariant-loop-row : goal.invariant-loop-row
invariant-loop-row l = Gathered (allele_bytes l.fn.next l.fn.shown) (allele_bytes l.next l.row-iterator) l.initial.buffer l.buffer l.fn.at l.end
