-- What is put, with the qualities of the calls that are left, is the whole.
use Rattle.std.proofs.Common.{map}
use Rattle.haplotype_assembly.specs.Lines.{call_quality}
use Rattle.haplotype_assembly.proofs.Gathered.{Gathered}
use Rattle.haplotype_assembly.proofs.lines.write_qualities.Given as goal

abbrev pub invariant-loop-row : goal.invariant-loop-row
invariant-loop-row l = Gathered (map call_quality l.fn.shown) (map call_quality l.row-iterator) l.initial.buffer l.buffer l.fn.at l.end
