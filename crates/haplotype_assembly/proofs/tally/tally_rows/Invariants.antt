-- With the calls that are left, the tally becomes that of all.
use Rattle.haplotype_assembly.proofs.Tallies.{Tallying}
use Rattle.haplotype_assembly.proofs.tally.tally_rows.Given as goal

abbrev pub invariant-loop-row : goal.invariant-loop-row
invariant-loop-row l = Tallying l.fn.n l.fn.shown l.row-iterator l.tally
