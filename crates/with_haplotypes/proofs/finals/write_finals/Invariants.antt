-- The qualities of the variants before v are written. Assumes nothing.
use Rattle.with_haplotypes.specs.Inner.Finals.{FinalsWritten}
use Rattle.with_haplotypes.proofs.finals.write_finals.Given as goal

abbrev pub invariant-loop-v : goal.invariant-loop-v
invariant-loop-v l = FinalsWritten l.laid.words.now l.post l.v l.fn.quals l.fn.gqs l.quals l.gqs
