-- What is counted and what the fragments from f on add make the whole.
use Rattle.haplotype_assembly.specs.Inner.LinesRead.{shown_fragment}
use Rattle.haplotype_assembly.proofs.Counting.{CountedTo}
use Rattle.haplotype_assembly.proofs.flist.Flist.count.Given as goal

abbrev pub invariant-loop-f : goal.invariant-loop-f
invariant-loop-f l = CountedTo l.self.case.laid.sizes.n l.self.single (shown_fragment l.self.case.laid.words.now l.self.case.laid.sizes l.self.rows.words.now l.self.rows.ends.now) l.self.case.laid.sizes.f l.f l.counted
