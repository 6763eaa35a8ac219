use Rattle.haplotype_assembly.specs.Inner.PhaseRead.{NamedTo}
use Rattle.haplotype_assembly.proofs.phase.least_names.Given as goal

-- the names are read over the variants below v
abbrev pub invariant-loop-v : goal.invariant-loop-v
invariant-loop-v l = NamedTo l.case.laid.words.now l.sets l.case.laid.sizes.n l.v l.least
