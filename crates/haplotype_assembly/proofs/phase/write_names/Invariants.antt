use Rattle.std.proofs.Common.{◌≡◌}
use Rattle.variants_and_fragments.specs.Written.{written}
use Rattle.haplotype_assembly.specs.Inner.PhaseRead.{phase_name_at}
use Rattle.haplotype_assembly.proofs.phase.write_names.Given as goal

-- the names of the variants below v are written
abbrev pub invariant-loop-v : goal.invariant-loop-v
invariant-loop-v l = l.names ≡ written (phase_name_at l.words l.phase l.sets l.n) l.v l.initial.names
