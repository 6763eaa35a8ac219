use Rattle.std.proofs.Common.{◌≡◌}
use Rattle.variants_and_fragments.specs.Written.{written}
use Rattle.haplotype_assembly.specs.Inner.PhaseRead.{flags_at}
use Rattle.haplotype_assembly.proofs.phase.write_flags.Given as goal

-- the flags of the variants below v are written
abbrev pub invariant-loop-v : goal.invariant-loop-v
invariant-loop-v l = l.phased ≡ written (flags_at l.case.laid.words.now l.phase) l.v l.initial.phased
