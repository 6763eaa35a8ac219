use Rattle.std.proofs.Common.{◌≡◌, ◌*◌}
use Rattle.variants_and_fragments.specs.Written.{written}
use Rattle.haplotype_assembly.specs.Inner.PhaseRead.{start_at}
use Rattle.haplotype_assembly.proofs.phase.write_haplotypes.Given as goal

-- the pairs of the variants below v are written
abbrev pub invariant-loop-v : goal.invariant-loop-v
invariant-loop-v l = l.haplotypes ≡ written (start_at l.case.laid.words.now l.phase) (2 * l.v) l.initial.haplotypes
