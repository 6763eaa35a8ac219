use Rattle.std.proofs.Common.{◌<◌, arith}
use Rattle.haplotype_assembly.proofs.Ranges.{genotype_top}
use Rattle.haplotype_assembly.proofs.phase.genotype.Goals as goal

pub overflow_cast-result : goal.overflow_cast-result
overflow_cast-result c =
    let low : c.genotype.result < 3 = rw c.genotype.ensures (genotype_top c.args.case.now.case_in _ _ c.requires.0 (omega arith)) in omega arith
