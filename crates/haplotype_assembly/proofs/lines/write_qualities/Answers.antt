use Rattle.std.proofs.Common.{[], ◌∷◌, map, ap}
use Rattle.haplotype_assembly.specs.Lines.{call_quality}
use Rattle.haplotype_assembly.specs.Inner.LinesRead.{call_of}
use Rattle.haplotype_assembly.proofs.Gathered.{gather_on}
use Rattle.haplotype_assembly.proofs.Stores.{put_one}
use Rattle.haplotype_assembly.proofs.lines.write_qualities.Goals as goal

pub quality_of-requires : goal.quality_of-requires
quality_of-requires c = c.in-Some.ensures.steps.1.qual_in

pub loop-row-preserved : goal.loop-row-preserved
loop-row-preserved c = rw c.quality_of.ensures (gather_on c.loop-row.invariant (call_quality (call_of c.in-Some.row) ∷ []) _ (ap (map call_quality) c.in-Some.ensures.steps.0) (put_one _ _ _))
