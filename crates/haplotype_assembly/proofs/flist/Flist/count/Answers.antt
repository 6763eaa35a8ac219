use Rattle.haplotype_assembly.proofs.Counting.{counted_on, counted_end}
use Rattle.haplotype_assembly.proofs.flist.Flist.count.Goals as goal

pub loop-f-preserved : goal.loop-f-preserved
loop-f-preserved c = counted_on c.loop-f.invariant c.loop-f-test.true _ c.count_fragment-counted.ensures

pub returns : goal.returns
returns c = counted_end c.loop-f.invariant c.loop-f-test.false
