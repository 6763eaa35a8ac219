use Rattle.std.proofs.Common.{arith}
use Rattle.haplotype_assembly.proofs.Counting.{lines_on, lines_end}
use Rattle.haplotype_assembly.proofs.Gathered.{gather_room, gather_on, gather_end}
use Rattle.haplotype_assembly.proofs.Pieces.{few_more}
use Rattle.haplotype_assembly.proofs.flist.Flist.write.Goals as goal

pub write_fragment-counted-requires-clause-in_bounds : goal.write_fragment-counted-requires-clause-in_bounds
write_fragment-counted-requires-clause-in_bounds c = gather_room c.loop-f.invariant.put _ _ (lines_on _ _ _ _ _ _ c.loop-f-test.true) (omega (arith, c.requires))

pub loop-f-preserved : goal.loop-f-preserved
loop-f-preserved c = record {
  few = few_more _ _ _ _ _ c.loop-f.invariant.few c.write_fragment-counted.ensures.lines;
  put = rw c.write_fragment-counted.ensures.lines (gather_on c.loop-f.invariant.put _ _ (lines_on _ _ _ _ _ _ c.loop-f-test.true) c.write_fragment-counted.ensures.put);
}

pub returns : goal.returns
returns c = (gather_end c.loop-f.invariant.put (lines_end _ _ _ _ _ _ c.loop-f-test.false)).stored
