-- The calls of the rows that are left are those of all.
use Rattle.std.proofs.Common.{◌≡◌, map, length}
use Rattle.variants_and_fragments.specs.Inner.Case.{All}
use Rattle.pileup.specs.Inner.Packed.{unpacked, RowIn}
use Rattle.haplotype_assembly.specs.Inner.LinesRead.{shown_calls}
use Rattle.haplotype_assembly.proofs.flist.ShownCallsIterator.next.Given as goal

abbrev pub invariant-loop-word : goal.invariant-loop-word
invariant-loop-word l = record {
  same : shown_calls l.self-inside.case.laid.words.now (map unpacked l.self-inside.rows.now) ≡ shown_calls l.initial.self-inside.case.laid.words.now (map unpacked l.initial.self-inside.rows.now);
  rows_in : All (RowIn l.self-inside.case.laid.sizes.n l.self-inside.case.laid.sizes.f) (map unpacked l.self-inside.rows.now);
}

abbrev pub decreases-loop-word : goal.decreases-loop-word
decreases-loop-word l = length l.self-inside.rows.now
