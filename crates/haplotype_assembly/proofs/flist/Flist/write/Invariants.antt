-- What is put, with the lines of the fragments from f on, is the whole.
use Rattle.std.proofs.Common.{◌≤◌, ◌-◌}
use Rattle.variants_and_fragments.specs.Decode.{tabulate_from}
use Rattle.haplotype_assembly.specs.Inner.LinesRead.{shown_fragment, shown_fragments, lines_over}
use Rattle.haplotype_assembly.proofs.Gathered.{Gathered}
use Rattle.haplotype_assembly.proofs.flist.Flist.write.Given as goal

abbrev pub invariant-loop-f : goal.invariant-loop-f
invariant-loop-f l =
    let fragment = shown_fragment l.self.case.laid.words.now l.self.case.laid.sizes l.self.rows.words.now l.self.rows.ends.now in
    record {
      few : l.counted.lines ≤ l.f;
      put : Gathered (lines_over l.self.case.laid.sizes.n l.self.single 0 (shown_fragments l.self.case.laid.words.now l.self.case.laid.sizes l.self.rows.words.now l.self.rows.ends.now))
          (lines_over l.self.case.laid.sizes.n l.self.single l.counted.lines (tabulate_from fragment l.f (l.self.case.laid.sizes.f - l.f)))
          l.initial.buffer l.buffer 0 l.counted.bytes;
    }
