-- The calls before the index are added.
use Rattle.std.proofs.Common.{map, take}
use Rattle.pileup.specs.Inner.Packed.{unpacked}
use Rattle.no_haplotypes.specs.Inner.Tally.{Tallied}
use Rattle.no_haplotypes.proofs.tally.Tally.of.Given as goal

abbrev pub invariant-loop-word : goal.invariant-loop-word
invariant-loop-word l =
    let laid = l.case.laid in
    Tallied laid.words.now laid.sizes (map unpacked (take l.word-index l.usable)) l.tally
