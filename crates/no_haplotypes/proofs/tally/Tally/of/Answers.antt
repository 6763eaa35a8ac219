-- One call more is added.
use Rattle.std.proofs.Common.{get_or, refl, arith}
use Rattle.pileup.specs.Inner.Packed.{unpacked}
use Rattle.no_haplotypes.proofs.TallyLaws.{rows_more, tallied_start, tallied_on, sums_to}
use Rattle.no_haplotypes.proofs.tally.Tally.of.Goals as goal

pub loop-word-init : goal.loop-word-init
loop-word-init c = tallied_start refl refl refl

pub add-requires-clause-sums_in : goal.add-requires-clause-sums_in
add-requires-clause-sums_in c = sums_to c.requires c.loop-word.word-index c.loop-word.invariant

pub loop-word-preserved : goal.loop-word-preserved
loop-word-preserved c =
    let i = c.loop-word.word-index in
    rw (rows_more c.args.usable.now i c.loop-word-test.true)
    (tallied_on c.loop-word.invariant (unpacked (get_or c.args.usable.now i 0)) (c.requires.rows_in i (omega arith) c.loop-word-test.true).allele_in (rw c.unpack.ensures at c.add.ensures))
