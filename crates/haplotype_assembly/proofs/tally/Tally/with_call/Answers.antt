-- A call that goes on with the block adds a byte, another the start of a block too.
use Rattle.haplotype_assembly.proofs.Tallies.{tally_same, tally_new}
use Rattle.haplotype_assembly.proofs.tally.Tally.with_call.Goals as goal

pub returns-then-v-self : goal.returns-then-v-self
returns-then-v-self c = tally_same _ _ c.if-v-self.true

pub returns : goal.returns
returns c = tally_new _ _ c.if-v-self.false _ c.digit_count-digits.ensures
