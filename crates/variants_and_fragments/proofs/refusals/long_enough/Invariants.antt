-- The smallest need so far, beside what is still to be looked at.
use Rattle.variants_and_fragments.proofs.Short.{Found}
use Rattle.variants_and_fragments.proofs.refusals.long_enough.Given as goal

abbrev pub invariant-loop-need : goal.invariant-loop-need
invariant-loop-need l = Found l.slices l.need-index l.short
