-- The first call rises, and another one's variant is compared with that of the call before.
use Rattle.std.proofs.Common.{eq-eqb, ne_eqb}
use Rattle.pileup.specs.Inner.Reader.{held_call}
use Rattle.late_reads.specs.Arriving.{arriving_rises}
use Rattle.late_reads.proofs.arriving.Arrival.rises.Goals as goal

pub returns-then-i-eq0 : goal.returns-then-i-eq0
unfolding arriving_rises
returns-then-i-eq0 c = rw (eq-eqb _ _ c.if-i-eq0.true)

pub returns-else-i-eq0 : goal.returns-else-i-eq0
unfolding arriving_rises held_call
returns-else-i-eq0 c = rw (ne_eqb _ _ c.if-i-eq0.false, c.call.ensures, c.call-else-i-eq0.ensures)
