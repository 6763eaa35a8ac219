-- The test decides as the definition does.
use Rattle.std.proofs.Common.{eq-eqb, ne_eqb}
use Rattle.late_reads.specs.Inner.Room.{front_of}
use Rattle.late_reads.proofs.words.RoomLeft.front.Goals as goal

pub returns-then-self-eq0 : goal.returns-then-self-eq0
unfolding front_of
returns-then-self-eq0 c = rw (eq-eqb _ _ c.if-self-eq0.true)

pub returns : goal.returns
unfolding front_of
returns c = rw (ne_eqb _ _ c.if-self-eq0.false)
