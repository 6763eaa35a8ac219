use Rattle.pileup.specs.Inner.Packed.{unpacked}
use Rattle.pileup.proofs.row.Row.unpack.Goals as goal

pub returns : goal.returns
unfolding unpacked
returns c = rw (← c.below.ensures, ← c.above.ensures)
