use Rattle.pileup.specs.Inner.Packed.{packed}
use Rattle.pileup.proofs.row.Row.pack.Goals as goal

pub returns : goal.returns
unfolding packed
returns c = rw (c.debt-qual.ensures.0, c.debt.ensures.0)
