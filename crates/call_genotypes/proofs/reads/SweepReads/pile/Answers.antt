-- The part is the pile. Assumes nothing.
use Rattle.call_genotypes.proofs.Piles.{there, pile_is}
use Rattle.call_genotypes.proofs.reads.SweepReads.pile.Goals as goal

pub group-requires : goal.group-requires
group-requires c = there c.requires

pub returns : goal.returns
returns c = rw c.group.ensures (pile_is c.requires)
