-- Before the first fragment nothing is reached.
use Rattle.variants_and_fragments.proofs.Reach.{reach_none}
use Rattle.variants_and_fragments.proofs.chains.mark_reached.Goals as goal

pub loop-f-init : goal.loop-f-init
loop-f-init c = reach_none _ _ _ c.requires
