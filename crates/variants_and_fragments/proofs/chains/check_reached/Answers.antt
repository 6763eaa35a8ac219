-- No flag is set at the start.
use Rattle.variants_and_fragments.proofs.Walks.{clear_marked}
use Rattle.variants_and_fragments.proofs.chains.check_reached.Goals as goal

pub mark_reached-requires : goal.mark_reached-requires
mark_reached-requires c = clear_marked
