-- The flags mark what the fragments passed reach.
use Rattle.variants_and_fragments.specs.Inner.Chain.{ReachMarked}
use Rattle.variants_and_fragments.proofs.chains.mark_reached.Given as goal

abbrev pub invariant-loop-f : goal.invariant-loop-f
invariant-loop-f l = ReachMarked l.laid.words.now l.laid.sizes l.f l.seen
