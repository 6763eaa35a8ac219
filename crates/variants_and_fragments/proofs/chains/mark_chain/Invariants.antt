-- What is marked holds the fragment's chain, but for what goes on at r.
use Rattle.variants_and_fragments.proofs.Reach.{Reaching}
use Rattle.variants_and_fragments.proofs.chains.mark_chain.Given as goal

abbrev pub invariant-loop-k : goal.invariant-loop-k
invariant-loop-k l = Reaching l.laid.words.now l.laid.sizes l.f l.seen l.r l.k
