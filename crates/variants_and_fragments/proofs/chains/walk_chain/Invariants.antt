-- What is left of the chain decides, and the flags mark what was passed.
use Rattle.variants_and_fragments.specs.Chain.{link_ok, chain_of, reached}
use Rattle.variants_and_fragments.proofs.Walks.{Walking}
use Rattle.variants_and_fragments.proofs.chains.walk_chain.Given as goal

abbrev pub invariant-loop-k : goal.invariant-loop-k
invariant-loop-k l =
    let w = l.laid.words.now in
    let s = l.laid.sizes in
    Walking w s (link_ok w s) s.c (reached w s l.f) (chain_of w s l.f) l.seen l.r l.k
