-- What is left of the free chain decides, and the flags mark what was passed.
use Rattle.std.proofs.Common.{suc}
use Rattle.variants_and_fragments.specs.Chain.{next_ok, free_chain, reached}
use Rattle.variants_and_fragments.proofs.Walks.{Walking}
use Rattle.variants_and_fragments.proofs.chains.walk_free.Given as goal

abbrev pub invariant-loop-k : goal.invariant-loop-k
invariant-loop-k l =
    let w = l.laid.words.now in
    let s = l.laid.sizes in
    Walking w s (next_ok w s) (suc s.c) (reached w s s.f) (free_chain w s) l.seen l.t l.k
