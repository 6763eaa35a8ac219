-- The fragments passed are right, and the flags mark their records.
use Rattle.std.proofs.Common.{◌≡◌, ℕ, ◌<◌, true}
use Rattle.variants_and_fragments.specs.Chain.{fragment_ok, reached}
use Rattle.variants_and_fragments.specs.Inner.Chain.{Marked}
use Rattle.variants_and_fragments.proofs.chains.check_fragments.Given as goal

abbrev pub invariant-loop-f : goal.invariant-loop-f
invariant-loop-f l = record {
  right : (j : ℕ) → j < l.f → fragment_ok l.laid.words.now l.laid.sizes j ≡ true;
  marked : Marked l.seen (reached l.laid.words.now l.laid.sizes l.f);
}
