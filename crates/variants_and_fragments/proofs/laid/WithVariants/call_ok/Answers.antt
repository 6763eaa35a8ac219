-- The record's words are right.
use Rattle.variants_and_fragments.specs.Layout.{call_ok}
use Rattle.variants_and_fragments.proofs.laid.WithVariants.call_ok.Goals as goal

pub returns : goal.returns
unfolding call_ok
returns c = rw c.call_words.ensures at c.call_words_ok.ensures
