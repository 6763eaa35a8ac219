-- Strand, then first call, then the walk of the chain.
use Rattle.std.proofs.Common.{arith, ◌∙◌, sym, refl}
use Rattle.std.proofs.lemmas.Bool.{lt-leb}
use Rattle.variants_and_fragments.specs.Chain.{reached}
use Rattle.variants_and_fragments.proofs.Bools.{true_false}
use Rattle.variants_and_fragments.proofs.Chain.{frag_strand, frag_first, frag_in}
use Rattle.variants_and_fragments.proofs.chains.fragment_ok.Goals as goal
use Rattle.variants_and_fragments.proofs.chains.fragment_ok.Goals.{then-strand-le-MAX_STRAND, else-strand-le-MAX_STRAND}

pub returns-then-first_ok : goal.returns-then-first_ok
unfolding reached
returns-then-first_ok c = record {
  ok = c.walk_chain.ensures.ok ∙ elim c.if-strand-le-MAX_STRAND.branch [
    | then-strand-le-MAX_STRAND w ↦ frag_in _ _ _ (omega (arith, c.strand.ensures, w.if-strand-le-MAX_STRAND.true)) (sym w.first_ok.ensures ∙ sym w.value-is ∙ c.if-first_ok.true)
    | else-strand-le-MAX_STRAND w ↦ true_false c.if-first_ok.true (w.value-is ∙ lt-leb _ _ w.if-strand-le-MAX_STRAND.false)
  ];
  marked = c.walk_chain.ensures.marked;
}

pub returns-else-first_ok : goal.returns-else-first_ok
returns-else-first_ok c = rw c.if-first_ok.false (elim c.if-strand-le-MAX_STRAND.branch [
  | then-strand-le-MAX_STRAND w ↦ record { ok = frag_first _ _ _ (omega (arith, c.strand.ensures, w.if-strand-le-MAX_STRAND.true)) (sym w.first_ok.ensures ∙ sym w.value-is ∙ c.if-first_ok.false); marked = λ z. true_false z refl }
  | else-strand-le-MAX_STRAND w ↦ record { ok = frag_strand _ _ _ (omega (arith, c.strand.ensures, w.if-strand-le-MAX_STRAND.false)); marked = λ z. true_false z refl }
])
