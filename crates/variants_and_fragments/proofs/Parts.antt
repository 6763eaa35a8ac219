-- The outcome of the check, part by part: what the head, the variants, the alleles and the chains answer, one after the other. Assumes nothing.
use Rattle.std.proofs.Common.{◌≡◌, ◌∙◌, refl, sym, List, ℕ, ℤ}
use Rattle.variants_and_fragments.specs.declared.Sizes.{Sizes}
use Rattle.variants_and_fragments.specs.declared.Refusal.{Refusal}
use Rattle.variants_and_fragments.specs.Refusals.{Outcome, done, refusal, and_then}
use Rattle.variants_and_fragments.specs.Check.{check_case_and_haplotypes_outcome}
use Rattle.variants_and_fragments.specs.Inner.Head.{head_outcome}
use Rattle.variants_and_fragments.specs.Inner.Answers.{variants_outcome, alleles_outcome, chains_outcome}
use Rattle.variants_and_fragments.proofs.Outcomes.{then_on, then_refused, then_unless, then_each}

then_done : {X Y : Type 0} (x : X) (next : X → Outcome Y) → and_then (done x) next ≡ next x
unfolding and_then
then_done x next = refl

module _ (w : List ℤ) (b h : List ℕ) where
  after_alleles : Sizes → Outcome Sizes
  after_alleles s = and_then (chains_outcome w s) (λ _. done s)

  after_variants : Sizes → Outcome Sizes
  after_variants s = and_then (alleles_outcome w b s) (λ _. after_alleles s)

  after_head : Sizes → Outcome Sizes
  after_head s = and_then (variants_outcome w h s) (λ _. after_variants s)

  parts : and_then (head_outcome w) after_head ≡ check_case_and_haplotypes_outcome w b h
  unfolding check_case_and_haplotypes_outcome after_head after_variants after_alleles
  parts = simp (then_unless, then_each, then_done)

  pub at_head : (x : Refusal) → refusal x ≡ head_outcome w → refusal x ≡ check_case_and_haplotypes_outcome w b h
  at_head x e = then_refused _ after_head x e ∙ parts

  module _ (s : Sizes) (head : done s ≡ head_outcome w) where
    past_head : after_head s ≡ check_case_and_haplotypes_outcome w b h
    past_head = then_on _ after_head s (sym head) ∙ parts

    pub at_variants : (x : Refusal) → refusal x ≡ variants_outcome w h s → refusal x ≡ check_case_and_haplotypes_outcome w b h
    unfolding after_head
    at_variants x e = then_refused _ _ x e ∙ past_head

    module _ (variants : done tt ≡ variants_outcome w h s) where
      past_variants : after_variants s ≡ check_case_and_haplotypes_outcome w b h
      unfolding after_head
      past_variants = then_on _ _ tt (sym variants) ∙ past_head

      pub at_alleles : (x : Refusal) → refusal x ≡ alleles_outcome w b s → refusal x ≡ check_case_and_haplotypes_outcome w b h
      unfolding after_variants
      at_alleles x e = then_refused _ _ x e ∙ past_variants

      module _ (alleles : done tt ≡ alleles_outcome w b s) where
        past_alleles : after_alleles s ≡ check_case_and_haplotypes_outcome w b h
        unfolding after_variants
        past_alleles = then_on _ _ tt (sym alleles) ∙ past_variants

        pub at_chains : (x : Refusal) → refusal x ≡ chains_outcome w s → refusal x ≡ check_case_and_haplotypes_outcome w b h
        unfolding after_alleles
        at_chains x e = then_refused _ _ x e ∙ past_alleles

        pub all_passed : done tt ≡ chains_outcome w s → done s ≡ check_case_and_haplotypes_outcome w b h
        unfolding after_alleles
        all_passed e = then_on _ _ tt (sym e) ∙ past_alleles
