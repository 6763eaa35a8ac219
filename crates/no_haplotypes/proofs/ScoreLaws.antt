-- The score of a pair from the sums of one pass over the pile.
-- Assumes nothing.
use mathlib.Core.Path.{◌≡◌, refl, sym, ap, ◌∙◌}
use mathlib.Core.List.{List}
use Prim.Native.Nat.{ℕ, ◌<◌}
use native.Mathlib.Decide.{ℕ_discrete}
use native.Mathlib.Omega.{arith}
use borrow.Author.Tests.{eq-eqb, ne_eqb}
use lib.Dec.{eqb}
use lib.IntN.{ℤ, pos, ◌+ℤ◌, ◌-ℤ◌, +ℤ_idr}
use Rattle.steps.proofs.Signed.{by_test, zlin, parts_add, parts_minus}
use Rattle.variants_and_fragments.specs.declared.Sizes.{Sizes}
use Rattle.variants_and_fragments.specs.Pileup.{Row}
use Rattle.variants_and_fragments.specs.Sums.{sum_over}
use Rattle.variants_and_fragments.proofs.Sums.{sum_over_cong}
use Rattle.genotype_probs.proofs.ListLaws.{sum_plus}
use Rattle.no_haplotypes.specs.declared.tally.Tally.{Tally}
use Rattle.no_haplotypes.specs.NoHaplotypes.{call_score}
use Rattle.steps.specs.Logs.{mix_of}
use Rattle.no_haplotypes.specs.Inner.Tally.{row_qual, both_gain, one_gain, gain_at, Tallied, pair_gain}

-- ---- sums
plus_minus : (a b : ℤ) → a +ℤ (b -ℤ a) ≡ b
plus_minus a b = omega (zlin, parts_add a (b -ℤ a), parts_minus b a)

-- ---- one call
module _ (row : Row) where
  both_match : (i : ℕ) → call_score i i row.call ≡ row_qual row +ℤ gain_at both_gain i row
  unfolding call_score gain_at
  both_match i =
      by_test (eqb row.call.allele i)
      (λ t. rw t (sym (plus_minus row.call.qual row.call.one_minus_qual)))
      (λ t. rw t (sym (+ℤ_idr row.call.qual)))

  one_match : (i j : ℕ) → (i ≡ j → ⊥) → call_score i j row.call ≡ row_qual row +ℤ gain_at one_gain i row +ℤ gain_at one_gain j row
  unfolding call_score gain_at
  one_match i j n = elim (ℕ_discrete row.call.allele i) [
    | yes e ↦ rw (eq-eqb row.call.allele i e, ne_eqb row.call.allele j (λ f. n (omega arith))) (sym (+ℤ_idr (row.call.qual +ℤ one_gain row.call) ∙ plus_minus row.call.qual (mix_of row.call.qual row.call.one_minus_qual)))
    | no e ↦ elim (ℕ_discrete row.call.allele j) [
      | yes f ↦ rw (ne_eqb row.call.allele i e, eq-eqb row.call.allele j f) (sym (ap (λ (z : ℤ). z +ℤ one_gain row.call) (+ℤ_idr row.call.qual) ∙ plus_minus row.call.qual (mix_of row.call.qual row.call.one_minus_qual)))
      | no f ↦ rw (ne_eqb row.call.allele i e, ne_eqb row.call.allele j f) (sym (+ℤ_idr (row.call.qual +ℤ pos 0) ∙ +ℤ_idr row.call.qual))
    ]
  ]

-- ---- all calls of a pile
module _ {w : List ℤ} {s : Sizes} {rows : List Row} {t : Tally} (made : Tallied w s rows t) where
  pub pair_is : (i j : ℕ) → i < 3 → j < 3 → pair_gain t i j ≡ sum_over rows (λ row. call_score i j row.call)
  unfolding pair_gain
  pair_is i j h l = elim (ℕ_discrete i j) [
    | yes e ↦ rw (← e, eq-eqb i i refl, made.total_is, made.both_are i h) (sym (sum_over_cong rows (λ row. call_score i i row.call) (λ row. row_qual row +ℤ gain_at both_gain i row) (λ row. both_match row i) ∙ sum_plus rows row_qual (gain_at both_gain i)))
    | no n ↦ rw (ne_eqb i j n, made.total_is, made.one_are i h, made.one_are j l)
        (sym (sum_over_cong rows (λ row. call_score i j row.call) (λ row. row_qual row +ℤ gain_at one_gain i row +ℤ gain_at one_gain j row) (λ row. one_match row i j n)
        ∙ sum_plus rows (λ row. row_qual row +ℤ gain_at one_gain i row) (gain_at one_gain j)
        ∙ ap (λ (z : ℤ). z +ℤ sum_over rows (gain_at one_gain j)) (sum_plus rows row_qual (gain_at one_gain i))))
  ]
