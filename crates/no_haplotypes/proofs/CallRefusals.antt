-- The lines of the table that `call_genotypes_no_haplotypes` goes by: 12 is never given, and what is written past them.
-- Assumes nothing.
use mathlib.Core.Path.{◌≡◌, ap, ◌∙◌}
use mathlib.Core.List.{List, [], ◌∷◌}
use Prim.Native.Nat.{ℕ, ◌*◌}
use native.Mathlib.Omega.{arith}
use lib.Ieee.{Float}
use lib.IntN.{ℤ, pos}
use lib.ListN.{length}
use Rattle.variants_and_fragments.specs.declared.Sizes.{Sizes}
use Rattle.variants_and_fragments.specs.Inner.Accepted.{CaseIn}
use Rattle.variants_and_fragments.specs.Case.{allele_count, variant_of}
use Rattle.variants_and_fragments.specs.Check.{check_case_outcome}
use Rattle.variants_and_fragments.specs.Decode.{tabulate, decode}
use Rattle.variants_and_fragments.specs.Refusals.{Outcome, done, each, long_enough}
use Rattle.variants_and_fragments.proofs.Accepted.{case_in}
use Rattle.variants_and_fragments.proofs.Decoded.{variants_are, allele_count_is, tabulate_at}
use Rattle.variants_and_fragments.proofs.Outcomes.{then_on}
use Rattle.genotype_probs.specs.declared.Rates.{Rates}
use Rattle.genotype_probs.specs.Rates.{rate_test}
use Rattle.genotype_probs.specs.Posteriors.{normalized}
use Rattle.genotype_probs.specs.Normalized.{is_normal}
use Rattle.genotype_probs.proofs.AlleleLaws.{nine}
use Rattle.genotype_probs.proofs.NormalizedLaws.{all_normal}
use Rattle.no_haplotypes.specs.NoHaplotypes.{score_at, posteriors, CallSlices, call_slices, call_genotypes_no_haplotypes_outcome, call_genotypes_no_haplotypes_written}
use Rattle.no_haplotypes.specs.Inner.Calling.{AcceptedCalled}

-- the slices, each with what it needs
abbrev pub needs_of : Sizes → CallSlices → List (ℕ × ℕ)
needs_of s before = (13 * s.n, length before.variants) ∷ (s.n, length before.quals) ∷ (s.n, length before.gqs) ∷ []

module _ (w : List ℤ) (b : List ℕ) (rates : Rates) (before : CallSlices) (s : Sizes) (accepted : check_case_outcome w b ≡ done s) where
  case_of : CaseIn w s
  case_of = case_in w b s accepted

  abbrev counted : ℕ → ℕ
  counted v = allele_count (variant_of (decode w b) v)

  normal_line : ◌≡◌ {A = Outcome Unit} (done tt) (each 12 (is_normal (posteriors rates (decode w b)) counted) 0 s.n (done tt))
  unfolding posteriors
  normal_line =
      all_normal (posteriors rates (decode w b)) (λ v. tabulate 9 (score_at rates (decode w b) v)) counted s.n (done tt)
      (λ v h. omega (arith, allele_count_is case_of b v h, (case_of.variants.each v h).k_low))
      (λ v h p l. tabulate_at 9 (normalized (tabulate 9 (score_at rates (decode w b) v)) (counted v)) p (pos 0)
      (omega (arith, nine (counted v) (omega (arith, allele_count_is case_of b v h, (case_of.variants.each v h).k_high)))))

  -- past the case
  pub past_case : each 6 (rate_test rates) 0 7 (long_enough (needs_of s before) (done tt)) ≡ call_genotypes_no_haplotypes_outcome w b rates before
  unfolding call_genotypes_no_haplotypes_outcome
  past_case = ap (λ (o : Outcome Unit). each 6 (rate_test rates) 0 7 (long_enough (needs_of s before) o)) normal_line ∙ then_on _ _ s accepted

-- what an accepted case leaves
pub all_called : (w : List ℤ) (b : List ℕ) (rates : Rates) (s : Sizes) → CaseIn w s → {variants variants' : List ℤ} {quals gqs quals' gqs' : List Float} → AcceptedCalled w b rates s.n variants quals gqs variants' quals' gqs'
    → call_slices variants' quals' gqs' ≡ call_genotypes_no_haplotypes_written rates (decode w b) (call_slices variants quals gqs)
unfolding call_genotypes_no_haplotypes_written
all_called w b rates s k c = rw (variants_are k b) (cc (c.variants_are, c.quals_are, c.gqs_are))
