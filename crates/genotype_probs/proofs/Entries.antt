-- The entries of the table, by a base and two letters: what the code makes them from.
-- Assumes nothing.
use mathlib.Core.Path.{◌≡◌, refl, sym, ap}
use mathlib.Core.Logic.{◌⊎◌, ⊎_elim}
use mathlib.Core.Bool.{Bool, true, false, cond}
use borrow.Author.Tests.{eq-eqb, ne_eqb}
use lib.Dec.{eqb}
use lib.IntN.{ℤ, ◌+ℤ◌}
use Rattle.genotype_probs.specs.declared.Rates.{Rates}
use Rattle.genotype_probs.specs.Rates.{hom_snv_rate, het_snv_rate, hom_indel_rate, het_indel_rate, ts_rate, tv_rate, rate_sum}
use Rattle.genotype_probs.specs.Letters.{Base, Letter, base, D, I, base_number, letter_number, same_letter, transition_of, Change, same, transition, transversion, indel, change}
use Rattle.genotype_probs.specs.Priors.{ln_half, ln_quarter, one_minus_exp, haploid, homozygous, diploid}
use Rattle.genotype_probs.specs.Inner.PriorTable.{letter_value}
use Rattle.genotype_probs.proofs.Numbers.{base_one, letter_one}

-- ---- what a base is beside the reference base
module _ (ref : Base) where
  same_change : change ref (base ref) ≡ same
  unfolding change same_letter
  same_change = rw (eq-eqb (letter_number (base ref)) (letter_number (base ref)) refl)

  other_change : (b : Base) → (b ≡ ref → ⊥) → change ref (base b) ≡ cond (eqb (base_number b) (base_number (transition_of ref))) transition transversion
  unfolding change same_letter letter_number
  other_change b n = rw (ne_eqb (base_number b) (base_number ref) (λ e. n (base_one b ref e)))

-- ---- the value of one letter, and of two
module _ (rates : Rates) where
  module _ (reference snv gap : ℤ) (ref : Base) where
    pub gap_value : (x : Letter) → (x ≡ D) ⊎ (x ≡ I) → gap +ℤ ln_half +ℤ ln_quarter ≡ letter_value rates reference snv gap (change ref x)
    unfolding letter_value change
    gap_value x e = ⊎_elim (λ d. rw d) (λ i. rw i) e

    pub same_value : (b : Base) → b ≡ ref → reference ≡ letter_value rates reference snv gap (change ref (base b))
    unfolding letter_value
    same_value b e = rw (e, same_change ref)

    either : (t : Bool) → snv +ℤ cond t (ts_rate rates) (tv_rate rates) ≡ letter_value rates reference snv gap (cond t transition transversion)
    unfolding letter_value
    either true = refl
    either false = refl

    pub other_value : (b : Base) → (b ≡ ref → ⊥) → snv +ℤ cond (eqb (base_number b) (base_number (transition_of ref))) (ts_rate rates) (tv_rate rates) ≡ letter_value rates reference snv gap (change ref (base b))
    other_value b n = rw (other_change ref b n) (either (eqb (base_number b) (base_number (transition_of ref))))

  pub haploid_is : (c : Change) → haploid rates c ≡ letter_value rates (one_minus_exp (het_snv_rate rates +ℤ het_indel_rate rates)) (het_snv_rate rates) (het_indel_rate rates) c
  unfolding haploid letter_value
  haploid_is same = refl
  haploid_is transition = refl
  haploid_is transversion = refl
  haploid_is indel = refl

  homozygous_is : (c : Change) → homozygous rates c ≡ letter_value rates (one_minus_exp (rate_sum rates)) (hom_snv_rate rates) (hom_indel_rate rates) c
  unfolding homozygous letter_value
  homozygous_is same = refl
  homozygous_is transition = refl
  homozygous_is transversion = refl
  homozygous_is indel = refl

  -- the entry of one letter twice
  module _ (ref : Base) (first second : Letter) where
    pub entry_same : first ≡ second → letter_value rates (one_minus_exp (rate_sum rates)) (hom_snv_rate rates) (hom_indel_rate rates) (change ref first) ≡ diploid rates ref first second
    unfolding diploid same_letter
    entry_same e = rw (eq-eqb (letter_number first) (letter_number second) (ap letter_number e)) (sym (homozygous_is (change ref first)))

    -- the entry of two letters
    pub entry_two : (first ≡ second → ⊥) → haploid rates (change ref first) +ℤ haploid rates (change ref second) ≡ diploid rates ref first second
    unfolding diploid same_letter
    entry_two n = rw (ne_eqb (letter_number first) (letter_number second) (λ e. n (letter_one first second e)))
