-- Sample (g) of document 01 and the odd cases of the letters, computed on the definitions: rates −70000 four times, ts −4096, tv −8192.
-- Assumes nothing.
use mathlib.Core.Bool.{true}
use mathlib.Core.Path.{◌≡◌, refl}
use mathlib.Core.List.{List, [], ◌∷◌}
use Prim.Native.Nat.{ℕ}
use lib.IntN.{ℤ, pos, negsuc}
use Rattle.steps.specs.declared.LogProb.{LogProb}
use Rattle.steps.specs.Table.{knots}
use Rattle.steps.specs.Knots.{T}
use Rattle.steps.specs.Addend.{addend}
use Rattle.steps.specs.Logs.{larger, difference, add_exp, sum_exp}
use Rattle.steps.specs.OneMinus.{low, first, ln_one_minus_exp}
use Rattle.variants_and_fragments.specs.Case.{Variant}
use Rattle.variants_and_fragments.specs.Words.{within}
use Rattle.variants_and_fragments.specs.First.{first_fail_from, first_fail, holds_below}
use Rattle.genotype_probs.specs.declared.Rates.{Rates}
use Rattle.genotype_probs.specs.Rates.{rate_ok, rate_sum, rate_tests, rate_test}
use Rattle.genotype_probs.specs.Letters.{A, C, base, base_of, base_number, letter_number, same_letter, transition_of, change}
use Rattle.genotype_probs.specs.Priors.{finite, one_minus_exp, haploid, homozygous, diploid, letters_prior, first_letter, stop_at, compared, alleles_prior, get_prior}

pub log_prob : ℤ → LogProb
log_prob z = record { 0 = z }

pub rates : Rates
unfolding log_prob
rates =
    record {
      hom_snv = log_prob (negsuc 69999);
      het_snv = log_prob (negsuc 69999);
      hom_indel = log_prob (negsuc 69999);
      het_indel = log_prob (negsuc 69999);
      ts = log_prob (negsuc 4095);
      tv = log_prob (negsuc 8191);
    }

pub variant : List (List ℕ) → Variant
variant alleles = record { pos0 = 0; dp = 0; genotype0 = 0; genotype1 = 0; alleles = alleles }

-- A and G; AC and AG; AC and CA; A and A; AC alone
pub bases_A : List ℕ
bases_A = 65 ∷ []

pub bases_G : List ℕ
bases_G = 71 ∷ []

pub bases_AC : List ℕ
bases_AC = 65 ∷ 67 ∷ []

pub bases_AG : List ℕ
bases_AG = 65 ∷ 71 ∷ []

pub bases_CA : List ℕ
bases_CA = 67 ∷ 65 ∷ []

pub record Samples : Type 0 where
  pub accepted : holds_below (rate_test rates) 7 ≡ true
  -- (g): priors 0, −78192, −78192, −74096
  pub g00 : get_prior rates (variant (bases_A ∷ bases_G ∷ [])) 0 0 ≡ pos 0
  pub g01 : get_prior rates (variant (bases_A ∷ bases_G ∷ [])) 0 1 ≡ negsuc 78191
  pub g10 : get_prior rates (variant (bases_A ∷ bases_G ∷ [])) 1 0 ≡ negsuc 78191
  pub g11 : get_prior rates (variant (bases_A ∷ bases_G ∷ [])) 1 1 ≡ negsuc 74095
  -- AC/AG: the two orders differ
  pub second_base : get_prior rates (variant (bases_AC ∷ bases_AG ∷ [])) 0 1 ≡ negsuc 82287
  pub other_order : get_prior rates (variant (bases_AC ∷ bases_AG ∷ [])) 1 0 ≡ negsuc 160479
  -- AC/CA: one letter, with no −4096
  pub one_letter : get_prior rates (variant (bases_AC ∷ bases_CA ∷ [])) 0 1 ≡ negsuc 78191
  -- A/A: the letters agree where the allele numbers differ
  pub same_letters : get_prior rates (variant (bases_A ∷ bases_A ∷ [])) 0 1 ≡ pos 0
  -- AC alone looks up C with C and A
  pub alone_first : compared bases_AC bases_AC A ≡ record { base = C; letter = base C }
  pub alone_second : compared bases_AC bases_AC C ≡ record { base = C; letter = base A }

pub samples : Samples
unfolding knots T addend larger difference add_exp sum_exp low first ln_one_minus_exp first_fail_from first_fail within rate_ok rate_sum rate_tests rate_test holds_below base_of base_number letter_number same_letter transition_of change finite one_minus_exp haploid homozygous diploid letters_prior first_letter stop_at compared alleles_prior get_prior rates log_prob variant bases_A bases_G bases_AC bases_AG bases_CA
samples =
    record {
      accepted = refl;
      g00 = refl;
      g01 = refl;
      g10 = refl;
      g11 = refl;
      second_base = refl;
      other_order = refl;
      one_letter = refl;
      same_letters = refl;
      alone_first = refl;
      alone_second = refl;
    }
