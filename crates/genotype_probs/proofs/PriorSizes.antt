-- How far from 0 a prior is. Assumes nothing.
use mathlib.Core.Path.{◌≡◌}
use Prim.Native.Nat.{ℕ, ◌^◌, ◌≤◌}
use native.Mathlib.Omega.{arith}
use lib.IntN.{nat_abs}
use Rattle.variants_and_fragments.specs.Case.{Variant, allele_of}
use Rattle.genotype_probs.specs.declared.Rates.{Rates}
use Rattle.genotype_probs.specs.Inner.Rates.{rates_fault}
use Rattle.genotype_probs.specs.Priors.{get_prior}
use Rattle.genotype_probs.proofs.RateLaws.{rates_in}
use Rattle.genotype_probs.proofs.PriorBounds.{prior_down}

-- a prior is at most 2^21 steps from 0
pub prior_small : (rates : Rates) → rates_fault rates ≡ 7 → (variant : Variant) (i j : ℕ) → nat_abs (get_prior rates variant i j) ≤ 2 ^ 21
unfolding get_prior
prior_small rates e variant i j =
    omega (arith, (prior_down rates (rates_in rates e) (allele_of variant 0) (allele_of variant i) (allele_of variant j)).most)
