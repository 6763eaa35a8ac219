-- One fragment in another's place: a sum over the fragments loses the old one's term and gains the new one's, and all that goes by the variants
-- and the cutoff stays. A fragment without calls has no likelihood, no count and no share.
-- Assumes nothing.
use mathlib.Core.Path.{◌≡◌, refl}
use mathlib.Core.List.{List, [], ◌∷◌}
use Prim.Native.Nat.{ℕ, zero, suc, ◌+◌, ◌<◌}
use native.Mathlib.Omega.{arith}
use lib.IntN.{ℤ, pos, ◌+ℤ◌}
use lib.ListN.{length, get_or, set}
use Rattle.steps.specs.Logs.{mix_of}
use Rattle.steps.proofs.AddExp.{add_halves}
use Rattle.steps.proofs.Signed.{zlin, parts_add}
use Rattle.variants_and_fragments.specs.Case.{Case, Fragment}
use Rattle.variants_and_fragments.specs.Pileup.{only, usable_calls}
use Rattle.variants_and_fragments.specs.Sums.{sum_over, count_over}
use Rattle.genotype_probs.specs.declared.Rates.{Rates}
use Rattle.haplotype_assembly.specs.Phase.{phased_flags}
use Rattle.sweeps.specs.Sweeps.{likelihood}
use Rattle.late_reads.specs.Values.{Fixed, likelihood_on, read_count, exchanged}
use Rattle.late_reads.specs.LateReads.{fixed_by}
use Rattle.afresh.proofs.Parts.{share, priors_total}

-- ---- sums
pub count_set : {X : Type 0} (xs : List X) (f : ℕ) (y d : X) (n : X → ℕ) → f < length xs → count_over (set xs f y) n + n (get_or xs f d) ≡ count_over xs n + n y
unfolding count_over
count_set [] f y d n l = absurd (omega arith)
count_set (x ∷ xs) zero y d n l = omega arith
count_set (x ∷ xs) (suc f) y d n l = omega (arith, count_set xs f y d n (omega arith))

pub sum_set : {X : Type 0} (xs : List X) (f : ℕ) (y d : X) (g : X → ℤ) → f < length xs → sum_over (set xs f y) g +ℤ g (get_or xs f d) ≡ sum_over xs g +ℤ g y
unfolding sum_over
sum_set [] f y d g l = absurd (omega arith)
sum_set (x ∷ xs) zero y d g l =
    omega (zlin, parts_add (g y) (sum_over xs g), parts_add (g y +ℤ sum_over xs g) (g x), parts_add (g x) (sum_over xs g), parts_add (g x +ℤ sum_over xs g) (g y))
sum_set (x ∷ xs) (suc f) y d g l =
    omega (
      zlin,
      sum_set xs f y d g (omega arith),
      parts_add (sum_over (set xs f y) g) (g (get_or xs f d)),
      parts_add (sum_over xs g) (g y),
      parts_add (g x) (sum_over (set xs f y) g),
      parts_add (g x +ℤ sum_over (set xs f y) g) (g (get_or xs f d)),
      parts_add (g x) (sum_over xs g),
      parts_add (g x +ℤ sum_over xs g) (g y),
    )

-- ---- a fragment without calls
module _ (fixed : Fixed) (x : Fragment) (none : x.calls ≡ []) where
  pub no_likelihood : (i : ℕ) → likelihood_on fixed x i ≡ pos 0
  unfolding likelihood_on usable_calls only likelihood
  no_likelihood i = rw none

  pub no_count : (e : ℕ) → read_count fixed.cutoff x e ≡ 0
  unfolding read_count only
  no_count e = rw none

  -- `ln_add_exp` of −4,096 twice is 0
  pub no_share : share fixed x ≡ pos 0
  unfolding share mix_of
  no_share = rw (no_likelihood 0, no_likelihood 1) add_halves

-- ---- what goes by the variants and the cutoff
module _ (case : Case) (f : ℕ) (y : Fragment) (phase haps : List ℕ) where
  pub same_fixed : fixed_by (exchanged case f y) phase haps ≡ fixed_by case phase haps
  unfolding exchanged phased_flags
  same_fixed = refl

  pub same_priors : (rates : Rates) → priors_total rates (exchanged case f y) phase haps ≡ priors_total rates case phase haps
  unfolding exchanged phased_flags priors_total
  same_priors rates = refl
