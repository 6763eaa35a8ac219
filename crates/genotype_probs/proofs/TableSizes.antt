-- How small a table's entries are as the machine reads them, and a normalised table.
-- Assumes nothing.
use mathlib.Core.Path.{◌≡◌, refl, ap, ◌∙◌}
use mathlib.Core.Bool.{Bool, true, false, cond}
use mathlib.Core.List.{List, [], ◌∷◌}
use Prim.Native.Nat.{ℕ, zero, suc, ◌+◌, ◌*◌, ◌^◌, ◌≤◌, ◌<◌}
use native.Mathlib.Omega.{arith}
use borrow.Author.Tests.{ltb-true}
use lib.Dec.{ltb}
use lib.IntN.{ℤ, pos, nat_abs, ◌-ℤ◌}
use lib.ListN.{get_or}
use mir.Syntax.{w64}
use mir.Val.{to_z, of_z}
use Rattle.steps.specs.Logs.{steps}
use Rattle.steps.specs.Inner.Logs.{log_of}
use Rattle.steps.proofs.Marks.{of_small}
use Rattle.steps.proofs.Signed.{minus_abs, read_small}
use Rattle.steps.proofs.Sums.{sum_size}
use Rattle.variants_and_fragments.specs.Decode.{tabulate_from, tabulate}
use Rattle.genotype_probs.specs.Posteriors.{sum_of, entry_at, row_sum, table_sum, normalized}
use Rattle.genotype_probs.specs.Inner.Posteriors.{TableIn}
use Rattle.genotype_probs.proofs.TableSums.{place_in}

-- the first place is one of the k × k
pub first_in : {tab : List ℤ} {k : ℕ} → TableIn tab k → 0 < k * k
first_in {tab} {k} t = omega (arith, place_in 0 0 k t.k_low t.k_low)

-- an entry as the machine reads it is no mark
pub read_finite : (z : ℤ) → nat_abs z ≤ 2 ^ 40 → log_of (to_z w64 (of_z w64 z)) ≡ steps z
read_finite z h = ap log_of (read_small w64 z (omega arith)) ∙ of_small z (omega arith)

pub by_cond : {n : ℕ} (t : Bool) (z : ℤ) → (t ≡ true → nat_abs z ≤ n) → nat_abs (cond t z (pos 0)) ≤ n
by_cond true z h = h refl
by_cond false z h = omega arith

sum_of_size : (n : ℕ) (f : ℕ → ℤ) (k : ℕ) → k ≤ 3 → ((j : ℕ) → j < k → nat_abs (f j) ≤ n) → nat_abs (sum_of (tabulate k f)) ≤ n + 8192
unfolding sum_of tabulate_from
sum_of_size n f zero l h = omega arith
sum_of_size n f (suc zero) l h = omega (arith, sum_size n (f 0) [] (h 0 (omega arith)) (λ i m. absurd (omega arith)))
sum_of_size n f (suc (suc zero)) l h = omega (arith, sum_size n (f 0) (f 1 ∷ []) (h 0 (omega arith)) (λ i m. two i m))
  where
    two : (i : ℕ) → i < 1 → nat_abs (get_or (f 1 ∷ []) i (pos 0)) ≤ n
    two zero m = h 1 (omega arith)
    two (suc i) m = absurd (omega arith)
sum_of_size n f (suc (suc (suc zero))) l h = omega (arith, sum_size n (f 0) (f 1 ∷ f 2 ∷ []) (h 0 (omega arith)) (λ i m. three i m))
  where
    three : (i : ℕ) → i < 2 → nat_abs (get_or (f 1 ∷ f 2 ∷ []) i (pos 0)) ≤ n
    three zero m = h 1 (omega arith)
    three (suc zero) m = h 2 (omega arith)
    three (suc (suc i)) m = absurd (omega arith)
sum_of_size n f (suc (suc (suc (suc k)))) l h = absurd (omega arith)

module _ (n : ℕ) (tab : List ℤ) (k : ℕ) (top : k ≤ 3) (small : (p : ℕ) → p < k * k → nat_abs (get_or tab p (pos 0)) ≤ n) where
  table_size : nat_abs (table_sum tab k) ≤ n + 16384
  unfolding table_sum row_sum entry_at
  table_size =
      omega (arith, sum_of_size (n + 8192) (row_sum tab k) k top (λ i h. sum_of_size n (entry_at tab k i) k top (λ j l. small (i * k + j) (place_in i j k h l))))

  pub normal_size : (p : ℕ) → nat_abs (normalized tab k p) ≤ 2 * n + 16384
  unfolding normalized
  normal_size p =
      by_cond (ltb p (k * k)) (get_or tab p (pos 0) -ℤ table_sum tab k)
      (λ t. omega (arith, minus_abs (get_or tab p (pos 0)) (table_sum tab k), small p (ltb-true p (k * k) t), table_size))
