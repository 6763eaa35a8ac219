-- General laws of sums over lists and of tables of a function's values, for the crates that build on this one; two laws of
-- `variants_and_fragments` are handed on.
-- Assumes nothing.
use mathlib.Core.Path.{◌≡◌, refl, ap, ◌∙◌}
use mathlib.Core.List.{List, [], ◌∷◌, ◌++◌}
use Prim.Native.Nat.{ℕ, zero, suc, ◌+◌}
use native.Mathlib.Nat.{add-zero}
use native.Mathlib.Omega.{arith}
use lib.IntN.{ℤ, ◌+ℤ◌, +ℤ_idr}
use Rattle.steps.proofs.Signed.{zlin, parts_add}
use Rattle.variants_and_fragments.specs.Decode.{tabulate_from}
use Rattle.variants_and_fragments.specs.Sums.{sum_over}
use Rattle.variants_and_fragments.proofs.Sums.{sum_append}
pub use Rattle.variants_and_fragments.proofs.Bounds.{down_abs}
pub use Rattle.variants_and_fragments.proofs.Tabulated.{table_length}

-- a sum of sums
pub sum_plus : {X : Type 0} (xs : List X) (f g : X → ℤ) → sum_over xs (λ x. f x +ℤ g x) ≡ sum_over xs f +ℤ sum_over xs g
unfolding sum_over
sum_plus [] f g = refl
sum_plus (x ∷ xs) f g =
    let e = sum_plus xs f g in
    omega (zlin, e, parts_add (f x +ℤ g x) (sum_over xs (λ x. f x +ℤ g x)), parts_add (f x) (g x), parts_add (sum_over xs f) (sum_over xs g), parts_add (f x) (sum_over xs f), parts_add (g x) (sum_over xs g), parts_add (f x +ℤ sum_over xs f) (g x +ℤ sum_over xs g))

-- one more term
pub sum_last : {X : Type 0} (xs : List X) (x : X) (g : X → ℤ) → sum_over (xs ++ (x ∷ [])) g ≡ sum_over xs g +ℤ g x
unfolding sum_over
sum_last xs x g = sum_append xs (x ∷ []) g ∙ ap (λ (z : ℤ). sum_over xs g +ℤ z) (+ℤ_idr (g x))

-- ---- tables
-- one more value
pub table_last : {X : Type 0} (g : ℕ → X) (i n : ℕ) → tabulate_from g i (suc n) ≡ tabulate_from g i n ++ (g (i + n) ∷ [])
unfolding tabulate_from
table_last g i zero = rw add-zero
table_last g i (suc n) =
    let e : i + suc n ≡ suc i + n = omega arith in
    rw (e, ← table_last g (suc i) n)
