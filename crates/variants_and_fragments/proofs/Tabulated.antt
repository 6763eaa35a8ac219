-- How long a table is, and what is left of it when a loop has passed its first i places.
-- Assumes nothing.
use mathlib.Core.Path.{◌≡◌, refl, ap}
use mathlib.Core.List.{[], ◌∷◌}
use Prim.Native.Nat.{ℕ, zero, suc, ◌+◌, ◌-◌, ◌≤◌, ◌<◌}
use native.Mathlib.Nat.{sub-zero}
use native.Mathlib.Omega.{arith}
use native.Mathlib.Numerals.{add-one}
use lib.ListN.{length}
use Rattle.variants_and_fragments.specs.Decode.{tabulate_from, tabulate}

pub table_length : {X : Type 0} (g : ℕ → X) (i n : ℕ) → length (tabulate_from g i n) ≡ n
unfolding tabulate_from
table_length g i zero = refl
table_length g i (suc n) = ap suc (table_length g (suc i) n)

pub table_start : {X : Type 0} (g : ℕ → X) (n : ℕ) → tabulate_from g 0 (n - 0) ≡ tabulate n g
table_start g n = rw sub-zero refl

pub table_more : {X : Type 0} (g : ℕ → X) (n i : ℕ) → i < n → tabulate_from g i (n - i) ≡ g i ∷ tabulate_from g (i + 1) (n - (i + 1))
unfolding tabulate_from
table_more g n i h = let e : n - i ≡ suc (n - (i + 1)) = omega arith in rw (e, add-one) refl

pub table_end : {X : Type 0} (g : ℕ → X) (n i : ℕ) → n ≤ i → tabulate_from g i (n - i) ≡ []
unfolding tabulate_from
table_end g n i h = let e : n - i ≡ 0 = omega arith in rw e refl
