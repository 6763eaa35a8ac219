-- The knots fall, by at most 32 from each to the next, and none is above 4096: one computed test.
-- Assumes nothing.
use Rattle.std.proofs.Common.{ℕ, zero, suc, ◌+◌, ◌<◌, ◌≤◌, Bool, true, leb, List, [], ◌∷◌, length, get_or, drop, subst, le_of_suc-le-suc, not-suc-le-zero, leb→le}
use native.Mathlib.Numerals.{suc-eq-add-one}
use lib.Dec as D
use Rattle.steps.specs.Table.{knots}
use Rattle.steps.specs.Knots.{T}
use Rattle.steps.proofs.Entries.{both, both_left, both_right}

-- the test f passes at each element and the next
abbrev chained : (ℕ → ℕ → Bool) → ℕ → List ℕ → Bool
chained f x [] = true
chained f x (y ∷ ys) = both (f x y) (chained f y ys)

link : (f : ℕ → ℕ → Bool) (x : ℕ) (ys : List ℕ) → D.T (chained f x ys) → (k : ℕ) → k < length ys → D.T (f (get_or (x ∷ ys) k 0) (get_or ys k 0))
link f x [] t k h = absurd (not-suc-le-zero h)
link f x (y ∷ ys) t zero h = both_left (f x y) (chained f y ys) t
link f x (y ∷ ys) t (suc k) h = link f y ys (both_right (f x y) (chained f y ys) t) k (le_of_suc-le-suc h)

unfoldable gentle : ℕ → ℕ → Bool
gentle x y = both (leb y x) (both (leb x (y + 32)) (leb x 4096))

tested : D.T (chained gentle (get_or knots 0 0) (drop 1 knots))
unfolding knots gentle
tested = tt

pub record Gentle (x y : ℕ) : Type 0 where
  pub falls : y ≤ x
  pub near : x ≤ y + 32
  pub low : x ≤ 4096

gently : (x y : ℕ) → D.T (gentle x y) → Gentle x y
unfolding gentle
gently x y t =
    let u = both_right (leb y x) (both (leb x (y + 32)) (leb x 4096)) t in
    record {
      falls = leb→le y x (both_left (leb y x) (both (leb x (y + 32)) (leb x 4096)) t);
      near = leb→le x (y + 32) (both_left (leb x (y + 32)) (leb x 4096) u);
      low = leb→le x 4096 (both_right (leb x (y + 32)) (leb x 4096) u);
    }

pub slope : (k : ℕ) → k < 1664 → Gentle (T k) (T (k + 1))
unfolding T knots
slope k h =
    subst (λ (n : ℕ). Gentle (T k) (T n)) (suc-eq-add-one k)
    (gently (T k) (T (suc k)) (link gentle (get_or knots 0 0) (drop 1 knots) tested k h))
