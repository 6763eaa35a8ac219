-- A rule of a table, proved at all of its entries by one test that antt computes, one entry after the other.
-- Assumes nothing.
use Rattle.std.proofs.Common.{ℕ, zero, suc, ◌+◌, ◌<◌, Bool, true, false, T, List, [], ◌∷◌, length, get_or, sym, ◌∙◌, subst, le_of_suc-le-suc, not-suc-le-zero, add-zero, add-suc, suc-add, zero-add}

abbrev pub both : Bool → Bool → Bool
both true b = b
both false b = false

pub both_left : (a b : Bool) → T (both a b) → T a
both_left true b t = tt
both_left false b t = t

pub both_right : (a b : Bool) → T (both a b) → T b
both_right true b t = t
both_right false b t = absurd t

-- the test f passes at each place of two lists of one length and its number, counted from i. The lists are walked together, so that the
-- test takes as many steps as they are long
abbrev pub pairwise : (ℕ → ℕ → ℕ → Bool) → ℕ → List ℕ → List ℕ → Bool
pairwise f i [] [] = true
pairwise f i [] (y ∷ ys) = false
pairwise f i (x ∷ xs) [] = false
pairwise f i (x ∷ xs) (y ∷ ys) = both (f i x y) (pairwise f (suc i) xs ys)

from : (f : ℕ → ℕ → ℕ → Bool) (xs ys : List ℕ) (i : ℕ) → T (pairwise f i xs ys) → (k : ℕ) → k < length ys → T (f (i + k) (get_or xs k 0) (get_or ys k 0))
from f [] [] i t k h = absurd (not-suc-le-zero h)
from f [] (y ∷ ys) i t k h = absurd t
from f (x ∷ xs) [] i t k h = absurd t
from f (x ∷ xs) (y ∷ ys) i t zero h =
    subst (λ (m : ℕ). T (f m x y)) (sym (add-zero i)) (both_left (f i x y) (pairwise f (suc i) xs ys) t)
from f (x ∷ xs) (y ∷ ys) i t (suc k) h =
    subst (λ (m : ℕ). T (f m (get_or xs k 0) (get_or ys k 0))) (suc-add i k ∙ sym (add-suc i k))
    (from f xs ys (suc i) (both_right (f i x y) (pairwise f (suc i) xs ys) t) k (le_of_suc-le-suc h))

pub at : (f : ℕ → ℕ → ℕ → Bool) (xs ys : List ℕ) → T (pairwise f 0 xs ys) → (k : ℕ) → k < length ys → T (f k (get_or xs k 0) (get_or ys k 0))
at f xs ys t k h = subst (λ (m : ℕ). T (f m (get_or xs k 0) (get_or ys k 0))) (zero-add k) (from f xs ys 0 t k h)
