-- Lists of records without doubles, by place: what stands at two places differs, and where it does so for all there is no double.
-- Assumes nothing.
use mathlib.Core.Path.{◌≡◌, refl, sym}
use mathlib.Core.Bool.{true, false, not}
use mathlib.Core.List.{List, [], ◌∷◌}
use Prim.Native.Nat.{ℕ, zero, suc, ◌<◌}
use native.Mathlib.Omega.{arith}
use borrow.Author.Tests.{eq-eqb, ne_eqb}
use lib.Dec.{eqb}
use lib.ListN.{length, get_or, take, drop, take-append-drop}
use Rattle.variants_and_fragments.specs.Chain.{memb}
use Rattle.variants_and_fragments.proofs.Bools.{both, or_right, not_on, true_false}
use Rattle.variants_and_fragments.proofs.Pigeon.{distinct, distinct_left}

-- what stands at a place is in the list
pub memb_at : (l : List ℕ) (i : ℕ) → i < length l → memb (get_or l i 0) l ≡ true
unfolding memb
memb_at [] i h = absurd (omega arith)
memb_at (x ∷ l) zero h = rw (eq-eqb x x refl)
memb_at (x ∷ l) (suc i) h = or_right (eqb (get_or l i 0) x) (memb (get_or l i 0) l) (memb_at l i (omega arith))

-- the first of a list without doubles is at no later place
head_once : (x : ℕ) (l : List ℕ) → distinct (x ∷ l) ≡ true → (i : ℕ) → i < length l → get_or l i 0 ≡ x → ⊥
unfolding distinct
head_once x l d i h e = true_false (rw e at (memb_at l i h)) (not_on _ (both (not (memb x l)) (distinct l) d).0)

pub distinct_at : (l : List ℕ) → distinct l ≡ true → (i j : ℕ) → i < length l → j < length l → get_or l i 0 ≡ get_or l j 0 → i ≡ j
unfolding distinct
distinct_at [] d i j h k e = absurd (omega arith)
distinct_at (x ∷ l) d zero zero h k e = refl
distinct_at (x ∷ l) d zero (suc j) h k e = absurd (head_once x l d j (omega arith) (sym e))
distinct_at (x ∷ l) d (suc i) zero h k e = absurd (head_once x l d i (omega arith) e)
distinct_at (x ∷ l) d (suc i) (suc j) h k e = let q = distinct_at l (both (not (memb x l)) (distinct l) d).1 i j (omega arith) (omega arith) e in omega arith

-- the other way round
memb_none : (x : ℕ) (l : List ℕ) → ((i : ℕ) → i < length l → get_or l i 0 ≡ x → ⊥) → memb x l ≡ false
unfolding memb
memb_none x [] n = refl
memb_none x (y ∷ l) n = rw (ne_eqb x y (λ e. n 0 (omega arith) (sym e))) (memb_none x l (λ i h e. n (suc i) (omega arith) e))

pub distinct_by : (l : List ℕ) → ((i j : ℕ) → i < j → j < length l → get_or l i 0 ≡ get_or l j 0 → ⊥) → distinct l ≡ true
unfolding distinct
distinct_by [] n = refl
distinct_by (x ∷ l) n = rw (memb_none x l (λ i h e. n 0 (suc i) (omega arith) (omega arith) (sym e))) (distinct_by l (λ i j h k e. n (suc i) (suc j) (omega arith) (omega arith) e))

-- the first m of them
pub distinct_take : (m : ℕ) (l : List ℕ) → distinct l ≡ true → distinct (take m l) ≡ true
distinct_take m l d = distinct_left (take m l) (drop m l) (rw (take-append-drop m l) d)
