-- The first place at which a test fails: where a loop stops is that place, and at the end no place fails.
-- Assumes nothing.
use mathlib.Core.Path.{◌≡◌, refl, sym, ap, ◌∙◌}
use mathlib.Core.Bool.{Bool, true, false, cond}
use Prim.Native.Nat.{ℕ, zero, suc, ◌+◌, ◌≤◌, ◌<◌}
use native.Mathlib.Omega.{arith}
use native.Mathlib.Decide.{dec_lt, ℕ_discrete}
use borrow.Author.Tests.{eq-eqb, ne_eqb, eqb-true}
use mathlib.Core.List.{List, [], ◌∷◌}
use lib.ListN.{length, get_or, take, drop}
use Rattle.std.proofs.Common.{length-take, length-drop}
use Rattle.std.proofs.lemmas.List.{get_or-take, get_or-drop}
use Rattle.variants_and_fragments.specs.First.{first_fail_from, first_fail, holds_below}
use Rattle.variants_and_fragments.specs.Inner.First.{first_false}

pub from_is : (p : ℕ → Bool) (i k r : ℕ) → i ≤ r → r ≤ i + k → ((j : ℕ) → i ≤ j → j < r → p j ≡ true) → (r < i + k → p r ≡ false) → r ≡ first_fail_from p i k
unfolding first_fail_from
from_is p i zero r a b good bad = omega arith
from_is p i (suc k) r a b good bad = elim (dec_lt i r) [
  | yes h ↦ rw (good i (omega arith) h) (from_is p (suc i) k r h (omega arith) (λ j l m. good j (omega arith) m) (λ l. bad (omega arith)))
  | no h ↦ let e : r ≡ i = omega arith in rw (ap p (sym e) ∙ bad (omega arith)) e
]

-- where a loop stops: all before r hold, and r fails or is the end
pub first_at : (p : ℕ → Bool) (n r : ℕ) → ((j : ℕ) → j < r → p j ≡ true) → r < n → p r ≡ false → r ≡ first_fail p n
unfolding first_fail
first_at p n r good l bad = from_is p 0 n r (omega arith) (omega arith) (λ j _ m. good j m) (λ _. bad)

pub first_end : (p : ℕ → Bool) (n r : ℕ) → ((j : ℕ) → j < r → p j ≡ true) → r ≡ n → r ≡ first_fail p n
unfolding first_fail
first_end p n r good e = from_is p 0 n r (omega arith) (omega arith) (λ j _ m. good j m) (λ l. absurd (omega arith))

from_cong : (p q : ℕ → Bool) (i k : ℕ) → ((j : ℕ) → j < i + k → p j ≡ q j) → first_fail_from p i k ≡ first_fail_from q i k
unfolding first_fail_from
from_cong p q i zero h = refl
from_cong p q i (suc k) h = rw (h i (omega arith), from_cong p q (suc i) k (λ j l. h j (omega arith)))

pub first_cong : (p q : ℕ → Bool) (n : ℕ) → ((j : ℕ) → j < n → p j ≡ q j) → first_fail p n ≡ first_fail q n
unfolding first_fail
first_cong p q n h = from_cong p q 0 n (λ j l. h j (omega arith))

from_le : (p : ℕ → Bool) (i k : ℕ) → first_fail_from p i k ≤ i + k
unfolding first_fail_from
from_le p i zero = omega arith
from_le p i (suc k) = go (p i) (from_le p (suc i) k)
  where
    go : (b : Bool) → first_fail_from p (suc i) k ≤ suc i + k → cond b (first_fail_from p (suc i) k) i ≤ i + suc k
    go true h = omega arith
    go false h = omega arith

pub first_le : (p : ℕ → Bool) (n : ℕ) → first_fail p n ≤ n
unfolding first_fail
first_le p n = omega (arith, from_le p 0 n)

pub from_all : (p : ℕ → Bool) (i k : ℕ) → i + k ≤ first_fail_from p i k → (j : ℕ) → i ≤ j → j < i + k → p j ≡ true
unfolding first_fail_from
from_all p i zero h j a b = absurd (omega arith)
from_all p i (suc k) h j a b = go (p i) refl h (λ l. from_all p (suc i) k l j)
  where
    go : (t : Bool) → p i ≡ t → i + suc k ≤ cond t (first_fail_from p (suc i) k) i → (suc i + k ≤ first_fail_from p (suc i) k → suc i ≤ j → j < suc i + k → p j ≡ true) → p j ≡ true
    go false e l rec = absurd (omega arith)
    go true e l rec = elim (ℕ_discrete i j) [ yes q ↦ rw (← q) e | no q ↦ rec (omega arith) (omega arith) (omega arith) ]

-- where a test holds at each number, none fails
pub all_from : (p : ℕ → Bool) (i k : ℕ) → ((j : ℕ) → i ≤ j → j < i + k → p j ≡ true) → i + k ≤ first_fail_from p i k
all_from p i k good = omega (arith, from_is p i k (i + k) (omega arith) (omega arith) good (λ l. absurd (omega arith)))

-- the end is reached only where no place fails
pub first_all : (p : ℕ → Bool) (n : ℕ) → n ≤ first_fail p n → (j : ℕ) → j < n → p j ≡ true
unfolding first_fail
first_all p n h j l = from_all p 0 n (omega arith) j (omega arith) (omega arith)

-- a test that holds of each number below n, and one that does not
pub all_below : (p : ℕ → Bool) (n : ℕ) → holds_below p n ≡ true → (j : ℕ) → j < n → p j ≡ true
unfolding holds_below
all_below p n h = let e : first_fail p n ≡ n = eqb-true (first_fail p n) n h in first_all p n (omega arith)

pub below_all : (p : ℕ → Bool) (n : ℕ) → n ≤ first_fail p n → holds_below p n ≡ true
unfolding holds_below
below_all p n h = eq-eqb (first_fail p n) n (omega (arith, first_le p n))

pub below_not : (p : ℕ → Bool) (n : ℕ) → first_fail p n < n → holds_below p n ≡ false
unfolding holds_below
below_not p n h = ne_eqb (first_fail p n) n (λ e. omega arith)

-- the same of a list of tests: where none is the first that fails, each holds
pub false_none : (bs : List Bool) → length bs ≤ first_false bs → (i : ℕ) → get_or bs i true ≡ true
unfolding first_false
false_none [] h i = refl
false_none (true ∷ bs) h zero = refl
false_none (true ∷ bs) h (suc i) = false_none bs (omega arith) i
false_none (false ∷ bs) h i = absurd (omega arith)

-- what a chain of tests decides of each number below n
pub decides : (p q : ℕ → Bool) (n m : ℕ) (r : Bool) → m ≡ n → ((i : ℕ) → i < n → q i ≡ p i)
    → (r ≡ true → (i : ℕ) → i < m → q i ≡ true) × (((i : ℕ) → i < m → q i ≡ true) → r ≡ true) → r ≡ holds_below p n
unfolding first_fail
decides p q n m true e same d = sym (below_all p n (omega (arith, all_from p 0 n (λ i _ l. sym (same i (omega arith)) ∙ d.0 refl i (omega arith)))))
decides p q n m false e same d = go (holds_below p n) refl
  where
    go : (b : Bool) → holds_below p n ≡ b → false ≡ b
    go true h = d.1 (λ i l. same i (omega arith) ∙ all_below p n h i (omega arith))
    go false h = refl

-- the same of the elements of a part of a list
pub part_decides : {A : Type 0} (p : ℕ → Bool) (test : A → Bool) (d : A) (xs : List A) (at n m : ℕ) (r : Bool) → m ≡ n → at + n ≤ length xs
    → ((i : ℕ) → i < n → test (get_or xs (at + i) d) ≡ p i)
    → (r ≡ true → (i : ℕ) → i < length (take m (drop at xs)) → test (get_or (take m (drop at xs)) i d) ≡ true) × (((i : ℕ) → i < length (take m (drop at xs)) → test (get_or (take m (drop at xs)) i d) ≡ true) → r ≡ true)
    → r ≡ holds_below p n
part_decides p test d xs at n m r e long same =
    decides p (λ i. test (get_or (take m (drop at xs)) i d)) n (length (take m (drop at xs))) r (simp (length-take, length-drop) (omega arith))
    (λ i l. ap test (get_or-take m (drop at xs) i d (omega arith) ∙ get_or-drop at xs i d) ∙ same i l)

-- ---- a test of each number below n, as a loop decides it: false where one fails, true at the end
pub one_fails : (p : ℕ → Bool) (n i : ℕ) → ((j : ℕ) → j < i → p j ≡ true) → i < n → p i ≡ false → false ≡ holds_below p n
one_fails p n i good l bad = sym (below_not p n (omega (arith, first_at p n i good l bad)))

pub none_fails : (p : ℕ → Bool) (n i : ℕ) → ((j : ℕ) → j < i → p j ≡ true) → i ≡ n → true ≡ holds_below p n
none_fails p n i good e = sym (below_all p n (omega (arith, first_end p n i good e)))
