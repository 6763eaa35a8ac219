-- Sums over a list: along an append and a map, of equal terms, of numbers below 0, and as what a walk gathers; and sums over the
-- numbers below one.
-- Assumes nothing.
use mathlib.Core.Path.{◌≡◌, refl, sym, ap, ◌∙◌}
use mathlib.Core.List.{List, [], ◌∷◌, ◌++◌, map}
use Prim.Native.Nat.{ℕ, zero, suc, ◌+◌, ◌*◌, ◌-◌, ◌≤◌, ◌<◌}
use native.Mathlib.Nat.{le_refl}
use native.Mathlib.Numerals.{add-one}
use native.Mathlib.Omega.{arith}
use lib.IntN.{ℤ, pos, neg_ℤ, ◌+ℤ◌, +ℤ_idl, +ℤ_assoc, neg_ℤ-+ℤ}
use lib.ListN.{length, get_or}
use Rattle.variants_and_fragments.specs.Inner.Case.{All, end, also}
use Rattle.variants_and_fragments.specs.Sums.{sum_over, count_over, sum_to, count_to}

-- ---- of integers
pub sum_append : {X : Type 0} (xs ys : List X) (g : X → ℤ) → sum_over (xs ++ ys) g ≡ sum_over xs g +ℤ sum_over ys g
unfolding sum_over
sum_append [] ys g = sym (+ℤ_idl (sum_over ys g))
sum_append (x ∷ xs) ys g = ap (λ z. g x +ℤ z) (sum_append xs ys g) ∙ sym (+ℤ_assoc (g x) (sum_over xs g) (sum_over ys g))

pub sum_map : {X Y : Type 0} (h : X → Y) (xs : List X) (g : Y → ℤ) → sum_over (map h xs) g ≡ sum_over xs (λ x. g (h x))
unfolding sum_over
sum_map h [] g = refl
sum_map h (x ∷ xs) g = ap (λ z. g (h x) +ℤ z) (sum_map h xs g)

pub sum_same : {X : Type 0} {g h : X → ℤ} {xs : List X} → All (λ x. g x ≡ h x) xs → sum_over xs g ≡ sum_over xs h
unfolding sum_over
sum_same end = refl
sum_same (also e es) = rw (e, sum_same es)

pub sum_over_cong : {X : Type 0} (xs : List X) (f g : X → ℤ) → ((x : X) → f x ≡ g x) → sum_over xs f ≡ sum_over xs g
unfolding sum_over
sum_over_cong [] f g e = refl
sum_over_cong (x ∷ xs) f g e = rw (e x, sum_over_cong xs f g e)

-- terms that lie n x below 0
pub sum_debts : {X : Type 0} {g : X → ℤ} (n : X → ℕ) {xs : List X} → All (λ x. g x ≡ neg_ℤ (pos (n x))) xs → sum_over xs g ≡ neg_ℤ (pos (count_over xs n))
unfolding sum_over count_over
sum_debts n end = refl
sum_debts n (also {x} {xs} e es) = rw (e, sum_debts n es) (sym (neg_ℤ-+ℤ (pos (n x)) (pos (count_over xs n))))

-- ---- of whole numbers from 0 on
pub count_append : {X : Type 0} (xs ys : List X) (n : X → ℕ) → count_over (xs ++ ys) n ≡ count_over xs n + count_over ys n
unfolding count_over
count_append [] ys n = omega arith
count_append (x ∷ xs) ys n = omega (arith, count_append xs ys n)

pub count_map : {X Y : Type 0} (h : X → Y) (xs : List X) (n : Y → ℕ) → count_over (map h xs) n ≡ count_over xs (λ x. n (h x))
unfolding count_over
count_map h [] n = refl
count_map h (x ∷ xs) n = ap (λ m. n (h x) + m) (count_map h xs n)

pub count_over_cong : {X : Type 0} (xs : List X) (m n : X → ℕ) → ((x : X) → m x ≡ n x) → count_over xs m ≡ count_over xs n
unfolding count_over
count_over_cong [] m n e = refl
count_over_cong (x ∷ xs) m n e = rw (e x, count_over_cong xs m n e)

pub count_same : {X : Type 0} (xs : List X) (m : ℕ) → count_over xs (λ _. m) ≡ m * length xs
unfolding count_over
count_same [] m = omega arith
count_same (x ∷ xs) m = omega (arith, count_same xs m)

pub count_times : {X : Type 0} (xs : List X) (m : ℕ) (n : X → ℕ) → count_over xs (λ x. m * n x) ≡ m * count_over xs n
unfolding count_over
count_times [] m n = omega arith
count_times (x ∷ xs) m n = omega (arith, count_times xs m n)

pub count_at : {X : Type 0} (xs : List X) (n : X → ℕ) (i : ℕ) (d : X) → i < length xs → n (get_or xs i d) ≤ count_over xs n
unfolding count_over
count_at [] n i d h = absurd (omega arith)
count_at (x ∷ xs) n zero d h = omega arith
count_at (x ∷ xs) n (suc i) d h = omega (arith, count_at xs n i d (omega arith))

pub count_le : {X : Type 0} (xs : List X) (n m : X → ℕ) → ((x : X) → n x ≤ m x) → count_over xs n ≤ count_over xs m
unfolding count_over
count_le [] n m h = omega arith
count_le (x ∷ xs) n m h = omega (arith, h x, count_le xs n m h)

-- ---- over the numbers below n
pub sum_to_cong : (n : ℕ) (f g : ℕ → ℤ) → ((i : ℕ) → i < n → f i ≡ g i) → sum_to n f ≡ sum_to n g
unfolding sum_to
sum_to_cong zero f g e = refl
sum_to_cong (suc n) f g e = cc (sum_to_cong n f g (λ i l. e i (omega arith)), e n (omega arith))

pub count_to_cong : (n : ℕ) (f g : ℕ → ℕ) → ((i : ℕ) → i < n → f i ≡ g i) → count_to n f ≡ count_to n g
unfolding count_to
count_to_cong zero f g e = refl
count_to_cong (suc n) f g e = cc (count_to_cong n f g (λ i l. e i (omega arith)), e n (omega arith))

pub count_to_on : (n : ℕ) (f : ℕ → ℕ) → count_to n f + f n ≡ count_to (n + 1) f
unfolding count_to
count_to_on n f = rw add-one

count_to_add : (n d : ℕ) (f : ℕ → ℕ) → count_to n f ≤ count_to (n + d) f
unfolding count_to
count_to_add n zero f = let e : n + 0 ≡ n = omega arith in rw e (le_refl _)
count_to_add n (suc d) f = let e : n + suc d ≡ suc (n + d) = omega arith in rw e (omega (arith, count_to_add n d f))

pub count_to_grows : (m n : ℕ) (f : ℕ → ℕ) → m ≤ n → count_to m f ≤ count_to n f
count_to_grows m n f h = let e : m + (n - m) ≡ n = omega arith in rw e at (count_to_add m (n - m) f)

pub count_to_plus : (n : ℕ) (f g : ℕ → ℕ) → count_to n (λ i. f i + g i) ≡ count_to n f + count_to n g
unfolding count_to
count_to_plus zero f g = refl
count_to_plus (suc n) f g = omega (arith, count_to_plus n f g)

pub count_to_zero : (n : ℕ) → count_to n (λ _. 0) ≡ 0
unfolding count_to
count_to_zero zero = refl
count_to_zero (suc n) = omega (arith, count_to_zero n)

pub count_to_top : (n m : ℕ) (f : ℕ → ℕ) → ((i : ℕ) → i < n → f i ≤ m) → count_to n f ≤ m * n
unfolding count_to
count_to_top zero m f h = omega arith
count_to_top (suc n) m f h = omega (arith, count_to_top n m f (λ i l. h i (omega arith)), h n (omega arith))
