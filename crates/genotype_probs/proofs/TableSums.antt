-- Sums of tables: what a loop goes through, their sizes, and what follows since ln_add_exp moves with a constant: tables that differ by one are
-- the same normalised, and the sum of row sums of a normalised table is 0. Assumes nothing.
use mathlib.Core.Path.{◌≡◌, refl, sym, ap, ◌∙◌}
use mathlib.Core.List.{List, [], ◌∷◌, map}
use Prim.Native.Nat.{ℕ, zero, suc, ◌+◌, ◌*◌, ◌-◌, ◌/◌, ◌%◌, ◌^◌, ◌≤◌, ◌<◌}
use native.Mathlib.Nat.{mul-le-mul_right, suc-mul, div-lt_iff_lt-mul, mod-lt}
use native.Mathlib.Numerals.{add-one}
use native.Mathlib.Omega.{arith}
use borrow.Author.Tests.{ltb-true, lt-ltb}
use lib.Dec.{ltb}
use lib.IntN.{ℤ, pos, neg_ℤ, nat_abs, ◌+ℤ◌, ◌-ℤ◌}
use lib.ListN.{length, get_or, take, drop, length-drop}
use lib.Seq.{length-take-le, ext_get_or, get_or-take, get_or-drop}
use Rattle.steps.specs.Logs.{steps, add_exp, ln_sum_exp, sum_exp}
use Rattle.steps.proofs.Signed.{by_test, zlin, parts_add, parts_minus, up_pos, dn_pos}
use Rattle.steps.proofs.AddExp.{add_size}
use Rattle.steps.specs.Inner.Logs.{log_of}
use Rattle.steps.proofs.Marks.{steps_is}
use Rattle.steps.proofs.Sums.{sum_steps, log_steps, sum_shift, sum_size}
use Rattle.variants_and_fragments.specs.Decode.{tabulate_from, tabulate}
use Rattle.variants_and_fragments.proofs.Decoded.{tabulate_length, tabulate_at}
use Rattle.genotype_probs.specs.Posteriors.{sum_of, entry_at, row_sum, table_sum, normalized}

-- ---- lists of a function's values
from_cong : {X : Type 0} (f g : ℕ → X) (i k : ℕ) → ((j : ℕ) → j < i + k → f j ≡ g j) → tabulate_from f i k ≡ tabulate_from g i k
unfolding tabulate_from
from_cong f g i zero h = refl
from_cong f g i (suc k) h = rw (h i (omega arith), from_cong f g (suc i) k (λ j l. h j (omega arith)))

pub tabulate_cong : {X : Type 0} (k : ℕ) (f g : ℕ → X) → ((j : ℕ) → j < k → f j ≡ g j) → tabulate k f ≡ tabulate k g
tabulate_cong k f g h = from_cong f g 0 k (λ j l. h j (omega arith))

from_shift : (f : ℕ → ℤ) (c : ℤ) (i k : ℕ) → tabulate_from (λ j. f j +ℤ c) i k ≡ map (λ (x : ℤ). x +ℤ c) (tabulate_from f i k)
unfolding tabulate_from
from_shift f c i zero = refl
from_shift f c i (suc k) = ap (λ (l : List ℤ). (f i +ℤ c) ∷ l) (from_shift f c (suc i) k)

-- ---- sums
-- `sum_of` is `ln_sum_exp`
pub sum_of_lem : (x : ℤ) (xs : List ℤ) → ln_sum_exp (map steps (x ∷ xs)) ≡ steps (sum_of (x ∷ xs))
unfolding sum_of
sum_of_lem x xs = sum_steps x xs

-- the number of `ln_sum_exp` of numbers that are each at most n steps from 0
pub sum_is : (n : ℕ) (xs : List ℤ) (r : ℤ) → 1 ≤ length xs → n + 4096 * length xs ≤ 2 ^ 61 → ((k : ℕ) → k < length xs → nat_abs (get_or xs k (pos 0)) ≤ n) → log_of r ≡ ln_sum_exp (map log_of xs) → (r ≡ sum_of xs) × (nat_abs r ≤ n + 4096 * length xs)
unfolding sum_of
sum_is n [] r h l each e = absurd (omega arith)
sum_is n (x ∷ xs) r h l each e =
    let b = sum_size n x xs (each 0 (omega arith)) (λ k i. each (suc k) (omega arith)) in
    let s = log_steps (x ∷ xs) (λ k i. let y = each k i in omega arith) in
    let v = steps_is r (sum_exp x xs) (omega arith) (e ∙ ap ln_sum_exp s ∙ sum_steps x xs) in (v, omega (arith, ap nat_abs v))

pub sum_first : (f : ℕ → ℤ) (k : ℕ) → 1 ≤ k → sum_of (tabulate k f) ≡ sum_exp (f 0) (tabulate_from f 1 (k - 1))
unfolding tabulate_from sum_of
sum_first f zero h = absurd (omega arith)
sum_first f (suc k) h = let e : suc k - 1 ≡ k = omega arith in rw e

pub sum_next : (f : ℕ → ℤ) (a : ℤ) (j k : ℕ) → j < k → sum_exp a (tabulate_from f j (k - j)) ≡ sum_exp (add_exp a (f j)) (tabulate_from f (j + 1) (k - (j + 1)))
unfolding tabulate_from sum_exp
sum_next f a j k h = let e : k - j ≡ suc (k - (j + 1)) = omega arith in rw (e, add-one j)

pub sum_done : (f : ℕ → ℤ) (a : ℤ) (j k : ℕ) → k ≤ j → sum_exp a (tabulate_from f j (k - j)) ≡ a
unfolding tabulate_from sum_exp
sum_done f a j k h = let e : k - j ≡ 0 = omega arith in rw e

-- a constant added to each moves the sum by that constant
pub sum_moves : (f : ℕ → ℤ) (c : ℤ) (k : ℕ) → 1 ≤ k → sum_of (tabulate k (λ j. f j +ℤ c)) ≡ sum_of (tabulate k f) +ℤ c
sum_moves f c k h =
    sum_first (λ j. f j +ℤ c) k h
    ∙ ap (sum_exp (f 0 +ℤ c)) (from_shift f c 1 (k - 1))
    ∙ sum_shift c (f 0) (tabulate_from f 1 (k - 1))
    ∙ ap (λ (z : ℤ). z +ℤ c) (sym (sum_first f k h))

-- ---- places of a table
pub place_in : (i j k : ℕ) → i < k → j < k → i * k + j < k * k
place_in i j k h l = let m = mul-le-mul_right k h in omega (arith, m, suc-mul i k)

-- the pair of row-major number p
pub pair_in : (k p : ℕ) → 1 ≤ k → p < k * k → (p / k < k) × (p % k < k)
pair_in k p h l = ((div-lt_iff_lt-mul {k = k} {x = p} {y = k} h).1 l, mod-lt p {m = k} h)

-- row i, as a part of the table
pub row_part : (tab : List ℤ) (k i : ℕ) → i * k + k ≤ length tab → take k (drop (i * k) tab) ≡ tabulate k (entry_at tab k i)
unfolding entry_at
row_part tab k i h =
    let d = length-drop (i * k) tab in
    let e : length (take k (drop (i * k) tab)) ≡ k = length-take-le k (drop (i * k) tab) (omega arith) in
    ext_get_or (pos 0) (take k (drop (i * k) tab)) (tabulate k (entry_at tab k i)) (e ∙ sym (tabulate_length k (entry_at tab k i)))
    (λ j l.
    let m : j < k = omega arith in
    get_or-take k (drop (i * k) tab) j (pos 0) m
    ∙ get_or-drop (i * k) tab j (pos 0)
    ∙ sym (tabulate_at k (entry_at tab k i) j (pos 0) m))

-- ---- a table whose k × k entries are another's, each with a constant added
module _ (c : ℤ) (tab other : List ℤ) (k : ℕ) (low : 1 ≤ k) (moved : (p : ℕ) → p < k * k → get_or tab p (pos 0) ≡ get_or other p (pos 0) +ℤ c) where
  row_moves : (i : ℕ) → i < k → row_sum tab k i ≡ row_sum other k i +ℤ c
  unfolding row_sum entry_at
  row_moves i h =
      ap sum_of (tabulate_cong k (entry_at tab k i) (λ j. entry_at other k i j +ℤ c) (λ j l. moved (i * k + j) (place_in i j k h l)))
      ∙ sum_moves (entry_at other k i) c k low

  -- its sum moves by that constant
  table_moves : table_sum tab k ≡ table_sum other k +ℤ c
  unfolding table_sum
  table_moves = ap sum_of (tabulate_cong k (row_sum tab k) (λ i. row_sum other k i +ℤ c) row_moves) ∙ sum_moves (row_sum other k) c k low

  cancel : (x s : ℤ) → (x +ℤ c) -ℤ (s +ℤ c) ≡ x -ℤ s
  cancel x s = omega (zlin, parts_add x c, parts_add s c, parts_minus (x +ℤ c) (s +ℤ c), parts_minus x s)

  -- normalised it is the same
  pub normalized_same : (p : ℕ) → normalized tab k p ≡ normalized other k p
  unfolding normalized
  normalized_same p =
      by_test (ltb p (k * k)) (λ t. rw (t, moved p (ltb-true p (k * k) t), table_moves) (cancel (get_or other p (pos 0)) (table_sum other k))) (λ t. rw t)

minus_itself : (z : ℤ) → z -ℤ z ≡ pos 0
minus_itself z = let u = up_pos 0 in let d = dn_pos 0 in omega (zlin, parts_minus z z)

-- the sum of row sums of a normalised table is 0
pub normal_sum : (tab norm : List ℤ) (k : ℕ) → 1 ≤ k → ((p : ℕ) → p < k * k → get_or norm p (pos 0) ≡ normalized tab k p) → table_sum norm k ≡ pos 0
unfolding normalized
normal_sum tab norm k low each =
    table_moves (neg_ℤ (table_sum tab k)) norm tab k low (λ p h. each p h ∙ rw (lt-ltb p (k * k) h)) ∙ minus_itself (table_sum tab k)

-- ---- a loop that sums: `sum` is that of the first j values, each at most n steps from 0
pub record Summing (n : ℕ) (f : ℕ → ℤ) (k : ℕ) (sum : ℤ) (j : ℕ) : Type 0 where
  pub started : 1 ≤ j
  pub inside : j ≤ k
  pub rest : sum_exp sum (tabulate_from f j (k - j)) ≡ sum_of (tabulate k f)
  pub small : nat_abs sum ≤ n + 4096 * j

pub summing_start : (n : ℕ) (f : ℕ → ℤ) (k : ℕ) (sum : ℤ) → 1 ≤ k → sum ≡ f 0 → nat_abs (f 0) ≤ n → Summing n f k sum 1
summing_start n f k sum h e l =
    record {
      started = omega arith;
      inside = h;
      rest = ap (λ (z : ℤ). sum_exp z (tabulate_from f 1 (k - 1))) e ∙ sym (sum_first f k h);
      small = omega (arith, ap nat_abs e);
    }

pub summing_more : (n : ℕ) (f : ℕ → ℤ) (k : ℕ) (sum next : ℤ) (j : ℕ) → Summing n f k sum j → j < k → next ≡ add_exp sum (f j) → nat_abs (f j) ≤ n → Summing n f k next (j + 1)
summing_more n f k sum next j s h e l =
    record {
      started = omega arith;
      inside = omega arith;
      rest = ap (λ (z : ℤ). sum_exp z (tabulate_from f (j + 1) (k - (j + 1)))) e ∙ sym (sum_next f sum j k h) ∙ s.rest;
      small = omega (arith, ap nat_abs e, add_size sum (f j) (n + 4096 * j) s.small (omega arith));
    }

pub summing_end : (n : ℕ) (f : ℕ → ℤ) (k : ℕ) (sum : ℤ) (j : ℕ) → Summing n f k sum j → k ≤ j → (sum ≡ sum_of (tabulate k f)) × (nat_abs sum ≤ n + 4096 * k)
summing_end n f k sum j s h = (sym (sum_done f sum j k h) ∙ s.rest, omega (arith, s.small, s.inside))

-- ---- sizes, for any list: each value at most n steps from 0
from_small : (f : ℕ → ℤ) (n a-top : ℕ) (a : ℤ) (i k : ℕ) → n ≤ a-top → nat_abs a ≤ a-top → ((j : ℕ) → j < i + k → nat_abs (f j) ≤ n) → nat_abs (sum_exp a (tabulate_from f i k)) ≤ a-top + 4096 * k
unfolding tabulate_from sum_exp
from_small f n top a i zero h l each = omega arith
from_small f n top a i (suc k) h l each =
    let x = each i (omega arith) in
    let y = add_size a (f i) top l (omega arith) in
    let r = from_small f n (top + 4096) (add_exp a (f i)) (suc i) k (omega arith) y (λ j m. each j (omega arith)) in omega arith

sum_small : (f : ℕ → ℤ) (n k : ℕ) → 1 ≤ k → ((j : ℕ) → j < k → nat_abs (f j) ≤ n) → nat_abs (sum_of (tabulate k f)) ≤ n + 4096 * k
sum_small f n k h each =
    let r = from_small f n n (f 0) 1 (k - 1) (omega arith) (each 0 h) (λ j m. each j (omega arith)) in
    rw (sum_first f k h) (omega arith)
