-- A slice of m orders of n entries each: their number, where order o lies, and the loop that writes them one after the other.
-- Assumes nothing.
use Rattle.std.proofs.Common.{◌≡◌, ℕ, zero, suc, ◌+◌, ◌-◌, ◌*◌, ◌/◌, ◌%◌, ◌<◌, ◌≤◌, Bool, true, false, cond, eqb, List, ◌++◌, length, take, drop, sym, refl, ap, ◌∙◌, append_assoc, append-nil, mul-le-mul_right, suc-mul, mul-zero, div-add-mod', zero-mul, mul-div_cancel, arith, length-append, length-drop, length-take-le, take_all, take_at, eq-eqb, eqb-true}
use native.Mathlib.Nat.{mul-mod_left}
use Rattle.shuffle.specs.SplitMix.{state_after}
use Rattle.shuffle.specs.Permutation.{permutes}
use Rattle.shuffle.specs.Orders.{order_from, orders_from, order_count, order_at}
use Rattle.shuffle.proofs.Swaps.{order_length}

-- ---- the number of orders
-- where there are orders, they fill the slice
fills : (n elements : ℕ) → 0 < order_count n elements → order_count n elements * n ≡ elements
unfolding order_count
fills zero zero h = refl
fills zero (suc k) h = absurd (omega arith)
fills (suc n) k h = go (eqb (k % suc n) 0) refl h
  where
    go : (b : Bool) → eqb (k % suc n) 0 ≡ b → 0 < cond b (k / suc n) 0 → cond b (k / suc n) 0 * suc n ≡ k
    go true e l = omega (arith, div-add-mod' k (suc n), eqb-true (k % suc n) 0 e)
    go false e l = absurd (omega arith)

pub count_fills : (n elements m : ℕ) → m ≡ order_count n elements → 0 < m → m * n ≡ elements
count_fills n elements m e some = ap (λ (k : ℕ). k * n) e ∙ fills n elements (omega arith)

pub count_one : (elements m : ℕ) → m ≡ order_count 0 elements → 0 < m → m ≡ 1
unfolding order_count
count_one zero m e some = e
count_one (suc k) m e some = absurd (omega arith)

-- m orders of n entries each are m orders; with n = 0 they are one
pub count_of : (n m : ℕ) → 0 < m → (n ≡ 0 → m ≡ 1) → m ≡ order_count n (m * n)
unfolding order_count
count_of zero m some one = one refl ∙ rw (mul-zero m) refl
count_of (suc n) m some one =
    let pos : 0 < suc n = omega arith in
    rw (eq-eqb (m * suc n % suc n) 0 (mul-mod_left m (suc n)), mul-div_cancel m pos) refl

-- ---- where order o lies: as the code lends it, it has n entries, and it is `order_at`
module _ (n m o : ℕ) (orders : List ℕ) (filled : m * n ≡ length orders) (h : o < m) where
  order_end : o * n + n ≤ length orders
  order_end =
      let within : suc o * n ≤ m * n = mul-le-mul_right n h in
      omega (arith, suc-mul o n)

  pub before_length : length (take (o * n) orders) ≡ o * n
  before_length = length-take-le (o * n) orders (omega (arith, order_end))

  pub lent_length : length (take ((o + 1) * n - o * n) (drop (o * n) orders)) ≡ n
  lent_length =
      let k : (o + 1) * n - o * n ≡ n = omega arith in
      ap (λ (i : ℕ). length (take i (drop (o * n) orders))) k ∙ length-take-le n (drop (o * n) orders) (omega (arith, length-drop (o * n) orders, order_end))

lent_order : (n o : ℕ) (orders : List ℕ) → take ((o + 1) * n - o * n) (drop (o * n) orders) ≡ order_at n orders o
unfolding order_at
lent_order n o orders =
    let k : (o + 1) * n - o * n ≡ n = omega arith in
    ap (λ (i : ℕ). take i (drop (o * n) orders)) k

-- its test is that of order o
pub lent_permutes : (n m o : ℕ) (orders : List ℕ) → m * n ≡ length orders → o < m
    → permutes (length (take ((o + 1) * n - o * n) (drop (o * n) orders))) (take ((o + 1) * n - o * n) (drop (o * n) orders)) ≡ permutes n (order_at n orders o)
lent_permutes n m o orders filled h = rw (lent_length n m o orders filled h, lent_order n o orders) refl

-- ---- writing the orders: the first o are written, and the rest are to come from the state
pub write_start : (n m seed : ℕ) (orders : List ℕ) → take (0 * n) orders ++ orders_from n (m - 0) seed ≡ orders_from n m seed
write_start n m seed orders =
    let none : 0 * n ≡ 0 = zero-mul n in
    let all : m - 0 ≡ m = omega arith in
    rw (none, all) refl

next_order : (n m o state : ℕ) → o < m → order_from n state ++ orders_from n (m - (o + 1)) (state_after (n - 1) state) ≡ orders_from n (m - o) state
unfolding orders_from
next_order n m o state h =
    let e : m - o ≡ suc (m - (o + 1)) = omega arith in
    sym (ap (λ (k : ℕ). orders_from n k state) e)

pub write_more : (n m o seed state later : ℕ) (written part rest : List ℕ) → o < m → length written ≡ o * n → part ≡ order_from n state → later ≡ state_after (n - 1) state
    → written ++ orders_from n (m - o) state ≡ orders_from n m seed
    → take ((o + 1) * n) (written ++ (part ++ rest)) ++ orders_from n (m - (o + 1)) later ≡ orders_from n m seed
write_more n m o seed state later written part rest h size p s inv =
    let room : length (written ++ part) ≡ (o + 1) * n = length-append written part ∙ omega (arith, ap length p, order_length n state) in
    let front : take ((o + 1) * n) (written ++ (part ++ rest)) ≡ written ++ part =
    ap (take ((o + 1) * n)) (sym (append_assoc written part rest)) ∙ take_at (written ++ part) rest ((o + 1) * n) room in
    rw (front, append_assoc, p, s, next_order n m o state h) inv

pub write_end : (n m o seed state : ℕ) (orders : List ℕ) → m * n ≡ length orders → o ≡ m → take (o * n) orders ++ orders_from n (m - o) state ≡ orders_from n m seed → orders ≡ orders_from n m seed
unfolding orders_from
write_end n m o seed state orders long e inv =
    let none : m - o ≡ 0 = omega arith in
    let all : take (o * n) orders ≡ orders = take_all (o * n) orders (omega (arith, ap (λ (k : ℕ). k * n) e)) in
    rw (none, all, append-nil) at inv
