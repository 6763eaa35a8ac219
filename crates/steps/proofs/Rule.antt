-- The rule of the knots, proved at all 1,665 entries by one test that antt computes. The powers of 4096 have 168,000 bits, more than
-- the steps of one declaration allow, so the test takes the 64th power, drops its last 2480 bits, and takes the 64th power of that.
-- Assumes nothing.
use Rattle.std.proofs.Common.{◌≡◌, ℕ, suc, ◌+◌, ◌*◌, ◌/◌, ◌^◌, ◌<◌, ◌≤◌, Bool, ltb, leb, List, length, get_or, refl, subst, le_trans, le_refl, le_of_suc-le-suc, add-le-add, mul-le-mul_right, le_antisymm, lt_of_not-le, not-le_of_lt, arith, leb→le, ext_get_or, pow_mono}
use native.Mathlib.Nat.{pow-le-pow_left}
use lib.Dec as D
use Rattle.steps.specs.Table.{knots}
use Rattle.steps.specs.Inner.Table.{roots}
use Rattle.steps.specs.Knots.{Greatest, Knot, KnotTable, T}
use Rattle.steps.proofs.Powers.{at_least, below}
use Rattle.steps.proofs.Entries.{both, both_left, both_right, pairwise, at}

-- where P holds of each number below one of which it holds, the last before one of which it fails is the greatest
greatest : (P : ℕ → Type 0) → ((x y : ℕ) → x ≤ y → P y → P x) → (n : ℕ) → P n → (P (suc n) → ⊥) → Greatest P n
greatest P down n p q = record { holds = p; most = λ m h. le_of_suc-le-suc (lt_of_not-le (λ l. q (down (suc n) m l h))) }

unfoldable coarse : ℕ → ℕ
coarse e = (2 ^ 40 + e) ^ 64 / 2 ^ 2480

unfoldable root_test : ℕ → ℕ → Bool
root_test k e = both (leb (e ^ 128 * 2 ^ k) (2 ^ 5120)) (ltb (2 ^ 5120) (suc e ^ 128 * 2 ^ k))

unfoldable knot_test : ℕ → ℕ → Bool
unfolding coarse
knot_test e t = both (leb (2 ^ (t + 5120)) (coarse e ^ 64)) (leb (suc (coarse e) ^ 64) (2 ^ (suc t + 5120)))

unfoldable right : ℕ → ℕ → ℕ → Bool
unfolding root_test knot_test
right k e t = both (root_test k e) (knot_test e t)

-- two tests that passed
halves : (a b c d : ℕ) → D.T (both (leb a b) (leb c d)) → (a ≤ b) × (c ≤ d)
halves a b c d t =
    (leb→le a b (both_left (leb a b) (leb c d) t), leb→le c d (both_right (leb a b) (leb c d) t))

root_of : (k e : ℕ) → D.T (root_test k e) → Greatest (λ (x : ℕ). x ^ 128 * 2 ^ k ≤ 2 ^ 5120) e
unfolding root_test
root_of k e t =
    let h = halves (e ^ 128 * 2 ^ k) (2 ^ 5120) (suc (2 ^ 5120)) (suc e ^ 128 * 2 ^ k) t in
    greatest (λ (x : ℕ). x ^ 128 * 2 ^ k ≤ 2 ^ 5120)
    (λ x y l p. le_trans (mul-le-mul_right (2 ^ k) (pow-le-pow_left l 128)) p) e h.0 (not-le_of_lt h.1)

knot_of : (e t : ℕ) → D.T (knot_test e t) → Greatest (λ (x : ℕ). 2 ^ (x + 163840) ≤ (2 ^ 40 + e) ^ 4096) t
unfolding knot_test coarse
knot_of e t w =
    let h = halves (2 ^ (t + 5120)) (coarse e ^ 64) (suc (coarse e) ^ 64) (2 ^ (suc t + 5120)) w in
    greatest (λ (x : ℕ). 2 ^ (x + 163840) ≤ (2 ^ 40 + e) ^ 4096)
    (λ x y l p. le_trans (pow_mono (add-le-add l (le_refl 163840))) p) t
    (at_least (2 ^ 40 + e) 2480 64 64 (t + 5120) (t + 163840) (omega arith) h.0)
    (not-le_of_lt (below (2 ^ 40 + e) 2480 64 64 (suc t + 5120) (suc t + 163840) (omega arith) (omega arith) h.1))

tested : D.T (pairwise right 0 roots knots)
unfolding knots roots right root_test knot_test coarse
tested = tt

pub long : (k : ℕ) → k < 1665 → k < length knots
unfolding knots
long k h = h

pub rule : (k : ℕ) → k < 1665 → Knot k (T k)
unfolding T right
rule k h =
    let e = get_or roots k 0 in
    let t = get_or knots k 0 in
    let w = at right roots knots tested k (long k h) in
    record {
      e = e;
      root = root_of k e (both_left (root_test k e) (knot_test e t) w);
      knot = knot_of e t (both_right (root_test k e) (knot_test e t) w);
    }

-- the rule fixes the knot
pub one_root : {P : ℕ → Type 0} {m n : ℕ} → Greatest P m → Greatest P n → m ≡ n
one_root {P} {m} {n} g h = le_antisymm (h.most m g.holds) (g.most n h.holds)

pub one_knot : (k t u : ℕ) → Knot k t → Knot k u → t ≡ u
one_knot k t u x y =
    one_root x.knot
    (subst (λ (e : ℕ). Greatest (λ (z : ℕ). 2 ^ (z + 163840) ≤ (2 ^ 40 + e) ^ 4096) u) (one_root y.root x.root) y.knot)

-- ---- the whole table
pub whole_table : KnotTable knots
unfolding knots T
whole_table = record { long = refl; each = rule }

pub one_table : (ts : List ℕ) → KnotTable ts → ts ≡ knots
one_table ts x =
    let l = x.long in
    let m = whole_table.long in
    ext_get_or 0 ts knots (omega arith) (λ k h. one_knot k (get_or ts k 0) (get_or knots k 0) (x.each k (omega arith)) (whole_table.each k (omega arith)))
