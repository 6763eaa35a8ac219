-- At each d its piece's line gives ln(1 + exp(d)): between two knots A(d) is (base − fall × d) div 32, at both ends too.
-- Assumes nothing.
use Rattle.std.proofs.Common.{◌≡◌, ℕ, suc, ◌+◌, ◌-◌, ◌*◌, ◌/◌, ◌%◌, ◌^◌, ◌<◌, ◌≤◌, ℤ, pos, negsuc, ◌+ℤ◌, ◌*ℤ◌, neg_ℤ, nat_abs, ◌≤ℤ◌, sym, refl, ap, ◌∙◌, mul_comm, add-mul, mul-le-mul, mul-le-mul_left, zero-add, zero-mul, mul-add, arith, w64, of_z}
use lib.IntN.{+ℤ_idr}
use Rattle.steps.specs.Knots.{T}
use Rattle.steps.specs.Addend.{addend}
use Rattle.steps.specs.Logs.{add_exp, larger, difference}
use Rattle.steps.specs.Inner.Lines.{fall, base, line_at, Holds}
use Rattle.steps.proofs.Signed.{cases, zlin, up_pos, dn_pos, neg_up, neg_dn, parts_add}
use Rattle.steps.proofs.Slope.{slope}
use Rattle.steps.proofs.Addends.{line, on_line, at_knot, far}
use Rattle.steps.proofs.AddExp.{larger_first}
use Rattle.steps.proofs.LineTable.{line_below, line_above, line_high, line_low}

-- ---- A on the line of the knot k, for d from 32 k to 32 (k + 1)
record Between (k d : ℕ) : Type 0 where
  room : fall k * d ≤ base k
  value : addend d ≡ (base k - fall k * d) / 32

fall_low : (k : ℕ) → k < 1604 → fall k ≤ 32
unfolding fall
fall_low k h = let g = slope k (omega arith) in omega (arith, g.near)

base_low : (k : ℕ) → k < 1604 → base k < 2 ^ 31
unfolding base
base_low k h =
    let g = slope k (omega arith) in
    let l : 32 * k ≤ 51328 = omega arith in
    let p : 32 * k * fall k ≤ 51328 * 32 = mul-le-mul l (fall_low k h) in omega (arith, g.low)

fall_is : (k : ℕ) → fall k ≡ T k - T (k + 1)
unfolding fall
fall_is k = refl

-- the product at d, which is r steps past the knot
product : (k r : ℕ) → fall k * (32 * k + r) ≡ 32 * k * fall k + fall k * r
product k r = mul-add (fall k) (32 * k) r ∙ ap (λ (n : ℕ). n + fall k * r) (mul_comm (fall k) (32 * k))

inside : (k r : ℕ) → k < 1604 → r < 32 → addend (32 * k + r) ≡ T k - fall k * r / 32
unfolding fall line
inside k r h l =
    let d = 32 * k + r in
    let q : d / 32 ≡ k = omega arith in
    let m : d % 32 ≡ r = omega arith in on_line d (omega arith) ∙ rw (q, m)

between_by : (k r : ℕ) → k < 1604 → r ≤ 32 → Between k (32 * k + r)
unfolding base
between_by k r h l =
    let g = slope k (omega arith) in
    let p = product k r in
    let f = fall_is k in
    let m : fall k * r ≤ fall k * 32 = mul-le-mul_left (fall k) l in
    cases r 32
    (λ i. let a = inside k r h i in record { room = omega arith; value = omega arith })
    (λ i. let e : r ≡ 32 = omega arith in
    let o : 32 * k + r ≡ 32 * (k + 1) = omega arith in
    let a = ap addend o ∙ at_knot (k + 1) (omega arith) in
    let b = ap (λ (n : ℕ). fall k * n) e in record { room = omega arith; value = omega arith })

between : (k d : ℕ) → k < 1604 → 32 * k ≤ d → d ≤ 32 * k + 32 → Between k d
between k d h l m =
    let e : 32 * k + (d - 32 * k) ≡ d = omega arith in
    rw e at (between_by k (d - 32 * k) h (omega arith))

-- ---- add_exp with 0
above_zero : (d : ℕ) → add_exp (pos d) (pos 0) ≡ pos (d + addend d)
unfolding add_exp difference
above_zero d =
    let h : pos 0 ≤ℤ pos d = omega (zlin, up_pos 0, dn_pos 0, up_pos d, dn_pos d) in
    let e : d + 0 ≡ d = omega arith in rw (larger_first (pos d) (pos 0) h, e)

below_zero : (n : ℕ) → add_exp (negsuc n) (pos 0) ≡ pos (addend (suc n))
unfolding add_exp larger difference
below_zero n = ap pos (zero-add (addend (difference (negsuc n) (pos 0))) ∙ ap (λ (z : ℤ). addend (nat_abs z)) (+ℤ_idr (negsuc n)))

-- ---- the lines
taken : (b q : ℕ) → q ≤ b → pos b +ℤ neg_ℤ (pos q) ≡ pos (b - q)
taken b q h =
    let p = parts_add (pos b) (neg_ℤ (pos q)) in
    omega (zlin, neg_up (pos q), neg_dn (pos q), up_pos b, dn_pos b, up_pos q, dn_pos q, up_pos (b - q), dn_pos (b - q))

-- the record, from what stands in the table
holds : (k b s n : ℕ) (d : ℤ) → k < 3210 → b < 2 ^ 31 → s ≤ 32 → line_at k ≡ (b, s) → pos b +ℤ pos s *ℤ d ≡ pos n → add_exp d (pos 0) ≡ pos (n / 32) → Holds k d
holds k b s n d h l g t e v =
    record {
      listed = h;
      low = rw t l;
      gentle = rw t g;
      sum = n;
      sums = rw t e;
      value = v;
    }

holds_above : (d : ℕ) → d < 51328 → Holds (1604 + d / 32) (pos d)
holds_above d h =
    let k = d / 32 in
    let l : k < 1604 = omega arith in
    let a = between k d l (omega arith) (omega arith) in
    let f = fall_low k l in
    let p : (32 - fall k) * d + fall k * d ≡ 32 * d = sym (add-mul (32 - fall k) (fall k) d) ∙ ap (λ (n : ℕ). n * d) (omega arith) in
    holds (1604 + k) (base k) (32 - fall k) (base k + (32 - fall k) * d) (pos d) (omega arith) (base_low k l) (omega arith)
    (line_above (1604 + k) k l refl) refl
    (above_zero d ∙ ap pos (omega (arith, a.room, a.value)))

holds_below_lem : (n : ℕ) → n < 51328 → Holds ((51327 - n) / 32) (negsuc n)
holds_below_lem n h =
    let i = (51327 - n) / 32 in
    let k = 1603 - i in
    let l : k < 1604 = omega arith in
    let a = between k (suc n) l (omega arith) (omega arith) in
    let m = base k - fall k * suc n in
    let s : pos (base k) +ℤ pos (fall k) *ℤ negsuc n ≡ pos m = taken (base k) (fall k * suc n) a.room in
    holds i (base k) (fall k) m (negsuc n) (omega arith) (base_low k l) (fall_low k l) (line_below i k (omega arith)) s
    (below_zero n ∙ ap pos a.value)

holds_high : (d : ℕ) → 51328 ≤ d → Holds 3208 (pos d)
holds_high d h =
    let z = far d h in
    holds 3208 0 32 (0 + 32 * d) (pos d) (omega arith) (omega arith) (omega arith) line_high refl
    (above_zero d ∙ ap pos (omega arith))

holds_low : (n : ℕ) → 51328 ≤ n → Holds 3209 (negsuc n)
holds_low n h =
    let z = zero-mul (suc n) in
    let a = far (suc n) (omega arith) in
    holds 3209 0 0 0 (negsuc n) (omega arith) (omega arith) (omega arith) line_low (taken 0 (0 * suc n) (omega (arith, z)) ∙ ap pos (omega (arith, z))) (below_zero n ∙ ap pos (omega arith))

-- ---- which piece: u is d's bits, and e is d + 51,328, modulo 2^64
pub piece_near : (d : ℤ) (u : ℕ) → u ≡ of_z w64 d → nat_abs d ≤ 2 ^ 36 → (u + 51328) % 2 ^ 64 / 32 < 3208 → Holds ((u + 51328) % 2 ^ 64 / 32) d
piece_near (pos n) u e h i =
    let j : (u + 51328) % 2 ^ 64 / 32 ≡ 1604 + n / 32 = omega arith in rw j (holds_above n (omega arith))
piece_near (negsuc n) u e h i =
    let l : n < 51328 = omega arith in
    let j : (u + 51328) % 2 ^ 64 / 32 ≡ (51327 - n) / 32 = omega arith in rw j (holds_below_lem n l)

pub piece_far : (d : ℤ) (u : ℕ) → u ≡ of_z w64 d → nat_abs d ≤ 2 ^ 36 → 3208 ≤ (u + 51328) % 2 ^ 64 / 32 → Holds (3208 + (u + 51328) % 2 ^ 64 / 9223372036854775808) d
piece_far (pos n) u e h i =
    let j : 3208 + (u + 51328) % 2 ^ 64 / 9223372036854775808 ≡ 3208 = omega arith in rw j (holds_high n (omega arith))
piece_far (negsuc n) u e h i =
    let l : 51328 ≤ n = omega arith in
    let j : 3208 + (u + 51328) % 2 ^ 64 / 9223372036854775808 ≡ 3209 = omega arith in rw j (holds_low n l)
