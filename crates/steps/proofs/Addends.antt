-- Laws of A(d), `addend`: it is at most 4096, from each d to the next it falls by 0 or 1, and it is 0 from 51,328 on.
-- Assumes nothing.
use Rattle.std.proofs.Common.{◌≡◌, ℕ, suc, ◌+◌, ◌-◌, ◌*◌, ◌/◌, ◌%◌, ◌<◌, ◌≤◌, min, sym, refl, ap, ◌∙◌, mul-le-mul_left, mul-suc, arith, le-leb}
use native.Mathlib.Decide.{le_ind}
use borrow.Author.Tests.{lt-leb}
use Rattle.steps.specs.Table.{knots}
use Rattle.steps.specs.Knots.{T}
use Rattle.steps.specs.Addend.{addend}
use Rattle.steps.proofs.Signed.{cases}
use Rattle.steps.proofs.Slope.{slope, Gentle}

-- the line from x to y, at r of 32
unfoldable pub line : ℕ → ℕ → ℕ → ℕ
line x y r = x - (x - y) * r / 32

pub past : (d : ℕ) → 53248 ≤ d → addend d ≡ 0
unfolding addend
past d h = simp (le-leb 53248 d h)

pub on_line : (d : ℕ) → d < 53248 → addend d ≡ line (T (d / 32)) (T (d / 32 + 1)) (d % 32)
unfolding addend line
on_line d h = simp (lt-leb 53248 d h)

slope_of : (d : ℕ) → d < 53248 → Gentle (T (d / 32)) (T (d / 32 + 1))
slope_of d h = slope (d / 32) (omega arith)

-- the line between two knots stays between them, and falls by 0 or 1 at each place
module _ (x y : ℕ) (g : Gentle x y) where
  pub product : (r : ℕ) → r ≤ 32 → (x - y) * r ≤ (x - y) * 32
  product r h = mul-le-mul_left (x - y) h

  within : (r : ℕ) → r ≤ 32 → (y ≤ line x y r) × (line x y r ≤ x)
  unfolding line
  within r h = let p = product r h in let e = g.falls in omega arith

  line_falls : (r : ℕ) → r < 32 → (line x y (suc r) ≤ line x y r) × (line x y r ≤ suc (line x y (suc r)))
  unfolding line
  line_falls r h =
      let p = product (suc r) h in let e = g.falls in let n = g.near in let s = mul-suc (x - y) r in omega arith

  line_start : line x y 0 ≡ x
  unfolding line
  line_start = let z = product 0 (omega arith) in omega arith

  line_end : line x y 32 ≡ y
  unfolding line
  line_end = let e = g.falls in omega arith

pub at_knot : (k : ℕ) → k < 1664 → addend (32 * k) ≡ T k
at_knot k h =
    let q : 32 * k / 32 ≡ k = omega arith in
    let m : 32 * k % 32 ≡ 0 = omega arith in
    on_line (32 * k) (omega arith) ∙ rw (q, m) (line_start (T k) (T (k + 1)) (slope k h))

last : T 1664 ≡ 0
unfolding T
last = refl

-- A at d + 1 is on the line that A at d is on
next : (d : ℕ) → d < 53248 → addend (suc d) ≡ line (T (d / 32)) (T (d / 32 + 1)) (suc (d % 32))
next d h = cases (d % 32) 31 inner edge
  where
    inner : d % 32 < 31 → addend (suc d) ≡ line (T (d / 32)) (T (d / 32 + 1)) (suc (d % 32))
    inner p =
        let q : suc d / 32 ≡ d / 32 = omega arith in
        let r : suc d % 32 ≡ suc (d % 32) = omega arith in
        on_line (suc d) (omega arith) ∙ simp (q, r)

    over : d % 32 ≡ 31 → suc d < 53248 → addend (suc d) ≡ T (d / 32 + 1)
    over p l = let e : suc d ≡ 32 * (d / 32 + 1) = omega arith in ap addend e ∙ at_knot (d / 32 + 1) (omega arith)

    end : d % 32 ≡ 31 → 53248 ≤ suc d → addend (suc d) ≡ T (d / 32 + 1)
    end p l = let q : d / 32 + 1 ≡ 1664 = omega arith in past (suc d) l ∙ sym (ap T q ∙ last)

    edge : 31 ≤ d % 32 → addend (suc d) ≡ line (T (d / 32)) (T (d / 32 + 1)) (suc (d % 32))
    edge p =
        let e : d % 32 ≡ 31 = omega arith in
        cases (suc d) 53248 (over e) (end e)
        ∙ sym (ap (λ (r : ℕ). line (T (d / 32)) (T (d / 32 + 1)) (suc r)) e ∙ line_end (T (d / 32)) (T (d / 32 + 1)) (slope_of d h))

pub record Falls (d : ℕ) : Type 0 where
  pub down : addend (suc d) ≤ addend d
  pub by_one : addend d ≤ suc (addend (suc d))

pub each : (d : ℕ) → Falls d
each d = cases d 53248 inside outside
  where
    inside : d < 53248 → Falls d
    inside h =
        let l = line_falls (T (d / 32)) (T (d / 32 + 1)) (slope_of d h) (d % 32) (omega arith) in
        let a = on_line d h in
        let b = next d h in record { down = omega arith; by_one = omega arith }

    outside : 53248 ≤ d → Falls d
    outside h =
        let a = past d h in let b = past (suc d) (omega arith) in record { down = omega arith; by_one = omega arith }

-- over any distance A falls, by at most the distance
pub falls : (d e : ℕ) → d ≤ e → (addend e ≤ addend d) × (addend d + d ≤ addend e + e)
falls d e h =
    le_ind (λ (m : ℕ). (addend m ≤ addend d) × (addend d + d ≤ addend m + m)) (omega arith)
    (λ m l p. let s = each m in omega arith) e h

pub at_zero : addend 0 ≡ 4096
unfolding addend T knots
at_zero = refl

pub at_most : (d : ℕ) → addend d ≤ 4096
at_most d = let f = falls 0 d (omega arith) in let z = at_zero in omega arith

-- T[1604] to T[1664] are 0
at_flat : addend 51328 ≡ 0
unfolding addend T knots
at_flat = refl

pub far : (d : ℕ) → 51328 ≤ d → addend d ≡ 0
far d h = let f = falls 51328 d h in let z = at_flat in omega arith

pub flat : T 1604 ≡ 0
unfolding T knots
flat = refl

-- so the line of the knot 1604 holds from there on
pub on_near : (d k : ℕ) → k ≡ min (d / 32) 1604 → addend d ≡ line (T k) (T (k + 1)) (d % 32)
unfolding line
on_near d k e =
    cases (d / 32) 1604
    (λ h. let i : k ≡ d / 32 = omega arith in rw i (on_line d (omega arith)))
    (λ h. let i : k ≡ 1604 = omega arith in rw i (far d (omega arith) ∙ omega (arith, flat)))
