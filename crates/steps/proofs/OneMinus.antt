-- `ln_one_minus_exp` meets its statement, which one value alone meets. ln_add_exp rises in each argument, so what is lower than a number low
-- enough is low enough, 57,344 steps down are enough for all, and halving finds the first. Assumes nothing.
use Rattle.std.proofs.Common.{◌≡◌, ℕ, zero, suc, ◌+◌, ◌-◌, ◌^◌, ◌<◌, ◌≤◌, Bool, true, false, ℤ, pos, negsuc, neg_ℤ, nat_abs, ◌≤ℤ◌, sym, refl, ap, ◌∙◌, subst, le_antisymm, pow-suc, arith, pow_pos, ltb-true}
use lib.Signed.{lt_z}
use Rattle.steps.specs.Logs.{Log, mark, steps, add_exp, difference}
use Rattle.steps.specs.OneMinus.{GreatestZ, OneMinusExp, low, first, ln_one_minus_exp}
use Rattle.steps.proofs.Addends.{past}
use Rattle.steps.proofs.AddExp.{add_below, mono_second, first_parts, diff_parts}
use Rattle.steps.proofs.Signed.{cases, by_test, true_false, zlin, up_pos, dn_pos, up_negsuc, dn_negsuc, neg_up, neg_dn, down_from, true_le, le_true}

-- ---- the test in steps down from 0
-- further down is less
pub down_le : (b c : ℕ) → b ≤ c → neg_ℤ (pos c) ≤ℤ neg_ℤ (pos b)
down_le b c h =
    omega (zlin, neg_up (pos b), neg_dn (pos b), neg_up (pos c), neg_dn (pos c), up_pos b, dn_pos b, up_pos c, dn_pos c)

pub lower : (p : ℤ) (b c : ℕ) → b ≤ c → low p b ≡ true → low p c ≡ true
unfolding low
lower p b c h t =
    let m = mono_second p (neg_ℤ (pos c)) (neg_ℤ (pos b)) (down_le b c h) in
    let l = true_le (add_exp p (neg_ℤ (pos b))) (pos 0) t in
    le_true (add_exp p (neg_ℤ (pos c))) (pos 0) (omega zlin)

pub higher : (p : ℤ) (b c : ℕ) → b ≤ c → low p c ≡ false → low p b ≡ false
higher p b c h t = by_test (low p b) (λ u. true_false (lower p b c h u) t) (λ u. u)

-- 57,344 = 53,248 + 4,096 steps down are low enough for all
lowest_near : (n : ℕ) → n < 4096 → add_exp (negsuc n) (negsuc 57343) ≤ℤ pos 0
lowest_near n h =
    let a = up_negsuc n in
    let b = dn_negsuc n in
    let c = up_negsuc 57343 in
    let d = dn_negsuc 57343 in
    let z = dn_pos 0 in
    let o : negsuc 57343 ≤ℤ negsuc n = omega zlin in
    let e = diff_parts (negsuc n) (negsuc 57343) o in
    let f = past (difference (negsuc n) (negsuc 57343)) (omega arith) in
    let s = first_parts (negsuc n) (negsuc 57343) o in omega zlin

lowest_deep : (n : ℕ) → 4096 ≤ n → add_exp (negsuc n) (negsuc 57343) ≤ℤ pos 0
lowest_deep n h =
    let a = up_negsuc n in
    let b = dn_negsuc n in
    let c = up_negsuc 4095 in
    let d = dn_negsuc 4095 in
    let e = up_negsuc 57343 in
    let f = dn_negsuc 57343 in
    add_below (negsuc n) (negsuc 57343) (negsuc 4095) (omega zlin) (omega zlin)

lowest : (n : ℕ) → low (negsuc n) 57344 ≡ true
unfolding low
lowest n = le_true (add_exp (negsuc n) (negsuc 57343)) (pos 0) (cases n 4096 (lowest_near n) (lowest_deep n))

not_below : (n : ℕ) → lt_z (pos n) (pos 0) ≡ true → ⊥
not_below n t = let l : n < 0 = ltb-true n 0 t in omega arith

pub lowest_of : (p : ℤ) → lt_z p (pos 0) ≡ true → low p 57344 ≡ true
lowest_of (pos n) t = absurd (not_below n t)
lowest_of (negsuc n) t = lowest n

-- ---- the first number at which a test passes
pub record Least (f : ℕ → Bool) (r : ℕ) : Type 0 where
  pub holds : f r ≡ true
  pub none : (k : ℕ) → k < r → f k ≡ false

least_le : (f : ℕ → Bool) (r s : ℕ) → Least f r → Least f s → r ≤ s
least_le f r s x y = cases s r (λ h. true_false y.holds (x.none s h)) (λ h. h)

pub least_one : (f : ℕ → Bool) (r s : ℕ) → Least f r → Least f s → r ≡ s
least_one f r s x y = le_antisymm (least_le f r s x y) (least_le f s r y x)

-- where it passes at the last of the 2^n numbers from b on, and from one at which it passes on
module _ (f : ℕ → Bool) (rises : (b c : ℕ) → b ≤ c → f b ≡ true → f c ≡ true) where
  pub record From (b r : ℕ) : Type 0 where
    pub holds : f r ≡ true
    pub none : (k : ℕ) → b ≤ k → k < r → f k ≡ false

  before : (b c : ℕ) → b ≤ c → f c ≡ false → f b ≡ false
  before b c h t = by_test (f b) (λ u. true_false (rises b c h u) t) (λ u. u)

  first_from : (n b : ℕ) → f (b + 2 ^ n - 1) ≡ true → From b (first f n b)
  unfolding first
  first_from zero b t =
      let e : b + 2 ^ 0 - 1 ≡ b = omega arith in
      record { holds = sym (ap f e) ∙ t; none = λ k h l. absurd (omega arith) }
  first_from (suc n) b t =
      let p = pow_pos n in
      let q = pow-suc 2 n in
      let e : b + 2 ^ suc n - 1 ≡ b + 2 ^ n + 2 ^ n - 1 = omega arith in
      by_test (f (b + 2 ^ n - 1))
      (λ u. rw u (first_from n b u))
      (λ u.
      let w = first_from n (b + 2 ^ n) (sym (ap f e) ∙ t) in
      rw u
      (record {
        holds = w.holds;
        none = λ k h l. cases k (b + 2 ^ n) (λ m. before k (b + 2 ^ n - 1) (omega arith) u) (λ m. w.none k m l);
      }))

  pub first_least : f 65535 ≡ true → Least f (first f 16 0)
  first_least t =
      let w = first_from 16 0 t in record { holds = w.holds; none = λ k h. w.none k (omega arith) h }

pub search_least : (n : ℕ) → Least (low (negsuc n)) (first (low (negsuc n)) 16 0)
search_least n =
    first_least (low (negsuc n)) (lower (negsuc n)) (lower (negsuc n) 57344 65535 (omega arith) (lowest n))

-- ---- the statement
-- for p < 0: where r is the first, −r is the greatest
greatest : (n r : ℕ) → Least (low (negsuc n)) r → GreatestZ (λ (q : ℤ). (q ≤ℤ pos 0) × (add_exp (negsuc n) q ≤ℤ pos 0)) (neg_ℤ (pos r))
unfolding low
greatest n r w =
    record {
      holds = (down_le 0 r (omega arith), true_le (add_exp (negsuc n) (neg_ℤ (pos r))) (pos 0) w.holds);
      most = λ q h.
          let e = down_from q h.0 in
          let t : low (negsuc n) (nat_abs q) ≡ true = le_true (add_exp (negsuc n) (neg_ℤ (pos (nat_abs q)))) (pos 0) (subst (λ (z : ℤ). add_exp (negsuc n) z ≤ℤ pos 0) e h.1) in
          let l : r ≤ nat_abs q = cases (nat_abs q) r (λ m. true_false t (w.none (nat_abs q) m)) (λ m. m) in
          subst (λ (z : ℤ). z ≤ℤ neg_ℤ (pos r)) (sym e) (down_le r (nat_abs q) l);
    }

pub meets : (p : ℤ) → p ≤ℤ pos 0 → OneMinusExp (steps p) (ln_one_minus_exp (steps p))
unfolding ln_one_minus_exp
meets (pos n) h = let k = up_pos n in let z = up_pos 0 in let d = dn_pos n in let y = dn_pos 0 in (omega zlin, refl)
meets (negsuc n) h = greatest n (first (low (negsuc n)) 16 0) (search_least n)

pub meets_mark : OneMinusExp mark (ln_one_minus_exp mark)
unfolding ln_one_minus_exp
meets_mark = refl

pub one_value : (p q r : Log) → OneMinusExp p q → OneMinusExp p r → q ≡ r
one_value mark q r x y = x ∙ sym y
one_value (steps (pos n)) q r x y = x.1 ∙ sym y.1
one_value (steps (negsuc n)) mark r x y = absurd x
one_value (steps (negsuc n)) (steps q) mark x y = absurd y
one_value (steps (negsuc n)) (steps q) (steps r) x y =
    let a = y.most q x.holds in let b = x.most r y.holds in ap steps (omega zlin)

-- ---- the values, for the code
pub of_zero : ln_one_minus_exp (steps (pos 0)) ≡ mark
unfolding ln_one_minus_exp
of_zero = refl

pub of_mark : ln_one_minus_exp mark ≡ steps (pos 0)
unfolding ln_one_minus_exp
of_mark = refl

pub of_below : (p : ℤ) (r : ℕ) → lt_z p (pos 0) ≡ true → Least (low p) r → ln_one_minus_exp (steps p) ≡ steps (neg_ℤ (pos r))
unfolding ln_one_minus_exp
of_below (pos n) r t w = absurd (not_below n t)
of_below (negsuc n) r t w =
    ap (λ (b : ℕ). steps (neg_ℤ (pos b))) (least_one (low (negsuc n)) (first (low (negsuc n)) 16 0) r (search_least n) w)
