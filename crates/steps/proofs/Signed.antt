-- Signed numbers, for all of the project. `omega` reads ℕ alone; here an integer is the difference of two naturals, `up z − dn z`, one of
-- them 0. `omega (zlin, parts_add a b, ..)` proves a linear =, ≤ or < of ℤ, given the parts of each sum that is named. Then sizes by
-- `nat_abs`, what fits a width, and what the machine reads back from a signed value's bits. Assumes nothing.
use Rattle.std.proofs.Common.{◌≡◌, ℕ, zero, suc, ◌+◌, ◌*◌, ◌^◌, ◌<◌, ◌≤◌, Bool, true, false, T, leb, ℤ, pos, negsuc, ◌+ℤ◌, ◌-ℤ◌, ◌*ℤ◌, neg_ℤ, nat_abs, ◌≤ℤ◌, ◌<ℤ◌, sym, refl, ap, ◌∙◌, subst, lt_of_le_of_lt, mul-zero, arith, le→leb, ltb→lt, lt→ltb, leb→le, to_z-of_z, SFits, to_z, of_z, ltb-false, le-ltb, lt-ltb, leb-false}
use native.Mathlib.Decide.{dec_lt}
use lib.IntN.{sub_ℕ}
use lib.Signed.{mag, le_z, lt_z}
use mir.Syntax.{Width}
use mir.Val.{hbits}
use mir.Facts.{sfits_widen}

-- ---- cases
-- two cases of an order
pub cases : {X : Type 0} (a b : ℕ) → (a < b → X) → (b ≤ a → X) → X
cases {X} a b f g = of (dec_lt a b)
  where
    of : Dec (a < b) → X
    of (yes p) = f p
    of (no p) = g (omega arith)

-- two cases of a test
pub by_test : {X : Type 0} (t : Bool) → (t ≡ true → X) → (t ≡ false → X) → X
by_test true f g = f refl
by_test false f g = g refl

pub true_false : {X : Type 0} {t : Bool} → t ≡ true → t ≡ false → X
true_false p q = absurd (subst T (sym p ∙ q) tt)

-- ---- the parts
pub up : ℤ → ℕ
up (pos n) = n
up (negsuc n) = 0

pub dn : ℤ → ℕ
dn (pos n) = 0
dn (negsuc n) = suc n

pub up_pos : (n : ℕ) → up (pos n) ≡ n
unfolding up
up_pos n = refl

pub dn_pos : (n : ℕ) → dn (pos n) ≡ 0
unfolding dn
dn_pos n = refl

pub up_negsuc : (n : ℕ) → up (negsuc n) ≡ 0
unfolding up
up_negsuc n = refl

pub dn_negsuc : (n : ℕ) → dn (negsuc n) ≡ suc n
unfolding dn
dn_negsuc n = refl

-- the size is both parts, and one of them is 0
pub nat_abs_parts : (z : ℤ) → nat_abs z ≡ up z + dn z
unfolding up dn
nat_abs_parts (pos n) = omega arith
nat_abs_parts (negsuc n) = omega arith

pub by_sign : {X : Type 0} (z : ℤ) → (dn z ≡ 0 → X) → (up z ≡ 0 → X) → X
unfolding up dn
by_sign (pos n) f g = f refl
by_sign (negsuc n) f g = g refl

-- ---- an order is one of parts, as a fact and as a test
pub ≤ℤ→ : (a b : ℤ) → a ≤ℤ b → up a + dn b ≤ up b + dn a
unfolding up dn
≤ℤ→ (pos a) (pos b) h = let k = leb→le a b h.le in omega arith
≤ℤ→ (pos a) (negsuc b) h = absurd h.le
≤ℤ→ (negsuc a) (pos b) h = omega arith
≤ℤ→ (negsuc a) (negsuc b) h = let k = leb→le b a h.le in omega arith

pub →≤ℤ : (a b : ℤ) → up a + dn b ≤ up b + dn a → a ≤ℤ b
unfolding up dn
→≤ℤ (pos a) (pos b) h = record { le = le→leb a b (omega arith) }
→≤ℤ (pos a) (negsuc b) h = absurd (omega arith)
→≤ℤ (negsuc a) (pos b) h = record { le = tt }
→≤ℤ (negsuc a) (negsuc b) h = record { le = le→leb b a (omega arith) }

pub <ℤ→ : (a b : ℤ) → a <ℤ b → up a + dn b < up b + dn a
unfolding up dn
<ℤ→ (pos a) (pos b) h = let k = ltb→lt a b h.lt in omega arith
<ℤ→ (pos a) (negsuc b) h = absurd h.lt
<ℤ→ (negsuc a) (pos b) h = omega arith
<ℤ→ (negsuc a) (negsuc b) h = let k = ltb→lt b a h.lt in omega arith

pub →<ℤ : (a b : ℤ) → up a + dn b < up b + dn a → a <ℤ b
unfolding up dn
→<ℤ (pos a) (pos b) h = record { lt = lt→ltb a b (omega arith) }
→<ℤ (pos a) (negsuc b) h = absurd (omega arith)
→<ℤ (negsuc a) (pos b) h = record { lt = tt }
→<ℤ (negsuc a) (negsuc b) h = record { lt = lt→ltb b a (omega arith) }

pub ≡ℤ→ : (a b : ℤ) → a ≡ b → up a + dn b ≡ up b + dn a
≡ℤ→ a b e = rw e

pub →≡ℤ : (a b : ℤ) → up a + dn b ≡ up b + dn a → a ≡ b
unfolding up dn
→≡ℤ (pos a) (pos b) h = ap pos (omega arith)
→≡ℤ (pos a) (negsuc b) h = absurd (omega arith)
→≡ℤ (negsuc a) (pos b) h = absurd (omega arith)
→≡ℤ (negsuc a) (negsuc b) h = ap negsuc (omega arith)

pub le_true : (a b : ℤ) → a ≤ℤ b → le_z a b ≡ true
le_true a b h = by_test (le_z a b) (λ t. t) (λ t. absurd (subst T t h.le))

pub true_le : (a b : ℤ) → le_z a b ≡ true → a ≤ℤ b
true_le a b t = record { le = subst T (sym t) tt }

pub lt_true : (a b : ℤ) → a <ℤ b → lt_z a b ≡ true
lt_true a b h = by_test (lt_z a b) (λ t. t) (λ t. absurd (subst T t h.lt))

pub true_lt : (a b : ℤ) → lt_z a b ≡ true → a <ℤ b
true_lt a b t = record { lt = subst T (sym t) tt }

pub false_le : (a b : ℤ) → le_z a b ≡ false → b <ℤ a
false_le (pos a) (pos b) t = record { lt = lt→ltb b a (leb-false a b t) }
false_le (pos a) (negsuc b) t = record { lt = tt }
false_le (negsuc a) (pos b) t = true_false refl t
false_le (negsuc a) (negsuc b) t = record { lt = lt→ltb a b (leb-false b a t) }

pub false_lt : (a b : ℤ) → lt_z a b ≡ false → b ≤ℤ a
false_lt (pos a) (pos b) t = record { le = le→leb b a (ltb-false a b t) }
false_lt (pos a) (negsuc b) t = record { le = tt }
false_lt (negsuc a) (pos b) t = true_false refl t
false_lt (negsuc a) (negsuc b) t = record { le = le→leb a b (ltb-false b a t) }

-- the four outcomes of a test, from parts and to parts
module _ (a b : ℤ) where
  pub leZ→ : le_z a b ≡ true → up a + dn b ≤ up b + dn a
  leZ→ t = ≤ℤ→ a b (true_le a b t)

  pub →le_z : up a + dn b ≤ up b + dn a → le_z a b ≡ true
  →le_z h = le_true a b (→≤ℤ a b h)

  pub le_z_no→ : le_z a b ≡ false → up b + dn a < up a + dn b
  le_z_no→ t = <ℤ→ b a (false_le a b t)

  pub →le_z_no : up b + dn a < up a + dn b → le_z a b ≡ false
  →le_z_no h = by_test (le_z a b) (λ t. let k = leZ→ t in absurd (omega arith)) (λ t. t)

  pub ltZ→ : lt_z a b ≡ true → up a + dn b < up b + dn a
  ltZ→ t = <ℤ→ a b (true_lt a b t)

  pub →lt_z : up a + dn b < up b + dn a → lt_z a b ≡ true
  →lt_z h = lt_true a b (→<ℤ a b h)

  pub lt_z_no→ : lt_z a b ≡ false → up b + dn a ≤ up a + dn b
  lt_z_no→ t = ≤ℤ→ b a (false_lt a b t)

  pub →lt_z_no : up b + dn a ≤ up a + dn b → lt_z a b ≡ false
  →lt_z_no h = by_test (lt_z a b) (λ t. let k = ltZ→ t in absurd (omega arith)) (λ t. t)

-- `omega (zlin, parts_add a b, ..)` reads and proves =, ≤ and < of ℤ, and the outcomes of le_z and lt_z
pub ruleset zlin = (arith, ≤ℤ→, →≤ℤ, <ℤ→, →<ℤ, ≡ℤ→, →≡ℤ, leZ→, →le_z, le_z_no→, →le_z_no, ltZ→, →lt_z, lt_z_no→, →lt_z_no)

-- two cases of an order of ℤ
pub cases_z : {X : Type 0} (a b : ℤ) → (a ≤ℤ b → X) → (b <ℤ a → X) → X
cases_z a b f g = by_test (le_z a b) (λ t. f (true_le a b t)) (λ t. g (false_le a b t))

-- ---- the parts of a sum, a negation, a difference, a product with a natural
parts_sub : (a b : ℕ) → up (sub_ℕ a b) + b ≡ dn (sub_ℕ a b) + a
unfolding up dn
parts_sub a b = cases a b (λ h. rw (lt-ltb a b h) (omega arith)) (λ h. rw (le-ltb a b h) (omega arith))

pub parts_add : (a b : ℤ) → up (a +ℤ b) + dn a + dn b ≡ dn (a +ℤ b) + up a + up b
unfolding up dn
parts_add (pos a) (pos b) = omega arith
parts_add (pos a) (negsuc b) = omega (arith, parts_sub a (suc b))
parts_add (negsuc a) (pos b) = omega (arith, parts_sub b (suc a))
parts_add (negsuc a) (negsuc b) = omega arith

pub neg_up : (a : ℤ) → up (neg_ℤ a) ≡ dn a
unfolding up dn
neg_up (pos zero) = refl
neg_up (pos (suc n)) = refl
neg_up (negsuc n) = refl

pub neg_dn : (a : ℤ) → dn (neg_ℤ a) ≡ up a
unfolding up dn
neg_dn (pos zero) = refl
neg_dn (pos (suc n)) = refl
neg_dn (negsuc n) = refl

pub parts_minus : (a b : ℤ) → up (a -ℤ b) + dn a + up b ≡ dn (a -ℤ b) + up a + dn b
parts_minus a b = omega (arith, parts_add a (neg_ℤ b), neg_up b, neg_dn b)

pub parts_times : (k : ℕ) (a : ℤ) → up (pos k *ℤ a) + k * dn a ≡ dn (pos k *ℤ a) + k * up a
unfolding up dn
parts_times k (pos n) = omega (arith, mul-zero k)
parts_times k (negsuc n) =
    let u = neg_up (pos (k * suc n)) in let d = neg_dn (pos (k * suc n)) in omega (arith, mul-zero k)

-- ---- sizes
pub neg_abs : (a : ℤ) → nat_abs (neg_ℤ a) ≡ nat_abs a
neg_abs (pos zero) = refl
neg_abs (pos (suc n)) = refl
neg_abs (negsuc n) = refl

pub add_abs : (a b : ℤ) → nat_abs (a +ℤ b) ≤ nat_abs a + nat_abs b
add_abs a b =
    let s = parts_add a b in
    let x = nat_abs_parts a in
    let y = nat_abs_parts b in
    let z = nat_abs_parts (a +ℤ b) in by_sign (a +ℤ b) (λ e. omega arith) (λ e. omega arith)

pub times_abs : (k : ℕ) (a : ℤ) → nat_abs (pos k *ℤ a) ≡ k * nat_abs a
times_abs k (pos n) = refl
times_abs k (negsuc n) = neg_abs (pos (k * suc n))

pub minus_abs : (a b : ℤ) → nat_abs (a -ℤ b) ≤ nat_abs a + nat_abs b
minus_abs a b = let h = add_abs a (neg_ℤ b) in let e = neg_abs b in omega arith

-- how far apart two numbers are, in order
pub apart : (a b : ℤ) → b ≤ℤ a → up b + dn a + nat_abs (a -ℤ b) ≡ up a + dn b
apart a b h =
    let s = parts_minus a b in
    let n = nat_abs_parts (a -ℤ b) in
    let o = ≤ℤ→ b a h in by_sign (a -ℤ b) (λ e. omega arith) (λ e. omega arith)

pub apart_swap : (a b : ℤ) → nat_abs (a -ℤ b) ≡ nat_abs (b -ℤ a)
apart_swap a b =
    let s = parts_minus a b in
    let t = parts_minus b a in
    let m = nat_abs_parts (a -ℤ b) in
    let n = nat_abs_parts (b -ℤ a) in
    by_sign (a -ℤ b) (λ e. by_sign (b -ℤ a) (λ f. omega arith) (λ f. omega arith))
    (λ e. by_sign (b -ℤ a) (λ f. omega arith) (λ f. omega arith))

-- a number at most 0 is its size, down from 0
pub down_from : (z : ℤ) → z ≤ℤ pos 0 → z ≡ neg_ℤ (pos (nat_abs z))
down_from (pos n) h = let l = leb→le n 0 h.le in let e : n ≡ 0 = omega arith in rw e
down_from (negsuc n) h = refl

-- ---- what fits a signed width, and what is read back
pub mag_abs : (z : ℤ) → mag z ≤ nat_abs z
mag_abs (pos n) = omega arith
mag_abs (negsuc n) = omega arith

pub sfits : (w : Width) (z : ℤ) → nat_abs z < 2 ^ hbits w → SFits w z
sfits w z h = record { sfits = lt_of_le_of_lt (mag_abs z) h }

-- a call's result has its range as `mag`
pub read_back : (w : Width) (z : ℤ) → mag z < 2 ^ hbits w → to_z w (of_z w z) ≡ z
read_back w z h = to_z-of_z (record { sfits = h })

pub read_small : (w : Width) (z : ℤ) → nat_abs z < 2 ^ hbits w → to_z w (of_z w z) ≡ z
read_small w z h = to_z-of_z (sfits w z h)

-- a narrow value that is read at a wider width
pub read_wide : (w v : Width) (z : ℤ) → T (leb (hbits w) (hbits v)) → SFits w z → to_z v (of_z v (to_z w (of_z w z))) ≡ z
read_wide w v z t f = rw (to_z-of_z f) (to_z-of_z (sfits_widen t f))

module _ (w : Width) {x y : ℤ} (fx : SFits w x) (fy : SFits w y) where
  -- two values with one pattern of bits are equal
  pub read_eq : of_z w x ≡ of_z w y → x ≡ y
  read_eq e = sym (to_z-of_z fx) ∙ ap (to_z w) e ∙ to_z-of_z fy

-- what a sum and a difference of two signed values hold, where neither wraps
module _ (w : Width) (a b : ℤ) (h : nat_abs a + nat_abs b < 2 ^ hbits w) where
  first_read : to_z w (of_z w a) ≡ a
  first_read = read_small w a (omega arith)

  second_read : to_z w (of_z w b) ≡ b
  second_read = read_small w b (omega arith)

  pub plus_fits : SFits w (to_z w (of_z w a) +ℤ to_z w (of_z w b))
  plus_fits = rw (first_read, second_read) (sfits w (a +ℤ b) (omega (arith, add_abs a b)))

  pub plus_read : to_z w (of_z w (to_z w (of_z w a) +ℤ to_z w (of_z w b))) ≡ a +ℤ b
  plus_read = rw (first_read, second_read) (read_small w (a +ℤ b) (omega (arith, add_abs a b)))

  pub minus_fits : SFits w (to_z w (of_z w a) -ℤ to_z w (of_z w b))
  minus_fits = rw (first_read, second_read) (sfits w (a -ℤ b) (omega (arith, minus_abs a b)))

  pub minus_read : to_z w (of_z w (to_z w (of_z w a) -ℤ to_z w (of_z w b))) ≡ a -ℤ b
  minus_read = rw (first_read, second_read) (read_small w (a -ℤ b) (omega (arith, minus_abs a b)))
