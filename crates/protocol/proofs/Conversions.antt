-- A state's integer at a wide type, converted to a narrower one, is the state's integer there. Assumes nothing.
use Rattle.std.proofs.Common.{◌≡◌, ℕ, zero, suc, ◌+◌, ◌^◌, ◌<◌, ◌≤◌, Bool, true, false, ◌&&◌, ◌||◌, not, cond, eqb, ltb, ℤ, Option, Some, None, is_some, Result, Ok, Err, SomeIff, OkIff, unwrap_or, sym, refl, ap, ◌∙◌, arith, le-ltb, lt-ltb, ltb-true, ltb-false}
use mathlib.Core.Bool.{false≢true, and-true}
use Rattle.std.specs.Bool.{then_some}
use Rattle.std.specs.Result.{result_ok}
use lib.Signed.{mag}
use Rattle.protocol.proofs.Digits.{both}
use Rattle.protocol.specs.Inner.State.{has_digits, size, natural, is_natural, integral, signed_sizes, with_sign}
use Rattle.protocol.specs.declared.number.Number.{Number}

-- `ok` of a conversion
pub ok_some : {T E : Type 0} (P : Type 0) (v : T) (r : Result T E) → OkIff r P v → SomeIff (result_ok r) P v
ok_some P v (Ok x) h = h
ok_some P v (Err e) h = h

-- A value just where a test holds.
some_iff : {A : Type 0} (P : Type 0) (v : A) (o : Option A) (b : Bool) → (P → b ≡ true) → (b ≡ true → P) → SomeIff o P v → o ≡ cond b (Some v) None
some_iff P v None true to from h = absurd (h (from refl))
some_iff P v None false to from h = refl
some_iff P v (Some x) true to from h = ap Some h.1
some_iff P v (Some x) false to from h = absurd (false≢true (to h.0))

-- What a test gave.
given : {A : Type 0} (b : Bool) {v x : A} → Some x ≡ cond b (Some v) None → (b ≡ true) × (x ≡ v)
given true {v} h = (refl, ap (λ o. unwrap_or o v) h)
given false h = absurd (false≢true (ap is_some (sym h)))

withheld : {A : Type 0} (b : Bool) (v : A) → None ≡ cond b (Some v) None → b ≡ false
withheld true v h = absurd (false≢true (ap is_some h))
withheld false v h = refl

either_false : (a b : Bool) → (a && b) ≡ false → (c : Bool) → (b ≡ false → c ≡ false) → (a && c) ≡ false
either_false false b h c f = refl
either_false true b h c f = f h

smaller : (v m k : ℕ) → k ≤ m → ltb v m ≡ false → ltb v k ≡ false
smaller v m k l h = le-ltb v k (omega (arith, ltb-false v m h))

chosen : {A : Type 0} (b : Bool) (v : A) → then_some b v ≡ cond b (Some v) None
chosen true v = refl
chosen false v = refl

-- A size of 64 bits, behind a sign only where it is 0.
pub natural_is : (s : Number) (v : ℕ) → s.value ≡ Some v → v < 2 ^ 64 → (o : Option ℕ) → o ≡ then_some (not s.negative || eqb v 0) v → o ≡ natural (2 ^ 64) (λ n. n) s
unfolding natural is_natural
natural_is s v some fits o is = rw some (simp (lt-ltb v (2 ^ 64) fits, and-true) (is ∙ chosen (not s.negative || eqb v 0) v))

-- The unsigned types: what is below limit, of what is below 2^64.
module _ {A : Type 0} (limit : ℕ) (value : ℕ → A) (s : Number) (low : limit ≤ 2 ^ 64) where
  pub narrow_none : None ≡ natural (2 ^ 64) (λ n. n) s → None ≡ natural limit value s
  unfolding natural
  narrow_none h =
      let none : (is_natural s && ltb (size s) (2 ^ 64)) ≡ false = withheld (is_natural s && ltb (size s) (2 ^ 64)) (size s) h in
      simp (either_false (is_natural s) (ltb (size s) (2 ^ 64)) none (ltb (size s) limit) (smaller (size s) (2 ^ 64) limit low))

  pub narrow_some : (n : ℕ) → Some n ≡ natural (2 ^ 64) (λ n. n) s → (o : Option A) → SomeIff o (n < limit) (value n) → o ≡ natural limit value s
  unfolding natural
  narrow_some n h o found =
      let some = given (is_natural s && ltb (size s) (2 ^ 64)) h in
      let whole : is_natural s ≡ true = (both (is_natural s) (ltb (size s) (2 ^ 64)) some.0).0 in
      rw (whole, ← some.1) (some_iff (n < limit) (value n) o (ltb n limit) (lt-ltb n limit) (ltb-true n limit) found)

-- An unsigned type of the numbers below limit, as the conversion from a u64 gives it.
module _ (limit : ℕ) (s : Number) (low : limit ≤ 2 ^ 64) {o : Option ℕ} where
  pub converted_none : None ≡ natural (2 ^ 64) (λ n. n) s → o ≡ None → o ≡ natural limit (λ n. n) s
  converted_none h is = is ∙ narrow_none limit (λ n. n) s low h

  pub converted : {E : Type 0} (n : ℕ) → Some n ≡ natural (2 ^ 64) (λ n. n) s → (r : Result ℕ E) → OkIff r (n < limit) n → o ≡ result_ok r → o ≡ natural limit (λ n. n) s
  converted n h r found is = is ∙ narrow_some limit (λ n. n) s low n h _ (ok_some _ _ _ found)

pub natural_fits : (s : Number) (n : ℕ) → Some n ≡ natural (2 ^ 64) (λ n. n) s → n < 2 ^ 64
unfolding natural
natural_fits s n h =
    let some = given (is_natural s && ltb (size s) (2 ^ 64)) h in
    rw (some.1) (ltb-true (size s) (2 ^ 64) (both (is_natural s) (ltb (size s) (2 ^ 64)) some.0).1)

-- The signed types, whose largest number is q: a size fits by its sign.
module _ (q : ℕ) where
  sizes_fit : (n : Bool) (v : ℕ) → ltb v (signed_sizes (suc q) n) ≡ true → mag (with_sign n v) < suc q
  unfolding signed_sizes with_sign
  sizes_fit false v h = ltb-true v (suc q) h
  sizes_fit true zero h = omega arith
  sizes_fit true (suc v) h = omega (arith, ltb-true (suc v) (suc q + 1) h)

  fits_sizes : (n : Bool) (v : ℕ) → mag (with_sign n v) < suc q → ltb v (signed_sizes (suc q) n) ≡ true
  unfolding signed_sizes with_sign
  fits_sizes false v h = lt-ltb v (suc q) h
  fits_sizes true zero h = lt-ltb 0 (suc q + 1) (omega arith)
  fits_sizes true (suc v) h = lt-ltb (suc v) (suc q + 1) (omega (arith, h))

  pub integral_bare : (s : Number) → has_digits s ≡ false → None ≡ integral (suc q) s
  unfolding integral
  integral_bare s e = simp e

  pub integral_is : (s : Number) → has_digits s ≡ true → (z : ℤ) → z ≡ with_sign s.negative (size s) → (P : Type 0) → (P → mag z < suc q) → (mag z < suc q → P) → (o : Option ℤ) → SomeIff o P z → o ≡ integral (suc q) s
  unfolding integral
  integral_is s e z is P to from o found =
      rw (e, ← is)
      (some_iff P z o (ltb (size s) (signed_sizes (suc q) s.negative)) (λ p. fits_sizes s.negative (size s) (rw is at (to p)))
      (λ b. from (rw (is) (sizes_fit s.negative (size s) b))) found)

  pub integral_fits : (s : Number) (z : ℤ) → Some z ≡ integral (suc q) s → mag z < suc q
  unfolding integral
  integral_fits s z h =
      let some = given (has_digits s && ltb (size s) (signed_sizes (suc q) s.negative)) h in
      rw (some.1) (sizes_fit s.negative (size s) (both (has_digits s) (ltb (size s) (signed_sizes (suc q) s.negative)) some.0).1)

-- Of the numbers up to p, what is one up to q.
module _ (p q : ℕ) (low : q ≤ p) (s : Number) where
  lower : (n : Bool) → signed_sizes (suc q) n ≤ signed_sizes (suc p) n
  unfolding signed_sizes
  lower true = omega arith
  lower false = omega arith

  pub shorten_none : None ≡ integral (suc p) s → None ≡ integral (suc q) s
  unfolding integral
  shorten_none h =
      let none : (has_digits s && ltb (size s) (signed_sizes (suc p) s.negative)) ≡ false = withheld (has_digits s && ltb (size s) (signed_sizes (suc p) s.negative)) (with_sign s.negative (size s)) h in
      simp (either_false (has_digits s) (ltb (size s) (signed_sizes (suc p) s.negative)) none (ltb (size s) (signed_sizes (suc q) s.negative)) (smaller (size s) _ _ (lower s.negative)))

  pub shorten_some : (z : ℤ) → Some z ≡ integral (suc p) s → (P : Type 0) → (P → mag z < suc q) → (mag z < suc q → P) → (o : Option ℤ) → SomeIff o P z → o ≡ integral (suc q) s
  unfolding integral
  shorten_some z h P to from o found =
      let some = given (has_digits s && ltb (size s) (signed_sizes (suc p) s.negative)) h in
      let whole : has_digits s ≡ true = (both (has_digits s) (ltb (size s) (signed_sizes (suc p) s.negative)) some.0).0 in
      integral_is q s whole z some.1 P to from o found
