-- A token read a byte at a time reads as its integer, at every type: the value where the integer fits, else unreadable.
-- By induction on the bytes: the state holds the number so far, or is spoilt, and then no type holds the token. Assumes nothing.
use Rattle.std.proofs.Common.{◌≡◌, ℕ, zero, suc, ◌+◌, ◌-◌, ◌*◌, ◌^◌, ◌<◌, ◌≤◌, Bool, true, false, cond, not, ◌&&◌, ◌||◌, eqb, ltb, List, [], ◌∷◌, length, Option, Some, None, sym, refl, ap, subst, add_assoc, mul_assoc, add-mul, le-mul_of_pos_right, arith, ltb-false, ltb-true, le-ltb, lt-ltb, eqb-true}
use mathlib.Core.Bool.{and-false, and-true, or-true}
use native.Mathlib.Nat.{pow-succ', one-le-pow}
use lib.Dec.{leb-suc-suc, eqb-suc-zero}
use lib.Ieee.{binary64, of_bits}
use borrow.Author.Tests.{lt-leb}
use Rattle.protocol.specs.Text.{is_digit, all_digits, is_numeral, value_of, Reading, none, integer, int_of}
use Rattle.protocol.specs.Inner.State.{start, has_digits, size, grown, signed, pushed, pushed_on, pushed_all, is_natural, natural, natural_of, with_sign, signed_sizes, integral, integral_of, i32_in, i32_of, i64_in, i64_of, bool_in, bool_of, u8_in, u8_of, u32_in, u32_of, u64_in, u64_of, f64_in, f64_of, length_in, length_of}
use Rattle.protocol.specs.Inner.Reads.{read_by, Reads}
use Rattle.protocol.specs.declared.number.Number.{Number}

-- A reading that no type holds: none, or a size of 2^64 or more.
data Unfit : Reading → Type 0 where
  nothing : Unfit none
  huge : (n : Bool) (m : ℕ) → 2 ^ 64 ≤ m → Unfit (integer (with_sign n m))

-- What a state shows of a token: nothing that fits a type, or its integer.
data Shows : Option Number → Reading → Type 0 where
  lost : {r : Reading} → Unfit r → Shows None r
  bare : {s : Number} {r : Reading} → has_digits s ≡ false → Unfit r → Shows (Some s) r
  holds : {s : Number} → has_digits s ≡ true → Shows (Some s) (integer (with_sign s.negative (size s)))

-- The digits ds after a number v.
with_digits : Bool → ℕ → List ℕ → Reading
with_digits n v ds = cond (all_digits ds) (integer (with_sign n (v * 10 ^ length ds + value_of ds))) none

value_step : (v d l x : ℕ) → (v * 10 + d) * 10 ^ l + x ≡ v * 10 ^ suc l + (d * 10 ^ l + x)
value_step v d l x = simp (add-mul, pow-succ', mul_assoc, add_assoc)

module _ (n : Bool) (v : ℕ) (b : ℕ) (bs : List ℕ) where
  digits_digit : is_digit b ≡ true → with_digits n (v * 10 + (b - 48)) bs ≡ with_digits n v (b ∷ bs)
  unfolding with_digits all_digits value_of
  digits_digit h = simp (h, value_step v (b - 48) (length bs) (value_of bs))

  digits_other : is_digit b ≡ false → none ≡ with_digits n v (b ∷ bs)
  unfolding with_digits all_digits
  digits_other h = simp h

digits_none : (n : Bool) (v : ℕ) → integer (with_sign n v) ≡ with_digits n v []
unfolding with_digits all_digits value_of
digits_none n v = ap (λ (m : ℕ). integer (with_sign n m)) (omega arith)

huge_or : (n : Bool) (m : ℕ) (a : Bool) → 2 ^ 64 ≤ m → Unfit (cond a (integer (with_sign n m)) none)
huge_or n m true h = huge n m h
huge_or n m false h = nothing

digits_huge : (n : Bool) (v : ℕ) (ds : List ℕ) → 2 ^ 64 ≤ v → Unfit (with_digits n v ds)
unfolding with_digits
digits_huge n v ds h =
    huge_or n (v * 10 ^ length ds + value_of ds) (all_digits ds) (omega (arith, le-mul_of_pos_right v (one-le-pow (length ds) 10 (omega arith))))

stays : (ds : List ℕ) → pushed_all None ds ≡ None
unfolding pushed_all pushed_on
stays [] = refl
stays (d ∷ ds) = stays ds

-- What is no number any more shows every reading that no type holds.
lost_shows : (ds : List ℕ) {r : Reading} → Unfit r → Shows (pushed_all None ds) r
lost_shows ds {r} u = subst (λ (t : Option Number). Shows t r) (sym (stays ds)) (lost u)

-- The state after a digit is the number so far, or none where that is 2^64 or more.
after_digit : (s : Number) (b : ℕ) → is_digit b ≡ true → pushed_on (Some s) b ≡ grown s (size s * 10 + (b - 48))
unfolding pushed pushed_on
after_digit s b h = simp h

after_other : (s : Number) (b : ℕ) → is_digit b ≡ false → pushed_on (Some s) b ≡ signed s b
unfolding pushed pushed_on
after_other s b h = simp h

-- A `-` after a sign or a digit is no number.
sign_late : (s : Number) (b : ℕ) → (s.negative || has_digits s) ≡ true → signed s b ≡ None
unfolding signed
sign_late s b h = simp (h, and-false)

abbrev pub grown_to : Number → ℕ → Number
grown_to s v = record { negative = s.negative; value = Some v }

module _ (s : Number) (v : ℕ) where
  pub grown_value : v < 2 ^ 64 → Some (grown_to s v) ≡ grown s v
  unfolding grown
  grown_value h = simp (lt-ltb v (2 ^ 64) h)

  pub grown_large : 2 ^ 64 ≤ v → None ≡ grown s v
  unfolding grown
  grown_large h = simp (le-ltb v (2 ^ 64) h)

-- A digit in front of bytes of which the claim holds in every state with a digit.
module _ (b : ℕ) (bs : List ℕ) (ih : (s : Number) → has_digits s ≡ true → Shows (pushed_all (Some s) bs) (with_digits s.negative (size s) bs)) where
  grown_shows : (s : Number) (v : ℕ) (small : Bool) → ltb v (2 ^ 64) ≡ small → Shows (pushed_all (grown s v) bs) (with_digits s.negative v bs)
  unfolding grown_to
  grown_shows s v true e =
      subst (λ (t : Option Number). Shows (pushed_all t bs) (with_digits s.negative v bs)) (grown_value s v (ltb-true v (2 ^ 64) e)) (ih (grown_to s v) refl)
  grown_shows s v false e =
      let large : 2 ^ 64 ≤ v = ltb-false v (2 ^ 64) e in
      subst (λ (t : Option Number). Shows (pushed_all t bs) (with_digits s.negative v bs)) (grown_large s v large)
      (lost_shows bs (digits_huge s.negative v bs large))

  digit_shows : (s : Number) → is_digit b ≡ true → Shows (pushed_all (pushed_on (Some s) b) bs) (with_digits s.negative (size s) (b ∷ bs))
  digit_shows s h =
      rw (after_digit s b h, ← digits_digit s.negative (size s) b bs h)
      (grown_shows s (size s * 10 + (b - 48)) (ltb (size s * 10 + (b - 48)) (2 ^ 64)) refl)

other_shows : (s : Number) (b : ℕ) (bs : List ℕ) → (s.negative || has_digits s) ≡ true → is_digit b ≡ false → Shows (pushed_all (pushed_on (Some s) b) bs) none
other_shows s b bs hn h = rw (after_other s b h, sign_late s b hn) (lost_shows bs nothing)

either_shows : (b : ℕ) (bs : List ℕ) (ih : (s : Number) → has_digits s ≡ true → Shows (pushed_all (Some s) bs) (with_digits s.negative (size s) bs)) (s : Number) (d : Bool) → is_digit b ≡ d → has_digits s ≡ true → Shows (pushed_all (pushed_on (Some s) b) bs) (with_digits s.negative (size s) (b ∷ bs))
either_shows b bs ih s true h hd = digit_shows b bs ih s h
either_shows b bs ih s false h hd =
    rw (← digits_other s.negative (size s) b bs h) (other_shows s b bs (simp (hd, or-true)) h)

digits_show : (ds : List ℕ) (s : Number) → has_digits s ≡ true → Shows (pushed_all (Some s) ds) (with_digits s.negative (size s) ds)
unfolding pushed_all
digits_show [] s hd = rw (← digits_none s.negative (size s)) (holds hd)
digits_show (b ∷ bs) s hd = either_shows b bs (digits_show bs) s (is_digit b) refl hd

-- A numeral, from a state with no digit yet.
numeral : Bool → List ℕ → Reading
numeral n ds = cond (is_numeral ds) (integer (with_sign n (value_of ds))) none

numeral_digits : (n : Bool) (b : ℕ) (bs : List ℕ) → with_digits n 0 (b ∷ bs) ≡ numeral n (b ∷ bs)
unfolding with_digits numeral is_numeral
numeral_digits n b bs =
    ap (λ (m : ℕ). cond (all_digits (b ∷ bs)) (integer (with_sign n m)) none) (omega arith)

numeral_other : (n : Bool) (b : ℕ) (bs : List ℕ) → is_digit b ≡ false → none ≡ numeral n (b ∷ bs)
unfolding numeral is_numeral all_digits
numeral_other n b bs h = simp h

numeral_digit : (s : Number) (b : ℕ) (bs : List ℕ) → size s ≡ 0 → is_digit b ≡ true → Shows (pushed_all (pushed_on (Some s) b) bs) (numeral s.negative (b ∷ bs))
numeral_digit s b bs hv h =
    rw (← numeral_digits s.negative b bs, ← hv) (digit_shows b bs (digits_show bs) s h)

after_sign : (s : Number) (b : ℕ) (bs : List ℕ) (d : Bool) → is_digit b ≡ d → size s ≡ 0 → s.negative ≡ true → Shows (pushed_all (pushed_on (Some s) b) bs) (numeral s.negative (b ∷ bs))
after_sign s b bs true h hv hn = numeral_digit s b bs hv h
after_sign s b bs false h hv hn =
    rw (← numeral_other s.negative b bs h) (other_shows s b bs (simp hn) h)

signed_shows : (ds : List ℕ) (s : Number) → has_digits s ≡ false → size s ≡ 0 → s.negative ≡ true → Shows (pushed_all (Some s) ds) (numeral s.negative ds)
unfolding pushed_all numeral is_numeral
signed_shows [] s hd hv hn = bare hd nothing
signed_shows (b ∷ bs) s hd hv hn = after_sign s b bs (is_digit b) refl hv hn

-- The first byte: a `-`, a digit, or neither.
minus : Number
minus = record { negative = true; value = None }

pushed_minus : (b : ℕ) → eqb b 45 ≡ true → pushed_on (Some start) b ≡ Some minus
unfolding pushed pushed_on signed minus is_digit
pushed_minus b h = rw (eqb-true b 45 h) refl

pushed_neither : (b : ℕ) → eqb b 45 ≡ false → is_digit b ≡ false → pushed_on (Some start) b ≡ None
unfolding pushed pushed_on signed
pushed_neither b h d = simp (d, h)

int_minus : (b : ℕ) (bs : List ℕ) → eqb b 45 ≡ true → int_of (b ∷ bs) ≡ numeral true bs
unfolding int_of numeral with_sign
int_minus b bs h = simp h

int_plain : (b : ℕ) (bs : List ℕ) → eqb b 45 ≡ false → int_of (b ∷ bs) ≡ numeral false (b ∷ bs)
unfolding int_of numeral with_sign
int_plain b bs h = simp h

first_shows : (b : ℕ) (bs : List ℕ) (m d : Bool) → eqb b 45 ≡ m → is_digit b ≡ d → Shows (pushed_all (pushed_on (Some start) b) bs) (int_of (b ∷ bs))
unfolding minus
first_shows b bs true d hm hd = rw (int_minus b bs hm, pushed_minus b hm) (signed_shows bs minus refl refl refl)
first_shows b bs false true hm hd = rw (int_plain b bs hm) (numeral_digit start b bs refl hd)
first_shows b bs false false hm hd =
    rw (int_plain b bs hm, ← numeral_other false b bs hd, pushed_neither b hm hd) (lost_shows bs nothing)

token_shows : (t : List ℕ) → Shows (pushed_all (Some start) t) (int_of t)
unfolding pushed_all int_of
token_shows [] = bare refl nothing
token_shows (b ∷ bs) = first_shows b bs (eqb b 45) (is_digit b) refl refl

-- What a state shows, at an unsigned type.
module _ {A : Type 0} (limit : ℕ) (value : ℕ → A) where
  by_sign : (n : Bool) (v : ℕ) → cond ((not n || eqb v 0) && ltb v limit) (Some (value v)) None ≡ natural_of limit value (integer (with_sign n v))
  unfolding natural_of with_sign
  by_sign false v = refl
  by_sign true zero = refl
  by_sign true (suc v) = simp (eqb-suc-zero v)

  unfit_natural : {r : Reading} → Unfit r → limit ≤ 2 ^ 64 → None ≡ natural_of limit value r
  unfolding natural_of with_sign
  unfit_natural nothing h = refl
  unfit_natural (huge false m l) h = simp (le-ltb m limit (omega arith))
  unfit_natural (huge true zero l) h = absurd (omega arith)
  unfit_natural (huge true (suc m) l) h = refl

  shows_natural : {s : Option Number} {r : Reading} → Shows s r → limit ≤ 2 ^ 64 → read_by (natural limit value) s ≡ natural_of limit value r
  unfolding natural is_natural read_by
  shows_natural (lost u) h = unfit_natural u h
  shows_natural (bare e u) h = simp e (unfit_natural u h)
  shows_natural (holds {s} e) h = simp e (by_sign s.negative (size s))

-- What a state shows, at a signed type whose largest number is q.
module _ (q : ℕ) where
  signed_reading : (n : Bool) (v : ℕ) → cond (ltb v (signed_sizes (suc q) n)) (Some (with_sign n v)) None ≡ integral_of (suc q) (integer (with_sign n v))
  unfolding integral_of signed_sizes with_sign
  signed_reading false v = refl
  signed_reading true zero = simp (lt-ltb 0 (suc q + 1) (omega arith), lt-ltb 0 (suc q) (omega arith))
  signed_reading true (suc v) = let e : suc q + 1 ≡ suc (suc q) = omega arith in simp (e, leb-suc-suc (suc v) (suc q), leb-suc-suc v q, and-true)

  unfit_integral : {r : Reading} → Unfit r → q < 2 ^ 63 → None ≡ integral_of (suc q) r
  unfolding integral_of with_sign
  unfit_integral nothing top = refl
  unfit_integral (huge false m l) top = simp (le-ltb m (suc q) (omega arith))
  unfit_integral (huge true zero l) top = absurd (omega arith)
  unfit_integral (huge true (suc m) l) top = simp (lt-leb m q (omega arith))

  shows_integral : {s : Option Number} {r : Reading} → Shows s r → q < 2 ^ 63 → read_by (integral (suc q)) s ≡ integral_of (suc q) r
  unfolding integral read_by
  shows_integral (lost u) top = unfit_integral u top
  shows_integral (bare e u) top = simp e (unfit_integral u top)
  shows_integral (holds {s} e) top = simp e (signed_reading s.negative (size s))

-- The laws: the bytes t of a token, pushed one by one from the start, read as the integer that t stands for.

pub token_bool : (t : List ℕ) → Reads bool_in bool_of t
unfolding bool_in bool_of
token_bool t = shows_natural 2 (λ n. eqb n 1) (token_shows t) (omega arith)

pub token_u8 : (t : List ℕ) → Reads u8_in u8_of t
unfolding u8_in u8_of
token_u8 t = shows_natural (2 ^ 8) (λ n. n) (token_shows t) (omega arith)

pub token_u32 : (t : List ℕ) → Reads u32_in u32_of t
unfolding u32_in u32_of
token_u32 t = shows_natural (2 ^ 32) (λ n. n) (token_shows t) (omega arith)

pub token_u64 : (t : List ℕ) → Reads u64_in u64_of t
unfolding u64_in u64_of
token_u64 t = shows_natural (2 ^ 64) (λ n. n) (token_shows t) (omega arith)

pub token_f64 : (t : List ℕ) → Reads f64_in f64_of t
unfolding f64_in f64_of
token_f64 t = shows_natural (2 ^ 64) (of_bits binary64) (token_shows t) (omega arith)

pub token_length : (t : List ℕ) → Reads length_in length_of t
unfolding length_in length_of
token_length t = shows_natural (2 ^ 64) (λ n. n) (token_shows t) (omega arith)

pub token_i32 : (t : List ℕ) → Reads i32_in i32_of t
unfolding i32_in i32_of
token_i32 t = shows_integral 2147483647 (token_shows t) (omega arith)

pub token_i64 : (t : List ℕ) → Reads i64_in i64_of t
unfolding i64_in i64_of
token_i64 t = shows_integral 9223372036854775807 (token_shows t) (omega arith)
