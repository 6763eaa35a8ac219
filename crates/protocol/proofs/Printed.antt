-- What is printed reads back: a number's text is a token that stands for the number. By induction on the fuel of the digits. Assumes nothing.
use Rattle.std.proofs.Common.{◌≡◌, ℕ, zero, suc, ◌+◌, ◌*◌, ◌/◌, ◌%◌, ◌^◌, ◌<◌, ◌≤◌, Bool, true, false, ◌&&◌, eqb, ltb, List, [], ◌∷◌, ◌++◌, length, ℤ, pos, negsuc, neg_ℤ, refl, ap, ◌∙◌, add_assoc, mul_assoc, mul_comm, add-mul, add-one, arith, length-append, ltb-true, ne_eqb, le-leb}
use mathlib.Core.Bool.{false≢true}
use native.Mathlib.Nat.{pow-succ'}
use Rattle.protocol.specs.Text.{is_digit, all_digits, is_numeral, value_of, integer, int_of}
use Rattle.protocol.specs.Inner.Print.{decimal_from, decimal_of, signed_of}
use Rattle.protocol.proofs.Digits.{both, digit_low}

digit : (d : ℕ) → d < 10 → is_digit (48 + d) ≡ true
unfolding is_digit
digit d h = simp (le-leb 48 (48 + d) (omega arith), le-leb (48 + d) 57 (omega arith))

-- A digit more at the end.
module _ (d : ℕ) (small : d < 10) where
  all_more : (xs : List ℕ) → all_digits (xs ++ ((48 + d) ∷ [])) ≡ all_digits xs
  unfolding all_digits
  all_more [] = simp (digit d small)
  all_more (x ∷ xs) = ap (λ (b : Bool). is_digit x && b) (all_more xs)

  numeral_more : (xs : List ℕ) → all_digits xs ≡ true → is_numeral (xs ++ ((48 + d) ∷ [])) ≡ true
  unfolding is_numeral all_digits
  numeral_more [] h = simp (digit d small)
  numeral_more (x ∷ xs) h = ap (λ (b : Bool). is_digit x && b) (all_more xs) ∙ h

  value_more : (xs : List ℕ) → value_of (xs ++ ((48 + d) ∷ [])) ≡ value_of xs * 10 + d
  unfolding value_of
  value_more [] = omega arith
  value_more (x ∷ xs) =
      let long : length (xs ++ ((48 + d) ∷ [])) ≡ suc (length xs) = length-append xs ((48 + d) ∷ []) ∙ add-one (length xs) in
      simp (long, value_more xs, pow-succ', add-mul, add_assoc, mul_assoc, mul_comm (10 ^ length xs) 10)

record Spells (n : ℕ) (t : List ℕ) : Type 0 where
  digits : all_digits t ≡ true
  numeral : is_numeral t ≡ true
  value : value_of t ≡ n

one_spells : (n : ℕ) → n < 10 → Spells n ((48 + n) ∷ [])
unfolding is_numeral all_digits value_of
one_spells n h = record { digits = simp (digit n h); numeral = simp (digit n h); value = omega arith }

more_spells : (n : ℕ) (t : List ℕ) → Spells (n / 10) t → Spells n (t ++ ((48 + n % 10) ∷ []))
more_spells n t s =
    record {
      digits = all_more (n % 10) (omega arith) t ∙ s.digits;
      numeral = numeral_more (n % 10) (omega arith) t s.digits;
      value = value_more (n % 10) (omega arith) t ∙ ap (λ (v : ℕ). v * 10 + n % 10) s.value ∙ omega arith;
    }

by_size : (fuel n : ℕ) (small : Bool) → ltb n 10 ≡ small → Spells (n / 10) (decimal_from fuel (n / 10)) → Spells n (decimal_from (suc fuel) n)
unfolding decimal_from
by_size fuel n true e s = simp e (one_spells n (ltb-true n 10 e))
by_size fuel n false e s = simp e (more_spells n (decimal_from fuel (n / 10)) s)

from_spells : (fuel n : ℕ) → n ≤ fuel → Spells n (decimal_from fuel n)
unfolding decimal_from
from_spells zero n h = one_spells n (omega arith)
from_spells (suc fuel) n h = by_size fuel n (ltb n 10) refl (from_spells fuel (n / 10) (omega arith))

decimal_spells : (n : ℕ) → Spells n (decimal_of n)
unfolding decimal_of
decimal_spells n = from_spells n n (omega arith)

numeral_first : (b : ℕ) (bs : List ℕ) → is_numeral (b ∷ bs) ≡ true → eqb b 45 ≡ false
unfolding is_numeral all_digits
numeral_first b bs h =
    let low : 48 ≤ b = digit_low b (both (is_digit b) (all_digits bs) h).0 in
    ne_eqb b 45 (λ e. omega arith)

plain : (t : List ℕ) → is_numeral t ≡ true → int_of t ≡ integer (pos (value_of t))
unfolding int_of is_numeral
plain [] h = absurd (false≢true h)
plain (b ∷ bs) h = simp (numeral_first b bs h, h)

minus : (t : List ℕ) → is_numeral t ≡ true → int_of (45 ∷ t) ≡ integer (neg_ℤ (pos (value_of t)))
unfolding int_of
minus t h = simp h

-- The law: a signed number's text reads as the number.
pub reads_back : (z : ℤ) → int_of (signed_of z) ≡ integer z
unfolding signed_of
reads_back (pos n) =
    plain (decimal_of n) (decimal_spells n).numeral ∙ ap (λ (v : ℕ). integer (pos v)) (decimal_spells n).value
reads_back (negsuc n) =
    minus (decimal_of (suc n)) (decimal_spells (suc n)).numeral ∙ ap (λ (v : ℕ). integer (neg_ℤ (pos v))) (decimal_spells (suc n)).value
