-- What std writes for a number is its decimal text.
-- By induction on the fuel: the last digit falls off on both sides. Assumes nothing.
use Rattle.std.proofs.Common.{◌≡◌, ℕ, zero, suc, ◌+◌, ◌*◌, ◌/◌, ◌%◌, ◌^◌, ◌<◌, ◌≤◌, Bool, true, false, ltb, List, [], ◌∷◌, ◌++◌, ℤ, pos, negsuc, sym, refl, ap, ◌∙◌, eqb, ne_eqb, append_assoc, append-nil, arith, ltb-false, ltb-true, le-ltb, lt-ltb}
use native.Mathlib.Nat.{pow-succ'}
use lib.Signed.{mag}
use Rattle.std.specs.Fmt.{digits_onto, digits, decimal, signed_decimal}
use Rattle.protocol.specs.Inner.Print.{decimal_from, decimal_of, signed_of}

-- The digits of n in front of a text: a number below 10 has one digit, and any other has the digits of its tenth before its last one.
one_digit : (k n : ℕ) (acc : List ℕ) → n < 10 → digits_onto (suc k) 10 false n acc ≡ (48 + n) ∷ acc
one_digit k n acc h =
    let none : n / 10 ≡ 0 = omega arith in
    let all : n % 10 ≡ n = omega arith in
    simp (none, all, lt-ltb n 10 h)

more_digits : (k n : ℕ) (acc : List ℕ) → 10 ≤ n → digits_onto (suc k) 10 false n acc ≡ digits_onto k 10 false (n / 10) ((48 + n % 10) ∷ acc)
more_digits k n acc h =
    let some : eqb (n / 10) 0 ≡ false = ne_eqb (n / 10) 0 (λ z. omega arith) in
    let low : ltb (n % 10) 10 ≡ true = lt-ltb (n % 10) 10 (omega arith) in
    simp (some, low)

-- One more of fuel: the one digit, or the last digit after the tenth's.
module _ (fuel n : ℕ) where
  from_small : n < 10 → decimal_from (suc fuel) n ≡ (48 + n) ∷ []
  unfolding decimal_from
  from_small h = simp (lt-ltb n 10 h)

  from_large : 10 ≤ n → decimal_from (suc fuel) n ≡ decimal_from fuel (n / 10) ++ ((48 + n % 10) ∷ [])
  unfolding decimal_from
  from_large h = simp (le-ltb n 10 h)

-- A number of two digits or more, once its tenth's digits are known.
tenth : (fuel k n : ℕ) (acc : List ℕ) → 10 ≤ n → n < 10 ^ suc k → ((i : ℕ) → n / 10 < 10 ^ suc i → digits_onto (suc i) 10 false (n / 10) ((48 + n % 10) ∷ acc) ≡ decimal_from fuel (n / 10) ++ ((48 + n % 10) ∷ acc)) → digits_onto (suc k) 10 false n acc ≡ decimal_from (suc fuel) n ++ acc
tenth fuel zero n acc large h ih = absurd (omega arith)
tenth fuel (suc i) n acc large h ih =
    let less : n < 10 * 10 ^ suc i = rw pow-succ' at h in
    more_digits (suc i) n acc large
    ∙ ih i (omega arith)
    ∙ sym (append_assoc (decimal_from fuel (n / 10)) ((48 + n % 10) ∷ []) acc)
    ∙ ap (λ (ds : List ℕ). ds ++ acc) (sym (from_large fuel n large))

digits_from : (fuel k n : ℕ) (acc : List ℕ) → n ≤ fuel → n < 10 ^ suc k → digits_onto (suc k) 10 false n acc ≡ decimal_from fuel n ++ acc
unfolding decimal_from
digits_from zero k n acc f h = one_digit k n acc (omega arith)
digits_from (suc fuel) k n acc f h =
    by_size (ltb n 10) refl (λ i l. digits_from fuel i (n / 10) ((48 + n % 10) ∷ acc) (omega arith) l)
  where
    by_size : (small : Bool) → ltb n 10 ≡ small → ((i : ℕ) → n / 10 < 10 ^ suc i → digits_onto (suc i) 10 false (n / 10) ((48 + n % 10) ∷ acc) ≡ decimal_from fuel (n / 10) ++ ((48 + n % 10) ∷ acc)) → digits_onto (suc k) 10 false n acc ≡ decimal_from (suc fuel) n ++ acc
    by_size true e ih =
        let small : n < 10 = ltb-true n 10 e in
        one_digit k n acc small ∙ ap (λ (ds : List ℕ). ds ++ acc) (sym (from_small fuel n small))
    by_size false e ih = tenth fuel k n acc (ltb-false n 10 e) h ih

-- What std writes for a u64 is its decimal text.
pub std_decimal : (n : ℕ) → n < 2 ^ 64 → decimal n ≡ decimal_of n
unfolding digits decimal_of
std_decimal n h = digits_from n 63 n [] (omega arith) (omega arith) ∙ append-nil (decimal_of n)

-- The same for an i64.
pub std_signed : (z : ℤ) → mag z < 2 ^ 63 → signed_decimal z ≡ signed_of z
unfolding signed_of
std_signed (pos n) h = std_decimal n (omega (arith, h))
std_signed (negsuc n) h = ap (λ (ds : List ℕ). 45 ∷ ds) (std_decimal (suc n) (omega (arith, h)))
