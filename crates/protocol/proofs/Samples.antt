-- Tokens at the edges of the form, run on the definitions. Assumes nothing.
use Rattle.std.proofs.Common.{◌≡◌, [], ◌∷◌, pos, negsuc, refl}
use Rattle.protocol.specs.Text.{is_digit, all_digits, is_numeral, value_of, none, integer, int_of}
use Rattle.protocol.specs.Inner.Print.{decimal_from, decimal_of, signed_of}

-- `00012`
leading_zeros : int_of (48 ∷ 48 ∷ 48 ∷ 49 ∷ 50 ∷ []) ≡ integer (pos 12)
unfolding int_of is_numeral all_digits is_digit value_of
leading_zeros = refl

-- `-0`
minus_zero : int_of (45 ∷ 48 ∷ []) ≡ integer (pos 0)
unfolding int_of is_numeral all_digits is_digit value_of
minus_zero = refl

-- `-12`
below_zero : int_of (45 ∷ 49 ∷ 50 ∷ []) ≡ integer (negsuc 11)
unfolding int_of is_numeral all_digits is_digit value_of
below_zero = refl

-- `+1`
plus : int_of (43 ∷ 49 ∷ []) ≡ none
unfolding int_of is_numeral all_digits is_digit
plus = refl

-- `--1`
two_signs : int_of (45 ∷ 45 ∷ 49 ∷ []) ≡ none
unfolding int_of is_numeral all_digits is_digit
two_signs = refl

-- `-`
sign_alone : int_of (45 ∷ []) ≡ none
unfolding int_of is_numeral
sign_alone = refl

-- `1a`
letter : int_of (49 ∷ 97 ∷ []) ≡ none
unfolding int_of is_numeral all_digits is_digit
letter = refl

-- 0 is printed `0`, −120 `-120`
zero_text : decimal_of 0 ≡ 48 ∷ []
unfolding decimal_of decimal_from
zero_text = refl

below_text : signed_of (negsuc 119) ≡ 45 ∷ 49 ∷ 50 ∷ 48 ∷ []
unfolding signed_of decimal_of decimal_from
below_text = refl
