-- The request stream (docs/FORMAT.md, "Tokens"): which bytes part tokens, and which integer a token stands for. Assumes nothing.
use Rattle.std.specs.Prelude.{ℕ, ◌+◌, ◌-◌, ◌*◌, ◌^◌, Bool, true, false, cond, ◌&&◌, ◌||◌, List, [], ◌∷◌, length, ℤ, pos, neg_ℤ, ◌==◌, nat_le}

-- white space: space, tab, line feed, carriage return
unfoldable pub is_space : ℕ → Bool
is_space b = b == 32 || b == 9 || b == 10 || b == 13

-- `#` at the start of a token opens a comment up to the end of the line
abbrev pub opens_comment : ℕ → Bool
opens_comment b = b == 35

-- `0` to `9`
unfoldable pub is_digit : ℕ → Bool
is_digit b = nat_le 48 b && nat_le b 57

unfoldable pub all_digits : List ℕ → Bool
all_digits [] = true
all_digits (b ∷ bs) = is_digit b && all_digits bs

-- one or more digits
unfoldable pub is_numeral : List ℕ → Bool
is_numeral [] = false
is_numeral (b ∷ bs) = all_digits (b ∷ bs)

-- the number that digits stand for, the most significant first
unfoldable pub value_of : List ℕ → ℕ
value_of [] = 0
value_of (b ∷ bs) = (b - 48) * 10 ^ length bs + value_of bs

-- what a token reads as: an integer, or nothing
pub data Reading : Type 0 where
  none : Reading
  integer : ℤ → Reading

-- an integer is decimal: digits, with `-` (45) in front of a negative one; leading zeros and `-0` are allowed, `+` is not
unfoldable pub int_of : List ℕ → Reading
int_of [] = none
int_of (b ∷ bs) =
    cond (b == 45)
    (cond (is_numeral bs) (integer (neg_ℤ (pos (value_of bs)))) none)
    (cond (is_numeral (b ∷ bs)) (integer (pos (value_of (b ∷ bs)))) none)
