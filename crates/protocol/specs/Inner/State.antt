-- Reading a number a byte at a time: the state after each byte, and what a state reads as at each type. Assumes nothing.
use Rattle.std.specs.Prelude.{ℕ, ◌+◌, ◌-◌, ◌*◌, ◌^◌, Bool, true, false, cond, not, ◌&&◌, ◌||◌, List, [], ◌∷◌, ℤ, pos, negsuc, neg_ℤ, ◌==◌, from_bits, Option, Some, None, is_some, unwrap_or, int_le, int_lt, nat_lt}
use Rattle.std.specs.Float.{binary64, Float}
use Rattle.protocol.specs.Text.{is_digit, Reading, none, integer}
use Rattle.protocol.specs.declared.number.Number.{Number}

-- before the first byte
abbrev pub start : Number
start = record { negative = false; value = None }

-- whether there was a digit
abbrev pub has_digits : Number → Bool
has_digits s = is_some s.value

-- the number so far: 0 before the first digit
abbrev pub size : Number → ℕ
size s = unwrap_or s.value 0

-- after a digit, with v the number up to it: a number of 2^64 or more fits no type
unfoldable pub grown : Number → ℕ → Option Number
grown s v = cond (nat_lt v (2 ^ 64)) (Some (record { negative = s.negative; value = Some v })) None

-- after the byte b, which is no digit: a `-` may stand in front of all else
unfoldable pub signed : Number → ℕ → Option Number
signed s b =
    cond (b == 45 && not (s.negative || has_digits s))
    (Some (record { negative = true; value = s.value }))
    None

-- after the byte b; None is no number, whatever follows
unfoldable pub pushed : Number → ℕ → Option Number
pushed s b = cond (is_digit b) (grown s (size s * 10 + (b - 48))) (signed s b)

-- the same after any state
abbrev pub pushed_on : Option Number → ℕ → Option Number
pushed_on None b = None
pushed_on (Some s) b = pushed s b

-- after the bytes of a token
unfoldable pub pushed_all : Option Number → List ℕ → Option Number
pushed_all s [] = s
pushed_all s (b ∷ bs) = pushed_all (pushed_on s b) bs

-- the state of a whole integer that is not below 0
unfoldable pub is_natural : Number → Bool
is_natural s = has_digits s && (not s.negative || size s == 0)

-- a state's number below limit, else none
unfoldable pub natural : {A : Type 0} → ℕ → (ℕ → A) → Number → Option A
natural limit value s = cond (is_natural s && nat_lt (size s) limit) (Some (value (size s))) None

-- a flag is 0 or 1
unfoldable pub bool_in : Number → Option Bool
bool_in = natural 2 (λ n. n == 1)

unfoldable pub u8_in : Number → Option ℕ
u8_in = natural (2 ^ 8) (λ n. n)

unfoldable pub u32_in : Number → Option ℕ
u32_in = natural (2 ^ 32) (λ n. n)

unfoldable pub u64_in : Number → Option ℕ
u64_in = natural (2 ^ 64) (λ n. n)

-- an f64 is the unsigned decimal value of its 64-bit pattern; any pattern of a NaN is the one NaN
unfoldable pub f64_in : Number → Option Float
f64_in = natural (2 ^ 64) (from_bits binary64)

unfoldable pub length_in : Number → Option ℕ
length_in = natural (2 ^ 64) (λ n. n)

-- a size with its sign
unfoldable pub with_sign : Bool → ℕ → ℤ
with_sign true n = neg_ℤ (pos n)
with_sign false n = pos n

-- sizes of a signed type: up to p below 0, else less than that
unfoldable pub signed_sizes : ℕ → Bool → ℕ
signed_sizes p true = p + 1
signed_sizes p false = p

-- a state's number with its sign, of such a size, else none
unfoldable pub integral : ℕ → Number → Option ℤ
integral p s = cond (has_digits s && nat_lt (size s) (signed_sizes p s.negative)) (Some (with_sign s.negative (size s))) None

unfoldable pub i32_in : Number → Option ℤ
i32_in = integral (2 ^ 31)

unfoldable pub i64_in : Number → Option ℤ
i64_in = integral (2 ^ 63)

-- The same types over a token's reading: its integer where it fits the type, else none.

unfoldable pub natural_of : {A : Type 0} → ℕ → (ℕ → A) → Reading → Option A
natural_of limit value none = None
natural_of limit value (integer (pos n)) = cond (nat_lt n limit) (Some (value n)) None
natural_of limit value (integer (negsuc n)) = None

unfoldable pub bool_of : Reading → Option Bool
bool_of = natural_of 2 (λ n. n == 1)

unfoldable pub u8_of : Reading → Option ℕ
u8_of = natural_of (2 ^ 8) (λ n. n)

unfoldable pub u32_of : Reading → Option ℕ
u32_of = natural_of (2 ^ 32) (λ n. n)

unfoldable pub u64_of : Reading → Option ℕ
u64_of = natural_of (2 ^ 64) (λ n. n)

unfoldable pub f64_of : Reading → Option Float
f64_of = natural_of (2 ^ 64) (from_bits binary64)

unfoldable pub length_of : Reading → Option ℕ
length_of = natural_of (2 ^ 64) (λ n. n)

unfoldable pub integral_of : ℕ → Reading → Option ℤ
integral_of p none = None
integral_of p (integer z) = cond (int_le (neg_ℤ (pos p)) z && int_lt z (pos p)) (Some z) None

unfoldable pub i32_of : Reading → Option ℤ
i32_of = integral_of (2 ^ 31)

unfoldable pub i64_of : Reading → Option ℤ
i64_of = integral_of (2 ^ 63)
