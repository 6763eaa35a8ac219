-- The decimal text of a number, and what a function that puts a text into a buffer leaves. Assumes nothing.
use Rattle.std.specs.Prelude.{◌≡◌, ℕ, zero, suc, ◌+◌, ◌/◌, ◌%◌, ◌≤◌, cond, List, [], ◌∷◌, ◌++◌, length, ℤ, pos, negsuc, nat_lt}
use Rattle.std.proofs.Math.Seq.{paste}

-- the digits of n, the most significant first, for any fuel of n or more
unfoldable pub decimal_from : ℕ → ℕ → List ℕ
decimal_from zero n = (48 + n) ∷ []
decimal_from (suc fuel) n = cond (nat_lt n 10) ((48 + n) ∷ []) (decimal_from fuel (n / 10) ++ ((48 + n % 10) ∷ []))

-- the digits of n with no needless zero in front
unfoldable pub decimal_of : ℕ → List ℕ
decimal_of n = decimal_from n n

-- the same with `-` (45) in front of a negative number
unfoldable pub signed_of : ℤ → List ℕ
signed_of (pos n) = decimal_of n
signed_of (negsuc n) = 45 ∷ decimal_of (suc n)

-- a buffer before and after a text was put into it from `at` on, and the place after the text
pub record Put (before : List ℕ) (at : ℕ) (text : List ℕ) (after : List ℕ) (next : ℕ) : Type 0 where
  pub ends : next ≡ at + length text
  pub buffer : after ≡ paste before at text (length text)
  pub inside : next ≤ length before

-- a text is the end of what waits
abbrev pub EndsIn : List ℕ → List ℕ → Type 0
EndsIn waits text = (front : List ℕ) × (waits ≡ front ++ text)
