-- 01, section 2: what is read of one word. A word is an i32, so a whole number with a sign. Every range is stated of the word as it stands;
-- counts, indexes and lengths are then read as numbers.
-- Assumes nothing.
use Rattle.std.specs.Prelude.{Bool, ◌&&◌, List, ℕ, get_or, ℤ, pos, negsuc}
use Rattle.std.specs.Int.Signed.{le_z, lt_z}

-- word i of w
abbrev pub word : List ℤ → ℕ → ℤ
word w i = get_or w i (pos 0)

-- z is in lo..hi, both ends included
unfoldable pub within : ℤ → ℤ → ℤ → Bool
within lo hi z = le_z lo z && le_z z hi

-- z is one of 0..n−1
unfoldable pub below : ℕ → ℤ → Bool
below n z = le_z (pos 0) z && lt_z z (pos n)

-- no word's number, and above every bound of the layout
abbrev pub none : ℕ
none = 4294967296

-- a word that is not negative is its number; a negative one is none
abbrev pub nat_of : ℤ → ℕ
nat_of (pos n) = n
nat_of (negsuc n) = none

-- the number of word i of w
abbrev pub nat_at : List ℤ → ℕ → ℕ
nat_at w i = nat_of (word w i)
