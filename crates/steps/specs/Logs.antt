-- 01, section 1: log probabilities. A finite one is a whole number of steps, 4,096 to a doubling; the mark is probability zero.
-- Assumes nothing.
use Rattle.std.specs.Prelude.{◌≡◌, ℕ, cond, List, [], ◌∷◌, ◌++◌, ℤ, pos, ◌+ℤ◌, ◌-ℤ◌, int_le, unsigned_abs}
use Rattle.steps.specs.Addend.{addend}

pub data Log : Type 0 where
  mark : Log
  steps : ℤ → Log

unfoldable pub larger : ℤ → ℤ → ℤ
larger a b = cond (int_le b a) a b

unfoldable pub difference : ℤ → ℤ → ℕ
difference a b = unsigned_abs (a -ℤ b)

-- ln_add_exp of two finite ones: the larger + A(difference)
unfoldable pub add_exp : ℤ → ℤ → ℤ
add_exp a b = larger a b +ℤ pos (addend (difference a b))

-- 01, sections 4 and 6: ln_add_exp of both less 4,096 each
unfoldable pub mix_of : ℤ → ℤ → ℤ
mix_of a b = add_exp (a -ℤ pos 4096) (b -ℤ pos 4096)

-- ln_add_exp: the mark gives the other one
unfoldable pub ln_add_exp : Log → Log → Log
ln_add_exp mark b = b
ln_add_exp (steps a) mark = steps a
ln_add_exp (steps a) (steps b) = steps (add_exp a b)

-- "`ln_sum_exp` adds from the left, starting at the mark", of a function on lists: none gives the mark, and one more at the right end is
-- added to the sum so far
pub record AddsFromLeft (sum : List Log → Log) : Type 0 where
  pub start : sum [] ≡ mark
  pub next : (xs : List Log) (x : Log) → sum (xs ++ (x ∷ [])) ≡ ln_add_exp (sum xs) x

-- the sum from a start on, and from the mark on: `ln_sum_exp`, which adds from the left as no other function does (`sum_meets` and `one_sum`
-- of proofs/Sums.antt)
unfoldable pub ln_sum_from : Log → List Log → Log
ln_sum_from a [] = a
ln_sum_from a (x ∷ xs) = ln_sum_from (ln_add_exp a x) xs

unfoldable pub ln_sum_exp : List Log → Log
ln_sum_exp xs = ln_sum_from mark xs

-- the same over finite ones, from the first of them: `sum_steps` of proofs/Sums.antt
unfoldable pub sum_exp : ℤ → List ℤ → ℤ
sum_exp a [] = a
sum_exp a (x ∷ xs) = sum_exp (add_exp a x) xs
