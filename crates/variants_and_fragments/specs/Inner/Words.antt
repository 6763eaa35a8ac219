-- How far a word lies below 0. Assumes nothing.
use Rattle.std.specs.Prelude.{ℕ, zero, suc, ℤ, pos, negsuc}
use Rattle.variants_and_fragments.specs.Words.{none}

-- a positive one is none
abbrev pub debt_of : ℤ → ℕ
debt_of (pos zero) = 0
debt_of (pos (suc n)) = none
debt_of (negsuc n) = suc n
