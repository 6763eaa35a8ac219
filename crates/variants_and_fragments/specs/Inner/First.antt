-- The first of some tests that fails. Assumes nothing.
use Rattle.std.specs.Prelude.{Bool, cond, List, [], ◌∷◌, ℕ, suc}

-- the index of the first of some tests that fails; their number where none does
unfoldable pub first_false : List Bool → ℕ
first_false [] = 0
first_false (b ∷ bs) = cond b (suc (first_false bs)) 0
