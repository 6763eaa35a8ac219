-- Sums over a list and over the numbers below one. Every total of 01's sections 4 and 6 is such a sum.
-- Assumes nothing.
use Rattle.std.specs.Prelude.{List, [], ◌∷◌, ℕ, zero, suc, ◌+◌, ℤ, pos, ◌+ℤ◌}

-- the sum of g x over the elements x of a list
unfoldable pub sum_over : {X : Type 0} → List X → (X → ℤ) → ℤ
sum_over [] g = pos 0
sum_over (x ∷ xs) g = g x +ℤ sum_over xs g

-- the same for whole numbers from 0 on
unfoldable pub count_over : {X : Type 0} → List X → (X → ℕ) → ℕ
count_over [] g = 0
count_over (x ∷ xs) g = g x + count_over xs g

-- f 0 + .. + f (n − 1)
unfoldable pub sum_to : ℕ → (ℕ → ℤ) → ℤ
sum_to zero f = pos 0
sum_to (suc n) f = sum_to n f +ℤ f n

-- the same for whole numbers from 0 on
unfoldable pub count_to : ℕ → (ℕ → ℕ) → ℕ
count_to zero f = 0
count_to (suc n) f = count_to n f + f n
