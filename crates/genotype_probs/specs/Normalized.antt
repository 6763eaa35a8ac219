-- 01, "Refusals by number and place", number 12: the sum of row sums is not 0 after `normalize`. There is no such table
-- (proofs/NormalizedLaws), so the code has no test for it.
-- Assumes nothing.
use Rattle.std.specs.Prelude.{Bool, false, List, ℕ, eqb, ℤ, pos, negsuc}
use Rattle.genotype_probs.specs.Posteriors.{table_sum}

abbrev pub is_zero : ℤ → Bool
is_zero (pos n) = eqb n 0
is_zero (negsuc n) = false

-- variant v's latest normalised table sums to 0; v has `count v` alleles and the table `table_of v`
unfoldable pub is_normal : (ℕ → List ℤ) → (ℕ → ℕ) → ℕ → Bool
is_normal table_of count v = is_zero (table_sum (table_of v) (count v))
