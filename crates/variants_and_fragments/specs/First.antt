-- The first place at which a test fails: a refusal names the lowest place.
-- Assumes nothing.
use Rattle.std.specs.Prelude.{Bool, cond, ℕ, zero, suc, eqb}

-- of the k numbers from i on, the first at which p fails; i + k where there is none
unfoldable pub first_fail_from : (ℕ → Bool) → ℕ → ℕ → ℕ
first_fail_from p i zero = i
first_fail_from p i (suc k) = cond (p i) (first_fail_from p (suc i) k) i

-- the first of 0..n−1 at which p fails; n where there is none
unfoldable pub first_fail : (ℕ → Bool) → ℕ → ℕ
unfolding first_fail_from
first_fail p n = first_fail_from p 0 n

-- p holds of each of 0..n−1
unfoldable pub holds_below : (ℕ → Bool) → ℕ → Bool
holds_below p n = eqb (first_fail p n) n
