-- Laws of `count_up_to`: a count is at most its range, and one more w.
-- Assumes nothing.
use Rattle.std.proofs.Common.{◌≡◌, ℕ, zero, suc, ◌+◌, ◌-◌, ◌≤◌, Bool, true, false, cond, pos, refl, arith}
use lib.Ieee.{Float, binary64, le, of_int}
use Rattle.steps.specs.Phred.{count_up_to}

bit_le : (t : Bool) → cond t 1 0 ≤ 1
bit_le true = omega arith
bit_le false = omega arith

pub count_le : (n : ℕ) (x : Float) → count_up_to n x ≤ n
unfolding count_up_to
count_le zero x = omega arith
count_le (suc n) x = omega (arith, count_le n x, bit_le (le (of_int binary64 (pos (suc n))) x))

-- one more w, as the loop has it
pub count_more : (w : ℕ) (x : Float) → 1 ≤ w → count_up_to (w + 1 - 1) x ≡ count_up_to (w - 1) x + cond (le (of_int binary64 (pos w)) x) 1 0
unfolding count_up_to
count_more zero x h = absurd (omega arith)
count_more (suc k) x h =
    let e : suc k + 1 - 1 ≡ suc k = omega arith in let d : suc k - 1 ≡ k = omega arith in rw (e, d) refl
