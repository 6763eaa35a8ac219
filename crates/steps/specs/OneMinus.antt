-- 01, section 1: ln_one_minus_exp, as its statement and as a function that searches.
-- Assumes nothing.
use Rattle.std.specs.Prelude.{◌≡◌, ℕ, zero, suc, ◌+◌, ◌-◌, ◌^◌, Bool, cond, ℤ, pos, negsuc, neg_ℤ, ◌≤ℤ◌, int_le}
use Rattle.steps.specs.Logs.{Log, mark, steps, add_exp}

-- z is the greatest integer of which P holds
pub record GreatestZ (P : ℤ → Type 0) (z : ℤ) : Type 0 where
  pub holds : P z
  pub most : (y : ℤ) → P y → y ≤ℤ z

-- ln_one_minus_exp(0) is the mark; for p < 0, the greatest q ≤ 0 with ln_add_exp(p, q) ≤ 0. Read for the mark, that is 0
abbrev pub OneMinusExp : Log → Log → Type 0
OneMinusExp mark r = r ≡ steps (pos 0)
OneMinusExp (steps (pos n)) r = (n ≡ 0) × (r ≡ mark)
OneMinusExp (steps (negsuc n)) mark = ⊥
OneMinusExp (steps (negsuc n)) (steps r) = GreatestZ (λ (q : ℤ). (q ≤ℤ pos 0) × (add_exp (negsuc n) q ≤ℤ pos 0)) r

-- ---- the search, in steps down from 0
-- whether ln_add_exp(p, −b) ≤ 0
unfoldable pub low : ℤ → ℕ → Bool
low p b = int_le (add_exp p (neg_ℤ (pos b))) (pos 0)

-- the first of the 2^n numbers from b on at which the test passes, by halves: it is in the lower half where the last of that half passes
unfoldable pub first : (ℕ → Bool) → ℕ → ℕ → ℕ
first f zero b = b
first f (suc n) b = first f n (cond (f (b + 2 ^ n - 1)) b (b + 2 ^ n))

-- ln_one_minus_exp: for every p ≤ 0 and for the mark the value of the statement, which one value alone meets (`meets`, `meets_mark` and
-- `one_value` of proofs/OneMinus.antt)
unfoldable pub ln_one_minus_exp : Log → Log
ln_one_minus_exp mark = steps (pos 0)
ln_one_minus_exp (steps (pos n)) = mark
ln_one_minus_exp (steps (negsuc n)) = steps (neg_ℤ (pos (first (low (negsuc n)) 16 0)))
