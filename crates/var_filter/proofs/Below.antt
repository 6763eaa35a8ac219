-- Laws of any_below, count_below and past_last: what one more number adds, and what they say of the numbers below.
-- Assumes nothing.
use mathlib.Core.Path.{◌≡◌, refl, ◌∙◌}
use mathlib.Core.Bool.{Bool, true, false, cond, ◌||◌}
use Prim.Native.Nat.{ℕ, zero, suc, ◌+◌, ◌-◌, ◌≤◌, ◌<◌}
use native.Mathlib.Omega.{arith}
use Rattle.std.proofs.lemmas.Bool.Decides.{nat_tests}
use native.Mathlib.Decide.{ℕ_discrete}
use Rattle.var_filter.specs.Filter.{any_below, count_below}
use Rattle.var_filter.specs.Inner.FilterWindow.{past_last}
use Rattle.variants_and_fragments.specs.Sums.{count_to}
use Rattle.variants_and_fragments.proofs.Sums.{count_to_grows}

pub any_one : (n : ℕ) (p : ℕ → Bool) (k : ℕ) → k < n → p k ≡ true → any_below n p ≡ true
unfolding any_below
any_one zero p k h e = absurd (omega arith)
any_one (suc n) p k h e = grind (arith, nat_tests, any_one n p k)

pub any_none : (n : ℕ) (p : ℕ → Bool) → ((k : ℕ) → k < n → p k ≡ false) → any_below n p ≡ false
unfolding any_below
any_none zero p h = refl
any_none (suc n) p h = rw (any_none n p (λ k l. h k (omega arith)), h n (omega arith))

pub any_more : (n : ℕ) (p : ℕ → Bool) → any_below (suc n) p ≡ (any_below n p || p n)
unfolding any_below
any_more n p = refl

pub count_in : (n : ℕ) (p : ℕ → Bool) → p n ≡ true → count_below (suc n) p ≡ count_below n p + 1
unfolding count_to
count_in n p e = rw e

pub count_out : (n : ℕ) (p : ℕ → Bool) → p n ≡ false → count_below (suc n) p ≡ count_below n p
unfolding count_to
count_out n p e = rw e (omega arith)

pub count_none : (n : ℕ) (p : ℕ → Bool) → ((k : ℕ) → k < n → p k ≡ false) → count_below n p ≡ 0
unfolding count_to
count_none zero p h = refl
count_none (suc n) p h = count_out n p (h n (omega arith)) ∙ count_none n p (λ k l. h k (omega arith))

pub count_le : (p : ℕ → Bool) (m n : ℕ) → m ≤ n → count_below m p ≤ count_below n p
count_le p m n h = count_to_grows m n (λ k. cond (p k) 1 0) h

pub count_top : (n : ℕ) (p : ℕ → Bool) → count_below n p ≤ n
unfolding count_to
count_top zero p = omega arith
count_top (suc n) p = grind (arith, nat_tests, count_top n p)

pub past_in : (n : ℕ) (p : ℕ → Bool) → p n ≡ true → past_last (suc n) p ≡ suc n
unfolding past_last
past_in n p e = rw e

pub past_out : (n : ℕ) (p : ℕ → Bool) → p n ≡ false → past_last (suc n) p ≡ past_last n p
unfolding past_last
past_out n p e = rw e

pub past_le : (n : ℕ) (p : ℕ → Bool) → past_last n p ≤ n
unfolding past_last
past_le zero p = omega arith
past_le (suc n) p = grind (arith, nat_tests, past_le n p)

-- p holds of none from there on, and of the one before
pub past_none : (n : ℕ) (p : ℕ → Bool) (k : ℕ) → past_last n p ≤ k → k < n → p k ≡ false
unfolding past_last
past_none zero p k h l = absurd (omega arith)
past_none (suc n) p k h l = grind (arith, nat_tests, past_none n p k)

pub past_holds : (n : ℕ) (p : ℕ → Bool) → 0 < past_last n p → p (past_last n p - 1) ≡ true
unfolding past_last
past_holds zero p h = absurd (omega arith)
past_holds (suc n) p h = grind (arith, nat_tests, past_holds n p)

-- all that count stand below it
pub past_count : (n : ℕ) (p : ℕ → Bool) → count_below (past_last n p) p ≡ count_below n p
unfolding past_last
past_count zero p = refl
past_count (suc n) p = grind (arith, nat_tests, past_count n p, count_out n p)

-- where q fails up to v and is p from there to e, it counts what p counts past v
pub count_after : (p q : ℕ → Bool) (v e : ℕ) → ((m : ℕ) → m ≤ v → q m ≡ false) → ((m : ℕ) → v < m → m < e → q m ≡ p m) → (k : ℕ) → v < k → k ≤ e → count_below k q + count_below (suc v) p ≡ count_below k p
count_after p q v e none same zero h l = absurd (omega arith)
count_after p q v e none same (suc k) h l = elim (ℕ_discrete k v) [
  | yes t ↦ rw t (omega (arith, count_none (suc v) q (λ m i. none m (omega arith))))
  | no t ↦ go (p k) refl (same k (omega arith) (omega arith)) (count_after p q v e none same k (omega arith) (omega arith))
]
  where
    go : (b : Bool) → p k ≡ b → q k ≡ p k → count_below k q + count_below (suc v) p ≡ count_below k p → count_below (suc k) q + count_below (suc v) p ≡ count_below (suc k) p
    go b t s i = grind (arith, nat_tests, count_in k p, count_in k q, count_out k p, count_out k q)
