-- A table of log probabilities, in nine places of its own and at a place of a lent slice. Assumes nothing.
use Rattle.std.specs.Prelude.{◌≡◌, List, ℕ, ◌+◌, ◌*◌, ◌^◌, ◌≤◌, ◌<◌, ℤ, pos, nat_abs, length, get_or}

-- what a table must be for the sums to fit: k in 1..3, nine places, each entry at most 2^40 steps from 0
pub record TableIn (tab : List ℤ) (k : ℕ) : Type 0 where
  pub k_low : 1 ≤ k
  pub k_high : k ≤ 3
  pub size : length tab ≡ 9
  pub small : (p : ℕ) → p < k * k → nat_abs (get_or tab p (pos 0)) ≤ 2 ^ 40

-- the same of a table at a place of a lent slice
pub record TableAt (post : List ℤ) (at k : ℕ) : Type 0 where
  pub k_low : 1 ≤ k
  pub k_high : k ≤ 3
  pub inside : at + 9 ≤ length post
  pub small : (p : ℕ) → p < k * k → nat_abs (get_or post (at + p) (pos 0)) ≤ 2 ^ 40
