-- 01, section 1: the rule of the knots, of one and of the whole table, and T[k], the table's entry.
-- Assumes nothing.
use Rattle.std.specs.Prelude.{◌≡◌, ℕ, ◌+◌, ◌*◌, ◌^◌, ◌<◌, ◌≤◌, List, length, slice_index}
use Rattle.steps.specs.Table.{knots}

-- n is the greatest number of which P holds
pub record Greatest (P : ℕ → Type 0) (n : ℕ) : Type 0 where
  pub holds : P n
  pub most : (m : ℕ) → P m → m ≤ n

-- let e(k) be the greatest e with e^128 × 2^k ≤ 2^5120; t is the greatest t with 2^(t + 163840) ≤ (2^40 + e(k))^4096
pub record Knot (k t : ℕ) : Type 0 where
  pub e : ℕ
  pub root : Greatest (λ (x : ℕ). x ^ 128 * 2 ^ k ≤ 2 ^ 5120) e
  pub knot : Greatest (λ (x : ℕ). 2 ^ (x + 163840) ≤ (2 ^ 40 + e) ^ 4096) t

-- "Knots T[0] to T[1664]": 1,665 numbers, each the knot of its place. `knots` are these and no other list is: `whole_table` and `one_table` of
-- proofs/Rule.antt
pub record KnotTable (ts : List ℕ) : Type 0 where
  pub long : length ts ≡ 1665
  pub each : (k : ℕ) → k < 1665 → Knot k (slice_index ts k)

-- T[k]
unfoldable pub T : ℕ → ℕ
unfolding knots
T k = slice_index knots k
