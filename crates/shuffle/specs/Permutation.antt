-- 01, section 6, an order of a sweep: each of the variants 0..n−1 exactly once.
-- Assumes nothing.
use Rattle.std.specs.Prelude.{◌≡◌, ℕ, zero, suc, ◌+◌, ◌<◌, Bool, true, false, cond, ◌&&◌, ◌||◌, T, List, [], ◌∷◌, ◌==◌, nat_lt}

-- v stands in an order
unfoldable pub member : ℕ → List ℕ → Bool
member v [] = false
member v (w ∷ ws) = w == v || member v ws

-- how often v stands in an order
unfoldable pub times : ℕ → List ℕ → ℕ
times v [] = 0
times v (w ∷ ws) = cond (w == v) 1 0 + times v ws

-- every entry is below n, and each v below n stands there exactly once
pub record Permutation (n : ℕ) (order : List ℕ) : Type 0 where
  pub within : (v : ℕ) → T (member v order) → v < n
  pub once : (v : ℕ) → v < n → times v order ≡ 1

-- the same as tests: every entry is below n
unfoldable pub all_below : ℕ → List ℕ → Bool
all_below n [] = true
all_below n (v ∷ vs) = nat_lt v n && all_below n vs

-- each v below n stands there exactly once
unfoldable pub each_once : ℕ → List ℕ → Bool
each_once zero order = true
each_once (suc v) order = each_once v order && times v order == 1

-- an order is a permutation: true just where `Permutation` holds (`permutes_permutation` and `permutation_permutes` of proofs/Permuted.antt)
unfoldable pub permutes : ℕ → List ℕ → Bool
permutes n order = all_below n order && each_once n order
