-- ln(1 + exp(d)), in steps, as a table of straight lines: that is the larger of d and 0, plus A(|d|). On each piece of 32 steps it is
-- (base + slope × d) div 32, with two natural numbers, base and slope. Assumes nothing.
use Rattle.std.specs.Prelude.{◌≡◌, ℕ, zero, suc, ◌+◌, ◌-◌, ◌*◌, ◌/◌, ◌^◌, ◌<◌, ◌≤◌, List, [], ◌∷◌, ℤ, pos, ◌+ℤ◌, ◌*ℤ◌, slice_index_or}
use Rattle.steps.specs.Knots.{T}
use Rattle.steps.specs.Logs.{add_exp}

-- between the knots k and k + 1, A(d) is (base k − fall k × d) div 32
unfoldable pub fall : ℕ → ℕ
fall k = T k - T (k + 1)

unfoldable pub base : ℕ → ℕ
base k = 32 * T k + 31 + 32 * k * fall k

-- the lines below zero, from that of the knot n − 1 to that of the knot 0: their slope is A's, which rises there
unfoldable pub below : ℕ → List (ℕ × ℕ) → List (ℕ × ℕ)
below zero rest = rest
below (suc k) rest = (base k, fall k) ∷ below k rest

-- n lines from zero on, the first that of the knot k: d itself is added; then, farther away, d above zero and 0 below
unfoldable pub above : ℕ → ℕ → List (ℕ × ℕ)
above k zero = (0, 32) ∷ (0, 0) ∷ []
above k (suc n) = (base k, 32 - fall k) ∷ above (suc k) n

-- T[1604] and the knots after it are 0
unfoldable pub lines : List (ℕ × ℕ)
lines = below 1604 (above 0 1604)

-- the base and the slope of line k
abbrev pub line_at : ℕ → ℕ × ℕ
line_at k = slice_index_or lines k (0, 0)

-- the line k holds at d
pub record Holds (k : ℕ) (d : ℤ) : Type 0 where
  pub listed : k < 3210
  pub low : (line_at k).0 < 2 ^ 31
  pub gentle : (line_at k).1 ≤ 32
  pub sum : ℕ
  pub sums : pos (line_at k).0 +ℤ pos (line_at k).1 *ℤ d ≡ pos sum
  pub value : add_exp d (pos 0) ≡ pos (sum / 32)
