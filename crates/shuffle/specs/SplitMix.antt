-- 01, section 7, "Orders, for StdRng": SplitMix64 as published, over the natural numbers below 2 ^ 64.
-- Assumes nothing.
use Rattle.std.specs.Prelude.{ℕ, zero, suc, ◌+◌, ◌*◌, ◌/◌, ◌%◌, ◌^◌, bit_xor}

-- "state + 0x9E3779B97F4A7C15 wrapping"
unfoldable pub next_state : ℕ → ℕ
next_state state = (state + 0x9e3779b97f4a7c15) % 2 ^ 64

-- "multiplication keeps the low 64 bits"
unfoldable pub product64 : ℕ → ℕ → ℕ
product64 a b = a * b % 2 ^ 64

-- z, each bit joined by exclusive or with the one that stands so many places above it
unfoldable pub xor_shift : ℕ → ℕ → ℕ
xor_shift places z = bit_xor z (z / 2 ^ places)

-- "SplitMix64's published mixing": constants BF58476D1CE4E5B9, 94D049BB133111EB; shifts 30, 27, 31
unfoldable pub mixed : ℕ → ℕ
mixed z = xor_shift 31 (product64 (xor_shift 27 (product64 (xor_shift 30 z) 0xbf58476d1ce4e5b9)) 0x94d049bb133111eb)

-- the output at a state: the next state, mixed
unfoldable pub output : ℕ → ℕ
output state = mixed (next_state state)

-- the state after so many outputs
unfoldable pub state_after : ℕ → ℕ → ℕ
state_after zero state = state
state_after (suc outputs) state = state_after outputs (next_state state)
