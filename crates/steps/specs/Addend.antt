-- 01, section 1: A(d), under the name addend since a clause has A for another thing.
-- Assumes nothing.
use Rattle.std.specs.Prelude.{ℕ, ◌+◌, ◌-◌, ◌*◌, ◌/◌, ◌%◌, cond, nat_le}
use Rattle.steps.specs.Knots.{T}

-- A(d) is 0 for d ≥ 53,248; else with k = d div 32, r = d mod 32: T[k] − ((T[k] − T[k+1]) × r) div 32
unfoldable pub addend : ℕ → ℕ
addend d =
    let k = d / 32 in
    let r = d % 32 in
    cond (nat_le 53248 d) 0 (T k - (T k - T (k + 1)) * r / 32)
