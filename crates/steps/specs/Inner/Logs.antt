-- How an i64 of the code is read as a log probability, and how far from 0 it is. Assumes nothing.
use Rattle.std.specs.Prelude.{ℕ, Bool, false, cond, ℤ, pos, negsuc, ◌==◌, unsigned_abs}
use Rattle.steps.specs.Logs.{Log, mark, steps}

-- how an i64 of the code is read: the least one is the mark
unfoldable pub is_mark : ℤ → Bool
is_mark (pos n) = false
is_mark (negsuc n) = n == 9223372036854775807

unfoldable pub log_of : ℤ → Log
log_of z = cond (is_mark z) mark (steps z)

-- how far from 0 a log probability is; the mark, of which no sum is made, counts as 0
unfoldable pub size : Log → ℕ
size mark = 0
size (steps z) = unsigned_abs z
