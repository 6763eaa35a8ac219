-- The sum so far, with the elements from the index on added to it, is the whole sum, and its size is at most 2^60 and 4096 for each element
-- passed.
use Rattle.std.proofs.Common.{◌≡◌, ◌+◌, ◌*◌, ◌^◌, ◌≤◌, map, drop}
use Rattle.steps.specs.Logs.{ln_sum_from, ln_sum_exp}
use Rattle.steps.specs.Inner.Logs.{log_of, size}
use Rattle.steps.proofs.LogProb.ln_sum_exp.Given as goal

abbrev pub invariant-loop-x : goal.invariant-loop-x
invariant-loop-x l =
    (size (log_of l.sum.0) ≤ 2 ^ 60 + 4096 * l.x-index) × (ln_sum_from (log_of l.sum.0) (map log_of (drop l.x-index l.s)) ≡ ln_sum_exp (map log_of l.s))
