-- 01, refusal 8 and section 7: the outcome of the check of a run's orders, and what `sweep_orders` answers and writes.
-- Assumes nothing.
use Rattle.std.specs.Prelude.{ℕ, List, length, ℤ, nat_lt}
use Rattle.variants_and_fragments.specs.Case.{Case}
use Rattle.variants_and_fragments.specs.Refusals.{Outcome, done, and_then, unless, each, Promise}
use Rattle.variants_and_fragments.specs.Check.{check_case_outcome}
use Rattle.variants_and_fragments.specs.Decode.{decode}
use Rattle.shuffle.specs.Permutation.{permutes}
use Rattle.shuffle.specs.Orders.{orders_from, order_count, order_at}

-- "order; m is 0 or length no multiple of N: 0", refusal 8; else done with m
unfoldable pub orders_outcome : ℕ → List ℕ → Outcome ℕ
orders_outcome n orders =
    let m = order_count n (length orders) in
    unless (nat_lt 0 m) 8 0
    (each 8 (λ o. permutes n (order_at n orders o)) 0 m
    (done m))

-- ---- the operation
-- 1 to 5, the case; 8, "its length refused as under 8"
unfoldable pub sweep_orders_outcome : List ℤ → List ℕ → List ℕ → Outcome Unit
sweep_orders_outcome words bases before =
    and_then (check_case_outcome words bases) (λ s.
    unless (nat_lt 0 (order_count s.n (length before))) 8 0
    (done tt))

-- as many orders as the slice has room for
unfoldable pub sweep_orders_written : Case → ℕ → List ℕ → List ℕ
sweep_orders_written case seed before = let n = length case.variants in orders_from n (order_count n (length before)) seed

-- the promise, of the slice lent
abbrev pub SweepOrders : List ℤ → List ℕ → ℕ → List ℕ → Outcome Unit → List ℕ → Type 0
SweepOrders words bases seed before answer after =
    Promise (sweep_orders_outcome words bases before) (sweep_orders_written (decode words bases) seed before) before answer after
