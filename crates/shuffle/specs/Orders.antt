-- 01, section 7, "Orders": one order, and the orders of a slice one after the other.
-- Assumes nothing.
use Rattle.std.specs.Prelude.{ℕ, zero, suc, ◌+◌, ◌-◌, ◌*◌, ◌/◌, ◌%◌, cond, List, [], ◌∷◌, ◌++◌, take, drop, ◌==◌, slice_index, slice_set}
use Rattle.shuffle.specs.SplitMix.{next_state, output, state_after}

-- 0..n−1, ascending
unfoldable pub ascending : ℕ → List ℕ
ascending zero = []
ascending (suc n) = ascending n ++ (n ∷ [])

-- the entries at i and j change places
unfoldable pub swapped : List ℕ → ℕ → ℕ → List ℕ
swapped order i j = slice_set (slice_set order i (slice_index order j)) j (slice_index order i)

-- "positions i = n−1 down to 1 swap with output mod (i + 1)", the state running on
unfoldable pub swaps_down : ℕ → List ℕ → ℕ → List ℕ
swaps_down zero order state = order
swaps_down (suc i) order state = swaps_down i (swapped order (suc i) (output state % (suc i + 1))) (next_state state)

-- one order of n variants, "from ascending": a permutation (`order_permutation` of proofs/Permuted.antt)
unfoldable pub order_from : ℕ → ℕ → List ℕ
order_from n state = swaps_down (n - 1) (ascending n) state

-- m orders, each from ascending; "the state runs on into the next order"
unfoldable pub orders_from : ℕ → ℕ → ℕ → List ℕ
orders_from n zero state = []
orders_from n (suc m) state = order_from n state ++ orders_from n m (state_after (n - 1) state)

-- the number m of orders that a slice of so many elements holds: 0 where that is no multiple of N. "With N = 0 the order slice must
-- be empty and counts as one order"
unfoldable pub order_count : ℕ → ℕ → ℕ
order_count zero zero = 1
order_count zero (suc elements) = 0
order_count (suc n) elements = cond (elements % suc n == 0) (elements / suc n) 0

-- order o of a slice
unfoldable pub order_at : ℕ → List ℕ → ℕ → List ℕ
order_at n orders o = take n (drop (o * n) orders)
