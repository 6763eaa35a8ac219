-- A swap keeps the length, and the swaps from position i − 1 down are the one at i − 1 and those below it. Assumes nothing.
use Rattle.std.proofs.Common.{◌≡◌, ℕ, zero, suc, ◌+◌, ◌-◌, ◌%◌, ◌<◌, List, length, refl, ◌∙◌, arith, length-set}
use Rattle.shuffle.specs.SplitMix.{next_state, mixed, output, state_after}
use Rattle.shuffle.specs.Orders.{swapped, swaps_down, order_from}
use Rattle.shuffle.proofs.Ascending.{ascending_length}

pub swapped_length : (order : List ℕ) (i j : ℕ) → length (swapped order i j) ≡ length order
unfolding swapped
swapped_length order i j = simp length-set refl

swaps_length : (i : ℕ) (order : List ℕ) (state : ℕ) → length (swaps_down i order state) ≡ length order
unfolding swaps_down
swaps_length zero order state = refl
swaps_length (suc i) order state = swaps_length i (swapped order (suc i) (output state % (suc i + 1))) (next_state state) ∙ swapped_length order (suc i) (output state % (suc i + 1))

pub order_length : (n state : ℕ) → length (order_from n state) ≡ n
unfolding order_from
order_length n state = swaps_length (n - 1) _ state ∙ ascending_length n

-- one turn, as the loop has it: i − 1 is the position
pub swaps_more : (i : ℕ) (order : List ℕ) (state : ℕ) → 1 < i → swaps_down (i - 1 - 1) (swapped order (i - 1) (mixed (next_state state) % (i - 1 + 1))) (next_state state) ≡ swaps_down (i - 1) order state
unfolding swaps_down output
swaps_more zero order state h = absurd (omega arith)
swaps_more (suc zero) order state h = absurd (omega arith)
swaps_more (suc (suc k)) order state h =
    let a : suc (suc k) - 1 ≡ suc k = omega arith in
    let b : suc k - 1 ≡ k = omega arith in
    rw (a, b) refl

pub state_more : (i state : ℕ) → 1 < i → state_after (i - 1 - 1) (next_state state) ≡ state_after (i - 1) state
unfolding state_after
state_more zero state h = absurd (omega arith)
state_more (suc zero) state h = absurd (omega arith)
state_more (suc (suc k)) state h =
    let a : suc (suc k) - 1 ≡ suc k = omega arith in
    let b : suc k - 1 ≡ k = omega arith in
    rw (a, b) refl
