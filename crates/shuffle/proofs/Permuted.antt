-- An order made by swaps from ascending is a permutation, since a swap keeps how often each number stands there. `permutes` tests just that
-- an order is a permutation. Assumes nothing.
use Rattle.std.proofs.Common.{◌≡◌, ℕ, zero, suc, ◌+◌, ◌-◌, ◌%◌, ◌<◌, ◌≤◌, Bool, true, false, ◌||◌, T, eqb, ltb, List, [], ◌∷◌, length, refl, ap, ◌∙◌, mod-lt, arith, ltb-true, lt-ltb, eq-eqb, eqb-true}
use native.Mathlib.Decide.{ℕ_discrete, dec_lt}
use Rattle.variants_and_fragments.proofs.Bools.{both}
use Rattle.shuffle.specs.SplitMix.{next_state, output}
use Rattle.shuffle.specs.Permutation.{member, times, Permutation, all_below, each_once, permutes}
use Rattle.shuffle.specs.Orders.{ascending, swapped, swaps_down, order_from}
use Rattle.shuffle.proofs.Ascending.{ascending_length}
use Rattle.shuffle.proofs.Swaps.{swapped_length}
use Rattle.shuffle.proofs.Times.{times_swapped, ascending_absent, ascending_once, member_times, member_head, member_tail}

-- ---- the orders that are made
times_swaps : (v i : ℕ) (order : List ℕ) (state : ℕ) → i ≤ length order - 1 → times v (swaps_down i order state) ≡ times v order
unfolding swaps_down
times_swaps v zero order state h = refl
times_swaps v (suc i) order state h =
    let j = output state % (suc i + 1) in
    let z : 0 < suc i + 1 = omega arith in
    let hj : j < suc i + 1 = mod-lt (output state) z in
    times_swaps v i (swapped order (suc i) j) (next_state state) (omega (arith, swapped_length order (suc i) j))
    ∙ times_swapped v order (suc i) j (omega arith) (omega arith)

times_order : (v n state : ℕ) → times v (order_from n state) ≡ times v (ascending n)
unfolding order_from
times_order v n state = times_swaps v (n - 1) (ascending n) state (omega (arith, ascending_length n))

pub order_permutation : (n state : ℕ) → Permutation n (order_from n state)
order_permutation n state =
    record {
      within = λ v t. within v t (dec_lt v n);
      once = λ v h. times_order v n state ∙ ascending_once v n h;
    }
  where
    within : (v : ℕ) → T (member v (order_from n state)) → Dec (v < n) → v < n
    within v t (yes h) = h
    within v t (no h) = absurd (omega (arith, member_times v (order_from n state) t, times_order v n state, ascending_absent v n (omega arith)))

-- ---- the test
below_within : (n : ℕ) (order : List ℕ) → all_below n order ≡ true → (v : ℕ) → T (member v order) → v < n
unfolding all_below member
below_within n [] h v t = absurd t
below_within n (w ∷ ws) h v t =
    let parts = both (ltb w n) (all_below n ws) h in
    go (ltb-true w n parts.0) (eqb w v) refl t (below_within n ws parts.1 v)
  where
    go : w < n → (b : Bool) → eqb w v ≡ b → T (b || member v ws) → (T (member v ws) → v < n) → v < n
    go l true e u later = omega (arith, eqb-true w v e)
    go l false e u later = later u

once_each : (n : ℕ) (order : List ℕ) → each_once n order ≡ true → (v : ℕ) → v < n → times v order ≡ 1
unfolding each_once
once_each zero order h v k = absurd (omega arith)
once_each (suc n) order h v k =
    let parts = both (each_once n order) (eqb (times n order) 1) h in
    elim (ℕ_discrete v n) [
      | yes e ↦ ap (λ (u : ℕ). times u order) e ∙ eqb-true (times n order) 1 parts.1
      | no e ↦ once_each n order parts.0 v (omega arith)
    ]

pub permutes_permutation : (n : ℕ) (order : List ℕ) → permutes n order ≡ true → Permutation n order
unfolding permutes
permutes_permutation n order h =
    let parts = both (all_below n order) (each_once n order) h in
    record { within = below_within n order parts.0; once = once_each n order parts.1 }

within_below : (n : ℕ) (order : List ℕ) → ((v : ℕ) → T (member v order) → v < n) → all_below n order ≡ true
unfolding all_below
within_below n [] h = refl
within_below n (w ∷ ws) h =
    rw (lt-ltb w n (h w (member_head w ws)), within_below n ws (λ v t. h v (member_tail v w ws t)))

each_once_test : (n : ℕ) (order : List ℕ) → ((v : ℕ) → v < n → times v order ≡ 1) → each_once n order ≡ true
unfolding each_once
each_once_test zero order h = refl
each_once_test (suc n) order h = rw (each_once_test n order (λ v k. h v (omega arith)), eq-eqb (times n order) 1 (h n (omega arith)))

pub permutation_permutes : (n : ℕ) (order : List ℕ) → Permutation n order → permutes n order ≡ true
unfolding permutes
permutation_permutes n order p = rw (within_below n order p.within, each_once_test n order p.once)

pub not_permutes : (n : ℕ) (order : List ℕ) → (Permutation n order → ⊥) → permutes n order ≡ false
not_permutes n order h = go (permutes n order) refl
  where
    go : (b : Bool) → permutes n order ≡ b → b ≡ false
    go true e = absurd (h (permutes_permutation n order e))
    go false e = refl
