-- Each order that `sweep_orders` writes is a permutation, and so is each of a slice that the check of orders accepts; the check
-- accepts what was written. Assumes nothing.
use Rattle.std.proofs.Common.{◌≡◌, ℕ, zero, suc, ◌+◌, ◌-◌, ◌*◌, ◌<◌, ltb, List, ◌++◌, length, take, ℤ, sym, refl, ap, ◌∙◌, subst, suc-mul, zero-mul, arith, length-append, take_at, ltb-true}
use lib.Seq.{drop-append-add}
use Rattle.variants_and_fragments.specs.Refusals.{done}
use Rattle.variants_and_fragments.specs.Decode.{decode}
use Rattle.variants_and_fragments.proofs.First.{first_end, from_all}
use Rattle.variants_and_fragments.proofs.Accepted.{case_in}
use Rattle.variants_and_fragments.proofs.Decoded.{variants_are}
use Rattle.variants_and_fragments.proofs.Outcomes.{unless_past, each_past, then_on}
use Rattle.variants_and_fragments.specs.Check.{check_case_outcome}
use Rattle.variants_and_fragments.specs.declared.Sizes.{Sizes}
use Rattle.shuffle.specs.SplitMix.{state_after}
use Rattle.shuffle.specs.Permutation.{Permutation, permutes}
use Rattle.shuffle.specs.Orders.{order_from, orders_from, order_count, order_at}
use Rattle.shuffle.specs.Inner.Orders.{GoodOrders}
use Rattle.shuffle.specs.Answers.{orders_outcome, sweep_orders_outcome, sweep_orders_written}
use Rattle.shuffle.specs.Inner.Answers.{first_bad_order}
use Rattle.shuffle.proofs.Swaps.{order_length}
use Rattle.shuffle.proofs.Permuted.{order_permutation, permutes_permutation, permutation_permutes}
use Rattle.shuffle.proofs.Slices.{count_fills, count_one, count_of}
use Rattle.shuffle.proofs.Outcomes.{good_orders}

-- ---- what is written
pub orders_length : (n m state : ℕ) → length (orders_from n m state) ≡ m * n
unfolding orders_from
orders_length n zero state = sym (zero-mul n)
orders_length n (suc m) state =
    length-append (order_from n state) (orders_from n m (state_after (n - 1) state))
    ∙ omega (arith, order_length n state, orders_length n m (state_after (n - 1) state), suc-mul m n)

first_order : (n : ℕ) (order rest : List ℕ) → length order ≡ n → order_at n (order ++ rest) 0 ≡ order
unfolding order_at
first_order n order rest e = rw (zero-mul n) (take_at order rest n e)

later_order : (n o : ℕ) (order rest : List ℕ) → length order ≡ n → order_at n (order ++ rest) (suc o) ≡ order_at n rest o
unfolding order_at
later_order n o order rest e =
    let past : length order + o * n ≡ suc o * n = omega (arith, suc-mul o n) in
    rw (← past) (ap (take n) (drop-append-add order rest (o * n)))

pub written_permutation : (n m state o : ℕ) → o < m → Permutation n (order_at n (orders_from n m state) o)
unfolding orders_from
written_permutation n zero state o h = absurd (omega arith)
written_permutation n (suc m) state zero h =
    subst (Permutation n) (sym (first_order n (order_from n state) (orders_from n m (state_after (n - 1) state)) (order_length n state))) (order_permutation n state)
written_permutation n (suc m) state (suc o) h =
    subst (Permutation n) (sym (later_order n o (order_from n state) (orders_from n m (state_after (n - 1) state)) (order_length n state)))
    (written_permutation n m (state_after (n - 1) state) o (omega arith))

-- ---- what is accepted
pub orders_good : (n m : ℕ) (orders : List ℕ) → orders_outcome n orders ≡ done m → GoodOrders n orders m
unfolding orders_outcome
orders_good n m orders e =
    let count = order_count n (length orders) in
    let outer = unless_past (ltb 0 count) 8 0 _ m e in
    let inner = each_past 8 (λ o. permutes n (order_at n orders o)) 0 count (done count) m outer.1 in
    let same : count ≡ m = cc in
    let some : 0 < count = ltb-true 0 count outer.0 in
    record {
      some = omega arith;
      fills = count_fills n (length orders) m (sym same) (omega arith);
      permutation = λ o h.
          permutes_permutation n (order_at n orders o)
          (from_all (λ o. permutes n (order_at n orders o)) 0 count inner.0 o (omega arith) (omega arith));
    }

-- what was written is accepted
pub written_good : (n m state : ℕ) → 0 < m → (n ≡ 0 → m ≡ 1) → orders_outcome n (orders_from n m state) ≡ done m
unfolding first_bad_order
written_good n m state some one =
    sym (good_orders n m (orders_from n m state) (count_of n m some one ∙ ap (order_count n) (sym (orders_length n m state))) some
    (sym (first_end (λ o. permutes n (order_at n (orders_from n m state) o)) m m (λ o h. permutation_permutes n (order_at n (orders_from n m state) o) (written_permutation n m state o h)) refl)))

-- what `sweep_orders` writes is accepted, and so each of its orders is a permutation
module _ (words : List ℤ) (bases : List ℕ) (seed : ℕ) (before : List ℕ) (sizes : Sizes) (e : check_case_outcome words bases ≡ done sizes) (d : sweep_orders_outcome words bases before ≡ done tt) where
  pub swept_accepted : orders_outcome sizes.n (sweep_orders_written (decode words bases) seed before) ≡ done (order_count sizes.n (length before))
  unfolding sweep_orders_outcome sweep_orders_written
  swept_accepted =
      let m = order_count sizes.n (length before) in
      let parts = unless_past (ltb 0 m) 8 0 (done tt) tt (then_on _ _ sizes e ∙ d) in
      let some : 0 < m = ltb-true 0 m parts.0 in
      rw (variants_are (case_in words bases sizes e) bases)
      (written_good sizes.n m seed some (λ z. count_one (length before) m (ap (λ (k : ℕ). order_count k (length before)) z) some))

  pub swept_good : GoodOrders sizes.n (sweep_orders_written (decode words bases) seed before) (order_count sizes.n (length before))
  swept_good = orders_good sizes.n _ (sweep_orders_written (decode words bases) seed before) swept_accepted
