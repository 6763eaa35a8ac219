-- The outcomes of the check of orders and of `sweep_orders`, by the tests that lead to them. Assumes nothing.
use Rattle.std.proofs.Common.{◌≡◌, ℕ, ◌<◌, ℤ, true, ltb, List, length, Ok, ap, ◌∙◌, arith, le-ltb, lt-ltb}
use Rattle.variants_and_fragments.specs.declared.laid.Case.{Case}
use Rattle.variants_and_fragments.specs.Check.{outcome_of, check_case_outcome}
use Rattle.variants_and_fragments.specs.First.{first_fail}
use Rattle.variants_and_fragments.specs.Refusals.{refused, done}
use Rattle.variants_and_fragments.proofs.Outcomes.{unless_on, unless_at, each_on, each_at, case_past}
use Rattle.shuffle.specs.Orders.{order_count}
use Rattle.shuffle.specs.Answers.{orders_outcome, sweep_orders_outcome}
use Rattle.shuffle.specs.Inner.Answers.{first_bad_order}

pub no_orders : (n : ℕ) (orders : List ℕ) → order_count n (length orders) ≡ 0 → refused 8 0 ≡ orders_outcome n orders
unfolding orders_outcome
no_orders n orders z = unless_at _ 8 0 _ (le-ltb 0 (order_count n (length orders)) (omega arith))

module _ (n m : ℕ) (orders : List ℕ) (e : m ≡ order_count n (length orders)) (some : 0 < m) where
  some_orders : ltb 0 (order_count n (length orders)) ≡ true
  some_orders = lt-ltb 0 (order_count n (length orders)) (omega arith)

  pub bad_order : (o : ℕ) → o < m → o ≡ first_bad_order n orders m → refused 8 o ≡ orders_outcome n orders
  unfolding orders_outcome first_bad_order first_fail
  bad_order o l f =
      let g : o ≡ first_bad_order n orders (order_count n (length orders)) = rw e at f in
      ap (refused 8) g ∙ each_at 8 _ 0 _ _ (omega (arith, e, g)) ∙ unless_on _ 8 0 _ some_orders

  pub good_orders : first_bad_order n orders m ≡ m → done m ≡ orders_outcome n orders
  unfolding orders_outcome first_bad_order first_fail
  good_orders f =
      let g : first_bad_order n orders (order_count n (length orders)) ≡ order_count n (length orders) = rw e at f in
      ap done e ∙ each_on 8 _ 0 _ _ (omega (arith, e, g)) ∙ unless_on _ 8 0 _ some_orders

-- past the check of the case
module _ (w : List ℤ) (b orders : List ℕ) (case : Case) (e : outcome_of (Ok case) ≡ check_case_outcome w b) where
  pub no_room : order_count case.laid.sizes.n (length orders) ≡ 0 → refused 8 0 ≡ sweep_orders_outcome w b orders
  unfolding sweep_orders_outcome
  no_room z = unless_at _ 8 0 _ (le-ltb 0 (order_count case.laid.sizes.n (length orders)) (omega arith)) ∙ case_past _ _ _ case e

  pub some_room : 0 < order_count case.laid.sizes.n (length orders) → done tt ≡ sweep_orders_outcome w b orders
  unfolding sweep_orders_outcome
  some_room h = unless_on _ 8 0 _ (lt-ltb 0 (order_count case.laid.sizes.n (length orders)) h) ∙ case_past _ _ _ case e
