-- What `first_bad_order` and `check_orders` answer. Assumes nothing.
use Rattle.std.specs.Prelude.{ℕ, List, Result}
use Rattle.variants_and_fragments.specs.declared.Refusal.{Refusal}
use Rattle.variants_and_fragments.specs.First.{first_fail}
use Rattle.variants_and_fragments.specs.Refusals.{Outcome, answered}
use Rattle.shuffle.specs.Permutation.{permutes}
use Rattle.shuffle.specs.Orders.{order_at}

-- the first order that is no permutation; m where each is one
unfoldable pub first_bad_order : ℕ → List ℕ → ℕ → ℕ
first_bad_order n orders m = first_fail (λ o. permutes n (order_at n orders o)) m

-- the answer of the check of orders in 01's terms
abbrev pub checked_as : Result ℕ Refusal → Outcome ℕ
checked_as answer = answered (λ m. m) answer
