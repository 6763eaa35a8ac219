-- The orders before o are permutations, and no mark is above o. Assumes nothing.
use Rattle.std.proofs.Common.{◌≡◌, ℕ, ◌<◌, ◌≤◌, true, All}
use Rattle.shuffle.specs.Permutation.{permutes}
use Rattle.shuffle.specs.Orders.{order_at}
use Rattle.shuffle.proofs.orders.first_bad_order.Given as goal

abbrev pub invariant-loop-o : goal.invariant-loop-o
invariant-loop-o l = record {
  top : All (λ x. x ≤ l.o) l.marks;
  good : (k : ℕ) → k < l.o → permutes l.n (order_at l.n l.orders k) ≡ true;
}
