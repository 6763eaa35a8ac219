-- Orders that pass the check. Assumes nothing.
use Rattle.std.specs.Prelude.{◌≡◌, ℕ, ◌*◌, ◌<◌, List, length}
use Rattle.shuffle.specs.Permutation.{Permutation}
use Rattle.shuffle.specs.Orders.{order_at}

-- a slice of m orders, m not 0, each a permutation
pub record GoodOrders (n : ℕ) (orders : List ℕ) (m : ℕ) : Type 0 where
  pub some : 0 < m
  pub fills : m * n ≡ length orders
  pub permutation : (o : ℕ) → o < m → Permutation n (order_at n orders o)
