-- Each sweep of a slice of good orders goes by a permutation. Assumes nothing.
use mathlib.Core.List.{List}
use Prim.Native.Nat.{ℕ, ◌%◌}
use native.Mathlib.Nat.{mod-lt}
use Rattle.shuffle.specs.Permutation.{Permutation}
use Rattle.shuffle.specs.Inner.Orders.{GoodOrders}
use Rattle.call_genotypes.specs.Inner.Runs.{order_of}

pub order_good : (n m : ℕ) (orders : List ℕ) → GoodOrders n orders m → (s : ℕ) → Permutation n (order_of orders n m s)
unfolding order_of
order_good n m orders good s = good.permutation (s % m) (mod-lt s good.some)
