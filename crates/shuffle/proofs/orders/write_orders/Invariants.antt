-- What stands before order o, and the orders from o on that the state gives, are the orders that are asked for. Assumes nothing.
use Rattle.std.proofs.Common.{◌≡◌, ◌-◌, ◌*◌, ◌++◌, take}
use Rattle.shuffle.specs.Orders.{orders_from}
use Rattle.shuffle.proofs.orders.write_orders.Given as goal

abbrev pub invariant-loop-o : goal.invariant-loop-o
invariant-loop-o l = take (l.o * l.n) l.orders ++ orders_from l.n (l.m - l.o) l.state ≡ orders_from l.n l.m l.seed
