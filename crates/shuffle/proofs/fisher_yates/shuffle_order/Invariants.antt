-- The swaps from position i − 1 down make the order that is asked for of the one that stands there, and the state that is asked for.
-- Assumes nothing.
use Rattle.std.proofs.Common.{◌≡◌, ◌-◌, length}
use Rattle.shuffle.specs.SplitMix.{state_after}
use Rattle.shuffle.specs.Orders.{swaps_down, order_from}
use Rattle.shuffle.proofs.fisher_yates.shuffle_order.Given as goal

abbrev pub invariant-loop-i : goal.invariant-loop-i
invariant-loop-i l = record {
  order : swaps_down (l.i - 1) l.order l.s ≡ order_from (length l.fn.order) l.fn.state;
  state : state_after (l.i - 1) l.s ≡ state_after (length l.fn.order - 1) l.fn.state;
}
