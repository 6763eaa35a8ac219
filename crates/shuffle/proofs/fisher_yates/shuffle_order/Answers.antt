-- The loop begins at the definition, each turn is one line of it, and at position 0 nothing is left to swap. Assumes nothing.
use Rattle.std.proofs.Common.{◌≡◌, ◌-◌, arith}
use Rattle.shuffle.specs.SplitMix.{state_after}
use Rattle.shuffle.specs.Orders.{swaps_down, order_from}
use Rattle.shuffle.proofs.Swaps.{swaps_more, state_more}
use Rattle.shuffle.proofs.fisher_yates.shuffle_order.Goals as goal

pub loop-i-init : goal.loop-i-init
unfolding order_from
loop-i-init c = let n = c.write_ascending.auto.order in record { order = cc; state = cc }

pub loop-i-preserved : goal.loop-i-preserved
loop-i-preserved c =
    let l = c.loop-i in
    record { order = cc (swaps_more l.i l.order l.s (omega arith)); state = cc (state_more l.i l.s (omega arith)) }

pub returns : goal.returns
unfolding swaps_down state_after
returns c =
    let none : c.loop-i.i - 1 ≡ 0 = omega arith in
    (rw none at c.loop-i.invariant.order, rw none at c.loop-i.invariant.state)
