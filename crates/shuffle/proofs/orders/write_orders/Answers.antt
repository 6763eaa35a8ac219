-- Each turn writes the next order and leaves the later ones to the state after it. Assumes nothing.
use Rattle.std.proofs.Common.{◌≡◌, ◌*◌, length, arith}
use Rattle.shuffle.proofs.Slices.{lent_length, before_length, write_start, write_more, write_end}
use Rattle.shuffle.proofs.orders.write_orders.Goals as goal

pub loop-o-init : goal.loop-o-init
loop-o-init c = write_start c.args.n c.args.m c.args.seed c.args.orders.now

pub loop-o-preserved : goal.loop-o-preserved
loop-o-preserved c =
    let l = c.loop-o in
    let filled : c.args.m * c.args.n ≡ length l.orders = omega arith in
    let long = lent_length c.args.n c.args.m l.o l.orders filled c.loop-o-test.true in
    write_more _ _ _ _ _ _ _ _ _ c.loop-o-test.true (before_length c.args.n c.args.m l.o l.orders filled c.loop-o-test.true)
    (rw long at c.shuffle_order-state.ensures.0)
    (rw long at c.shuffle_order-state.ensures.1)
    l.invariant

pub returns : goal.returns
returns c = write_end c.args.n c.args.m c.loop-o.o c.args.seed c.loop-o.state c.loop-o.orders (omega arith) (omega arith) c.loop-o.invariant
