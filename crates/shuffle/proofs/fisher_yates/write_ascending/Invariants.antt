-- The first i entries are written. Assumes nothing.
use Rattle.std.proofs.Common.{◌≡◌, take}
use Rattle.shuffle.specs.Orders.{ascending}
use Rattle.shuffle.proofs.fisher_yates.write_ascending.Given as goal

abbrev pub invariant-loop-i : goal.invariant-loop-i
invariant-loop-i l = take l.i l.order ≡ ascending l.i
