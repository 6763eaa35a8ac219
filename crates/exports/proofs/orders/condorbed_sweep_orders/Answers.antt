-- The operation's own promise.
use Rattle.exports.proofs.Numbers.{exported, unit_numbers}
use Rattle.exports.proofs.orders.condorbed_sweep_orders.Goals as goal

pub returns : goal.returns
returns c = exported _ c.sweep_orders.ensures (unit_numbers _ c.from.ensures)
