-- The operation's own promise.
use Rattle.exports.proofs.Numbers.{exported, unit_numbers}
use Rattle.exports.proofs.filter.condorbed_var_filter.Goals as goal

pub returns : goal.returns
returns c = exported _ (rw c.into.ensures at c.var_filter.ensures) (unit_numbers _ c.from.ensures)
