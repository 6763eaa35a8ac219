-- The operation's own promise.
use Rattle.exports.proofs.Numbers.{exported, unit_numbers}
use Rattle.exports.proofs.phase.condorbed_given_phase.Goals as goal

pub returns : goal.returns
returns c = exported _ c.given_phase.ensures (unit_numbers _ c.from.ensures)
