-- The code's table is what the definition computes.
use Rattle.steps.specs.Table.{knots}
use Rattle.steps.specs.Knots.{T}
use Rattle.steps.proofs.LineTable.{up_from, down_to, walked, lines_walked}
use Rattle.steps.proofs.one_plus.lines.Goals as goal

pub returns : goal.returns
unfolding walked up_from down_to T knots
returns c = rw lines_walked
