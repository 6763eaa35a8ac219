-- The table's entries are the knots around d.
use Rattle.std.proofs.Common.{arith}
use Rattle.steps.specs.Knots.{T}
use Rattle.steps.proofs.Slope.{slope}
use Rattle.steps.proofs.Addends.{line, on_near}
use Rattle.steps.proofs.addend.addend.Goals as goal

pub line-requires : goal.line-requires
unfolding T
line-requires c =
    let g = slope c.min-k.result (omega arith) in rw c.table-t.ensures (omega arith, omega arith, omega arith)

pub returns : goal.returns
unfolding T line
returns c = cc (c.table-t.ensures, on_near c.args.d c.min-k.result (omega arith))
