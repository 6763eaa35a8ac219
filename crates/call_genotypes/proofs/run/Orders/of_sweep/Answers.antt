-- The part is there, and is the order. Assumes nothing.
use Rattle.std.proofs.Common.{arith}
use Rattle.call_genotypes.proofs.Running.{part_is}
use Rattle.call_genotypes.proofs.run.Orders.of_sweep.Goals as goal

pub returns : goal.returns
returns c = part_is _ _ _ _ _ (omega arith)
