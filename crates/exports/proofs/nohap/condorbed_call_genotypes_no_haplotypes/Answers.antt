-- The operation's own promise.
use Rattle.exports.proofs.Numbers.{exported, unit_numbers}
use Rattle.exports.proofs.nohap.condorbed_call_genotypes_no_haplotypes.Goals as goal

pub returns : goal.returns
returns c = exported _ (rw c.into.ensures at c.call_genotypes_no_haplotypes.ensures) (unit_numbers _ c.from.ensures)
