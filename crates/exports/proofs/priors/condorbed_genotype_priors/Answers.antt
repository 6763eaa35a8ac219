-- The operation's own promise.
use Rattle.exports.proofs.Numbers.{exported, unit_numbers}
use Rattle.exports.proofs.priors.condorbed_genotype_priors.Goals as goal

pub returns : goal.returns
returns c = exported _ (rw c.into.ensures at c.genotype_priors.ensures) (unit_numbers _ c.from.ensures)
