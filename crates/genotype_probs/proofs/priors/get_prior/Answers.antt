-- The table's value of what two comparisons left.
use Rattle.std.proofs.Common.{◌∙◌}
use Rattle.genotype_probs.proofs.Comparisons.{lookup_is}
use Rattle.genotype_probs.proofs.priors.get_prior.Goals as goal

pub returns : goal.returns
returns c =
    c.value.ensures
    ∙ lookup_is c.args.table.now.bases c.args.reference.bases.now c.args.first.bases.now c.args.second.bases.now c.of-base.result c.compare-one.result c.compare-two.result c.of-base.ensures c.compare-one.ensures c.compare-two.ensures
