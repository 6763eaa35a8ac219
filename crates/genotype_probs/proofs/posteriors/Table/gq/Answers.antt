use Rattle.std.proofs.Common.{ap, ◌∙◌}
use Rattle.steps.specs.Logs.{Log}
use Rattle.steps.specs.Phred.{phred_of, capped}
use Rattle.genotype_probs.specs.Posteriors.{gq_of}
use Rattle.genotype_probs.proofs.posteriors.Table.gq.Goals as goal

pub returns : goal.returns
unfolding gq_of
returns c = c.capped_phred.ensures ∙ ap (λ (x : Log). capped (phred_of x)) c.other_sum.ensures.0
