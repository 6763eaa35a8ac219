-- The entry is no mark.
use Rattle.std.proofs.Common.{get_or, pos, ap, ◌∙◌, arith}
use Rattle.steps.specs.Logs.{Log}
use Rattle.steps.specs.Inner.Logs.{size}
use Rattle.steps.specs.Phred.{phred_of, capped}
use Rattle.steps.proofs.Marks.{size_steps}
use Rattle.genotype_probs.specs.Posteriors.{qual_of}
use Rattle.genotype_probs.proofs.TableSizes.{read_finite}
use Rattle.genotype_probs.proofs.posteriors.qual_of.Goals as goal

pub capped_phred-requires : goal.capped_phred-requires
capped_phred-requires c =
    let z = get_or c.args.post.now 0 (pos 0) in omega (arith, ap size (read_finite z c.requires.1), size_steps z)

pub returns : goal.returns
unfolding qual_of
returns c =
    let z = get_or c.args.post.now 0 (pos 0) in c.capped_phred.ensures ∙ ap (λ (x : Log). capped (phred_of x)) (read_finite z c.requires.1)
