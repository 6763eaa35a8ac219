-- The check with no haplotypes.
use Rattle.variants_and_fragments.specs.Check.{check_case_outcome}
use Rattle.variants_and_fragments.proofs.check_case.Goals as goal

pub returns-clause-outcome : goal.returns-clause-outcome
unfolding check_case_outcome
returns-clause-outcome c = c.check_case_and_haplotypes.ensures.outcome
