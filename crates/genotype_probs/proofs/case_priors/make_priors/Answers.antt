-- The table is that of the rates, so each place looked up in it is the prior.
use Rattle.std.proofs.Common.{◌*◌, ◌∙◌}
use Rattle.variants_and_fragments.specs.Decode.{decode}
use Rattle.variants_and_fragments.proofs.Written.{written_same}
use Rattle.genotype_probs.specs.Priors.{prior_at}
use Rattle.genotype_probs.specs.Inner.PriorTable.{table_prior_at}
use Rattle.genotype_probs.proofs.HeldPriors.{places_hold}
use Rattle.genotype_probs.proofs.case_priors.make_priors.Goals as goal

pub returns : goal.returns
returns c =
    let y = c.args.case.now in
    let case = decode y.laid.words.now y.bases.now in
    rw (c.with_alleles.ensures.0, c.with_alleles.ensures.1) at c.write_priors.ensures
    ∙ written_same (table_prior_at c.fill.new.self.bases case) (prior_at c.args.rates.rates case) (9 * y.laid.sizes.n) c.args.priors.now (λ p _. places_hold c.fill.ensures case p)
