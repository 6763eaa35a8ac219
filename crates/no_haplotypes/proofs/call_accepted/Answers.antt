-- The piles, the priors, and the variants called from both.
use Rattle.std.proofs.Common.{◌≡◌, length, replicate, pos, rules}
use Rattle.no_haplotypes.proofs.Calling.{priors_in, accepted_called}
use Rattle.no_haplotypes.proofs.call_accepted.Goals as goal

pub call_variants-requires-clause-priors_in : goal.call_variants-requires-clause-priors_in
call_variants-requires-clause-priors_in c =
    let y = c.args.case.now in
    let long : length (replicate 9216 (pos 0)) ≡ 9216 = search rules in
    rw c.accepted_words-accepted.ensures (priors_in y.bases.now c.args.rates.rates _ _ y.case_in c.args.rates.accepted long c.make_priors.ensures)

pub returns : goal.returns
returns c =
    let y = c.args.case.now in
    let long : length (replicate 9216 (pos 0)) ≡ 9216 = search rules in
    accepted_called y.bases.now c.args.rates.rates _ _ y.case_in c.args.rates.accepted long c.make_priors.ensures (rw c.accepted_words-accepted.ensures at c.call_variants.ensures)
