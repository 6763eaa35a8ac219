-- Each is the value of a sum of rates below 0, and no sum wraps.
use Rattle.std.proofs.Common.{◌+◌, ◌<◌, ◌^◌, nat_abs, ap, ◌∙◌, arith, w64}
use Rattle.steps.proofs.Signed.{plus_fits, plus_read, add_abs}
use Rattle.genotype_probs.specs.declared.accepted.AcceptedRates.{AcceptedRates}
use Rattle.genotype_probs.specs.Rates.{het_snv_rate, het_indel_rate}
use Rattle.genotype_probs.specs.Priors.{one_minus_exp}
use Rattle.genotype_probs.proofs.RateLaws.{rates_in, rate_size, rate_below, below_sum, sum_small}
use Rattle.genotype_probs.proofs.table.Values.of.Goals as goal

small : (r : AcceptedRates) → nat_abs (het_snv_rate r.rates) + nat_abs (het_indel_rate r.rates) < 2 ^ 60
small r =
    let g = rates_in r.rates r.accepted in
    omega (arith, rate_size (het_snv_rate r.rates) g.het_snv, rate_size (het_indel_rate r.rates) g.het_indel)

pub overflow_add-six : goal.overflow_add-six
overflow_add-six c =
    let r = c.args.rates.rates in let h = small c.args.rates in plus_fits w64 (het_snv_rate r) (het_indel_rate r) (omega arith)

pub one_minus_exp-requires : goal.one_minus_exp-requires
one_minus_exp-requires c =
    let r = c.args.rates.rates in
    let g = rates_in r c.args.rates.accepted in
    let h = small c.args.rates in
    rw (plus_read w64 (het_snv_rate r) (het_indel_rate r) (omega arith))
    (omega (arith, add_abs (het_snv_rate r) (het_indel_rate r)), below_sum (het_snv_rate r) (het_indel_rate r) (rate_below (het_snv_rate r) g.het_snv) (rate_below (het_indel_rate r) g.het_indel))

pub rate_sum-requires : goal.rate_sum-requires
rate_sum-requires c =
    let g = rates_in c.args.rates.rates c.args.rates.accepted in (g.hom_snv, g.het_snv, g.hom_indel, g.het_indel)

pub one_minus_exp-requires-2 : goal.one_minus_exp-requires-2
one_minus_exp-requires-2 c =
    let r = c.args.rates in
    let g = rates_in r.rates r.accepted in
    let h = sum_small r.rates g in rw c.rate_sum.ensures (omega arith, g.sum_below)

pub invariant_of-result : goal.invariant_of-result
invariant_of-result c =
    let r = c.args.rates.rates in
    let h = small c.args.rates in
    record {
      haploid_is = c.one_minus_exp.ensures ∙ ap one_minus_exp (plus_read w64 (het_snv_rate r) (het_indel_rate r) (omega arith));
      diploid_is = c.one_minus_exp-2.ensures ∙ ap one_minus_exp c.rate_sum.ensures;
    }
