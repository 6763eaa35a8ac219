-- What C hands over by value, as the operations take it.
-- Assumes nothing.
use Rattle.std.specs.Prelude.{ℤ}
use Rattle.steps.specs.declared.LogProb.{LogProb}
use Rattle.genotype_probs.specs.declared.Rates as operation-rates
use Rattle.var_filter.specs.declared.DensityParameters as operation-density
use Rattle.exports.specs.declared.inputs.Rates.{Rates}
use Rattle.exports.specs.declared.inputs.DensityParameters.{DensityParameters}

abbrev pub log_prob : ℤ → LogProb
log_prob z = record { 0 = z }

abbrev pub rates_of : Rates → operation-rates.Rates
rates_of r = record {
  hom_snv = log_prob r.hom_snv;
  het_snv = log_prob r.het_snv;
  hom_indel = log_prob r.hom_indel;
  het_indel = log_prob r.het_indel;
  ts = log_prob r.ts;
  tv = log_prob r.tv;
}

abbrev pub density_of : DensityParameters → operation-density.DensityParameters
density_of d = record { n = d.n; len = d.len; gq = record { 0 = d.gq } }
