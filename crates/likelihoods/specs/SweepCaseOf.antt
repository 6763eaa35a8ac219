-- 01, section 6: the case of the sweeps that a decoded case gives. Assumes nothing.
use Rattle.std.specs.Prelude.{Bool, map, ℕ, length}
use Rattle.variants_and_fragments.specs.Case.{Case, allele_count, variant_of}
use Rattle.variants_and_fragments.specs.Pileup.{usable_calls}
use Rattle.genotype_probs.specs.declared.Rates.{Rates}
use Rattle.genotype_probs.specs.Priors.{get_prior}
use Rattle.sweeps.specs.Sweeps.{SweepCase}
use Rattle.steps.specs.Logs.{mix_of}

-- its variants with their k and their priors by the rates, the phased variants as given, and each read's usable calls
unfoldable pub sweep_case_of : Rates → (ℕ → Bool) → Case → SweepCase
sweep_case_of rates phased case = record {
  n = length case.variants;
  k = λ v. allele_count (variant_of case v);
  phased = phased;
  prior = λ v i j. get_prior rates (variant_of case v) i j;
  frags = map (usable_calls case.cutoff) case.fragments;
  mix = mix_of;
}
