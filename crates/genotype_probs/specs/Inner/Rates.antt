-- The place under 6, at which `Rates::accepted` refuses. Assumes nothing.
use Rattle.std.specs.Prelude.{ℕ}
use Rattle.variants_and_fragments.specs.First.{first_fail}
use Rattle.variants_and_fragments.specs.Refusals.{Outcome, done, each}
use Rattle.genotype_probs.specs.declared.Rates.{Rates}
use Rattle.genotype_probs.specs.Rates.{rate_test}

-- 7 where the rates are accepted
unfoldable pub rates_fault : Rates → ℕ
rates_fault rates = first_fail (rate_test rates) 7

-- number 6 alone
abbrev pub rates_outcome : Rates → Outcome Unit
rates_outcome rates = each 6 (rate_test rates) 0 7 (done tt)
