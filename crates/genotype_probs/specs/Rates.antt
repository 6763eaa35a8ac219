-- 01, section 3: the rates, and what refuses them (number 6).
-- Assumes nothing.
use Rattle.std.specs.Prelude.{Bool, true, List, [], ◌∷◌, ℕ, ℤ, pos, neg_ℤ, get_or}
use Rattle.std.specs.Int.Signed.{lt_z}
use Rattle.steps.specs.Logs.{sum_exp}
use Rattle.variants_and_fragments.specs.Words.{within}
use Rattle.variants_and_fragments.specs.Layout.{lowest_quality}
use Rattle.genotype_probs.specs.declared.Rates.{Rates}

-- 01, section 3: Rates: hom_snv, het_snv, hom_indel, het_indel, ts, tv
abbrev pub hom_snv_rate : Rates → ℤ
hom_snv_rate rates = rates.hom_snv.0

abbrev pub het_snv_rate : Rates → ℤ
het_snv_rate rates = rates.het_snv.0

abbrev pub hom_indel_rate : Rates → ℤ
hom_indel_rate rates = rates.hom_indel.0

abbrev pub het_indel_rate : Rates → ℤ
het_indel_rate rates = rates.het_indel.0

abbrev pub ts_rate : Rates → ℤ
ts_rate rates = rates.ts.0

abbrev pub tv_rate : Rates → ℤ
tv_rate rates = rates.tv.0

-- 01, section 3: each −262144..−1
unfoldable pub rate_ok : ℤ → Bool
rate_ok rate = within lowest_quality (neg_ℤ (pos 1)) rate

-- 01, section 3: `ln_sum_exp` of the first four (`rate_sum_lem` of proofs/RateLaws.antt)
unfoldable pub rate_sum : Rates → ℤ
rate_sum rates = sum_exp (hom_snv_rate rates) (het_snv_rate rates ∷ hom_indel_rate rates ∷ het_indel_rate rates ∷ [])

-- 01, section 3: the six ranges, and `ln_sum_exp` of the first four below 0
unfoldable pub rate_tests : Rates → List Bool
rate_tests rates =
    rate_ok (hom_snv_rate rates)
    ∷ rate_ok (het_snv_rate rates)
    ∷ rate_ok (hom_indel_rate rates)
    ∷ rate_ok (het_indel_rate rates)
    ∷ rate_ok (ts_rate rates)
    ∷ rate_ok (tv_rate rates)
    ∷ lt_z (rate_sum rates) (pos 0)
    ∷ []

-- 01, refusals: the place under 6 is rate 0..5, or 6 for the sum
unfoldable pub rate_test : Rates → ℕ → Bool
rate_test rates place = get_or (rate_tests rates) place true
