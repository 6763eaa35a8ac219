-- 01, section 7, `var_filter`: the filter value of each variant. VCF's FILTER field: PASS (0 here) where all filters passed, else the
-- filters that failed.
-- Assumes nothing.
use Rattle.std.specs.Prelude.{Bool, false, not, cond, ◌&&◌, ◌||◌, List, ℕ, zero, suc, ◌+◌, leb, ltb, length, get_or, Float}
use Rattle.std.specs.Float.{nan}
use Rattle.std.specs.Float.Ieee.{lt}
use Rattle.var_filter.specs.declared.DensityParameters.{DensityParameters}
use Rattle.variants_and_fragments.specs.declared.VarFilter.{VarFilter}
use Rattle.variants_and_fragments.specs.declared.VarFilter.TheVariants.{Pass, Density, Depth, DensityAndDepth, StrandBias, DensityAndStrandBias, DepthAndStrandBias, DensityAndDepthAndStrandBias}
use Rattle.variants_and_fragments.specs.Case.{Case, variant_of}
use Rattle.variants_and_fragments.specs.Sums.{count_to}

-- p holds of one of 0..n−1
unfoldable pub any_below : ℕ → (ℕ → Bool) → Bool
any_below zero p = false
any_below (suc n) p = any_below n p || p n

-- of how many of 0..n−1 p holds
abbrev pub count_below : ℕ → (ℕ → Bool) → ℕ
count_below n p = count_to n (λ m. cond (p m) 1 0)

-- values 0 to 7 as in `VarFilter`: 1 density, 2 depth, 4 strand bias, joined by bits
abbrev pub filter_value : VarFilter → ℕ
filter_value Pass = 0
filter_value Density = 1
filter_value Depth = 2
filter_value DensityAndDepth = 3
filter_value StrandBias = 4
filter_value DensityAndStrandBias = 5
filter_value DepthAndStrandBias = 6
filter_value DensityAndDepthAndStrandBias = 7

-- all start at 0; a reason adds its bit
unfoldable pub joined_reasons : Bool → Bool → ℕ
joined_reasons dense deep = filter_value Pass + cond dense (filter_value Density) 0 + cond deep (filter_value Depth) 0

-- the numbers that the filter goes by: density_qual, density_dist, density_count and max_depth
pub record Limits : Type 0 where
  pub density_qual : Float
  pub density_dist : ℕ
  pub density_count : ℕ
  pub max_depth : ℕ

abbrev pub limits_of : DensityParameters → ℕ → Limits
limits_of density depth = record {
  density_qual = density.gq.0;
  density_dist = density.len;
  density_count = density.n;
  max_depth = depth;
}

-- variant v's qual is not below density_qual
unfoldable pub strong : List Float → Float → ℕ → Bool
strong quals density_qual v = not (lt (get_or quals v nan) density_qual)

module _ (case : Case) (quals : List Float) (limits : Limits) where
  -- m counts from i: a later variant with such a qual and at most density_dist away
  unfoldable pub counted : ℕ → ℕ → Bool
  counted i m =
      ltb i m && strong quals limits.density_qual m
      && leb (variant_of case m).pos0 ((variant_of case i).pos0 + limits.density_dist)

  -- counted from a variant i with such a qual, j brings the count above density_count
  unfoldable pub dense : ℕ → ℕ → Bool
  dense i j =
      strong quals limits.density_qual i && counted i j
      && ltb limits.density_count (count_below (suc j) (counted i))

  -- v lies in the stretch from i to j of some such i and j, weak ones between included
  unfoldable pub marked_dense : ℕ → Bool
  marked_dense v = any_below (suc v) (λ i. any_below (length case.variants) (λ j. leb v j && dense i j))

  -- a case dp above max_depth
  unfoldable pub too_deep : ℕ → Bool
  too_deep v = ltb limits.max_depth (variant_of case v).dp

  -- reasons joined by bits: 1 density, 2 depth
  unfoldable pub filter_of : ℕ → ℕ
  filter_of v = joined_reasons (marked_dense v) (too_deep v)
