-- All variants of the words in their ranges. Assumes nothing.
use Rattle.std.specs.Prelude.{List, ℕ, ◌<◌, ℤ}
use Rattle.variants_and_fragments.specs.declared.Sizes.{Sizes}
use Rattle.variants_and_fragments.specs.Inner.Layout.{VariantIn}

-- each variant record is right
pub record VariantsIn (w : List ℤ) (s : Sizes) : Type 0 where
  pub each : (v : ℕ) → v < s.n → VariantIn w v
