-- Request 2: what the walk along the chains collects, as a fold over its visits.
-- Assumes nothing.
use Rattle.std.specs.Prelude.{◌≡◌, cond, List, [], ◌∷◌, ◌++◌, map, ℕ, suc, ◌<◌, ℤ, eqb, length, take, get_or}
use Rattle.variants_and_fragments.specs.declared.Sizes.{Sizes}
use Rattle.variants_and_fragments.specs.Case.{usable}
use Rattle.variants_and_fragments.specs.Layout.{cutoff_at}
use Rattle.variants_and_fragments.specs.Decode.{call_from, fragment_from}
use Rattle.variants_and_fragments.specs.Pileup.{Row, row_of, at_variant}
use Rattle.variants_and_fragments.specs.Visits.{Visit, visits_from}
use Rattle.variants_and_fragments.specs.Inner.Fold.{fold}
use Rattle.pileup.specs.Inner.Packed.{packed}

-- the usable calls in the order in which the walk met them, those at each variant in the same order, and how many calls at each variant are
-- ambiguous
pub record Collected : Type 0 where
  pub rows : List Row
  pub pile : ℕ → List Row
  pub ambiguous : ℕ → ℕ

unfoldable pub nothing : Collected
nothing = record { rows = []; pile = λ v. []; ambiguous = λ v. 0 }

-- a usable call comes after the rows and after those of its variant's pile
unfoldable pub with_row : Collected → Row → Collected
with_row c row = record { rows = c.rows ++ (row ∷ []); pile = λ v. cond (at_variant v row) (c.pile v ++ (row ∷ [])) (c.pile v); ambiguous = c.ambiguous }

-- an ambiguous one at u is counted there
unfoldable pub with_ambiguous : Collected → ℕ → Collected
with_ambiguous c u = record { rows = c.rows; pile = c.pile; ambiguous = λ v. cond (eqb u v) (suc (c.ambiguous v)) (c.ambiguous v) }

-- one visit
unfoldable pub collect : List ℤ → Sizes → Collected → Visit → Collected
collect w s c x =
    let call = call_from w s x.number in
    cond (usable (cutoff_at w) (fragment_from w s x.fragment) call) (with_row c (row_of x.fragment call)) (with_ambiguous c call.variant)

-- what the visits to the fragments below f give, and those to all
unfoldable pub collected_to : List ℤ → Sizes → ℕ → Collected
collected_to w s f = fold (collect w s) nothing (visits_from w s 0 f)

abbrev pub collected : List ℤ → Sizes → Collected
collected w s = collected_to w s s.f

-- ---- slices that hold it
-- `rows` starts with the words of its rows, count in all
pub record RowsHeld (c : Collected) (count : ℕ) (rows : List ℕ) : Type 0 where
  pub count_is : count ≡ length c.rows
  pub words_are : take count rows ≡ map packed c.rows

-- the number of each variant, as far as the slice goes
pub record Counted (number : ℕ → ℕ) (a : List ℕ) : Type 0 where
  pub at : (v : ℕ) → v < length a → get_or a v 0 ≡ number v

-- how many calls each pile has
abbrev pub pile_size : Collected → ℕ → ℕ
pile_size c v = length (c.pile v)

pub record Holds (c : Collected) (count : ℕ) (rows counts ambiguous : List ℕ) : Type 0 where
  pub rows_held : RowsHeld c count rows
  pub piles_counted : Counted (pile_size c) counts
  pub ambiguous_counted : Counted c.ambiguous ambiguous
