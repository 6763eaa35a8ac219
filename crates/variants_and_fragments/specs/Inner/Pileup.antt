-- The rows of one fragment. Assumes nothing.
use Rattle.std.specs.Prelude.{List, map, ℕ}
use Rattle.variants_and_fragments.specs.Case.{Case, fragment_of}
use Rattle.variants_and_fragments.specs.Pileup.{Row, row_of, usable_calls}

-- the usable calls of fragment f
unfoldable pub fragment_rows : Case → ℕ → List Row
fragment_rows case f = map (row_of f) (usable_calls case.cutoff (fragment_of case f))
