-- 01, section 7 and the table of refusals: what `var_filter` answers, and the filters that it leaves.
-- Assumes nothing.
use Rattle.std.specs.Prelude.{List, [], ◌∷◌, ℕ, ℤ, length, Float}
use Rattle.std.specs.Float.{float_is_finite}
use Rattle.variants_and_fragments.specs.Case.{Case}
use Rattle.variants_and_fragments.specs.Refusals.{Outcome, done, and_then, unless, long_enough, Promise}
use Rattle.variants_and_fragments.specs.Check.{check_case_outcome}
use Rattle.variants_and_fragments.specs.Decode.{decode}
use Rattle.variants_and_fragments.specs.Written.{written}
use Rattle.var_filter.specs.Filter.{Limits, filter_of}

-- 1 to 5, the case; 10, N elements of quals and of filters; 11 at 0, density_qual not finite
unfoldable pub var_filter_outcome : List ℤ → List ℕ → List Float → Limits → List ℕ → Outcome Unit
var_filter_outcome w b quals limits before =
    and_then (check_case_outcome w b) (λ s.
    long_enough ((s.n, length quals) ∷ (s.n, length before) ∷ [])
    (unless (float_is_finite limits.density_qual) 11 0
    (done tt)))

-- a value per variant
unfoldable pub var_filter_written : Case → List Float → Limits → List ℕ → List ℕ
var_filter_written case quals limits before = written (filter_of case quals limits) (length case.variants) before

-- the promise, of the filters lent
abbrev pub VarFiltered : List ℤ → List ℕ → List Float → Limits → List ℕ → Outcome Unit → List ℕ → Type 0
VarFiltered w b quals limits before answer after =
    Promise (var_filter_outcome w b quals limits before) (var_filter_written (decode w b) quals limits before) before answer after
