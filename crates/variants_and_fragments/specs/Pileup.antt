-- 01, sections 4 and 6: the usable calls by fragment, and by variant.
-- Assumes nothing.
use Rattle.std.specs.Prelude.{Bool, not, cond, ◌&&◌, List, [], ◌∷◌, ◌++◌, map, ℕ, suc, ◌+◌, eqb, ℤ, length}
use Rattle.variants_and_fragments.specs.Case.{Case, Fragment, Call, usable}

-- those of a list of which p holds
unfoldable pub only : {X : Type 0} → (X → Bool) → List X → List X
only p [] = []
only p (x ∷ xs) = cond (p x) (x ∷ only p xs) (only p xs)

-- a call with the number of its fragment
pub record Row : Type 0 where
  pub fragment : ℕ
  pub call : Call

abbrev pub row_of : ℕ → Call → Row
row_of f call = record { fragment = f; call = call }

-- the usable calls of a fragment
unfoldable pub usable_calls : ℤ → Fragment → List Call
unfolding only
usable_calls cutoff fragment = only (usable cutoff fragment) fragment.calls

-- the usable calls of fragments that are numbered from f on, fragment after fragment
unfoldable pub rows_from : ℤ → ℕ → List Fragment → List Row
rows_from cutoff f [] = []
rows_from cutoff f (x ∷ xs) = map (row_of f) (usable_calls cutoff x) ++ rows_from cutoff (suc f) xs

unfoldable pub rows_of : Case → List Row
rows_of case = rows_from case.cutoff 0 case.fragments

abbrev pub at_variant : ℕ → Row → Bool
at_variant v row = eqb row.call.variant v

-- the usable calls at v, by rising fragment (`accepted_by_fragment` of proofs/ByFragment.antt)
unfoldable pub pile_of : Case → ℕ → List Row
pile_of case v = only (at_variant v) (rows_of case)

-- a call of a fragment is at v and not usable
abbrev pub ambiguous_at : ℤ → ℕ → Fragment → Call → Bool
ambiguous_at cutoff v fragment call = eqb call.variant v && not (usable cutoff fragment call)

-- how many calls at v a fragment has that are not usable
unfoldable pub ambiguous_in : ℤ → ℕ → Fragment → ℕ
ambiguous_in cutoff v fragment = length (only (ambiguous_at cutoff v fragment) fragment.calls)

unfoldable pub ambiguous_from : ℤ → ℕ → List Fragment → ℕ
ambiguous_from cutoff v [] = 0
ambiguous_from cutoff v (x ∷ xs) = ambiguous_in cutoff v x + ambiguous_from cutoff v xs

-- how many calls at v are not usable
unfoldable pub ambiguous_count : Case → ℕ → ℕ
ambiguous_count case v = ambiguous_from case.cutoff v case.fragments
