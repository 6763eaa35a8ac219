-- What the walk collects is the case's: its rows, its piles and its ambiguous counts.
-- Assumes nothing.
use mathlib.Core.Path.{◌≡◌, refl, sym, ◌∙◌, ap}
use mathlib.Core.List.{List, [], ◌∷◌, ◌++◌, map, append_assoc, append-nil}
use Prim.Native.Nat.{ℕ, zero, suc, ◌+◌, ◌-◌, ◌≤◌, ◌<◌}
use native.Mathlib.Nat.{le_refl, sub-zero}
use native.Mathlib.Numerals.{add-one}
use native.Mathlib.Omega.{arith}
use lib.IntN.{ℤ}
use Rattle.variants_and_fragments.specs.declared.Sizes.{Sizes}
use Rattle.variants_and_fragments.specs.Case.{Fragment}
use Rattle.variants_and_fragments.specs.Layout.{cutoff_at}
use Rattle.variants_and_fragments.specs.Chain.{chain_of}
use Rattle.variants_and_fragments.specs.Decode.{tabulate_from, tabulate, fragment_from, decode}
use Rattle.variants_and_fragments.specs.Pileup.{Row, row_of, only, at_variant, usable_calls, rows_from, rows_of, pile_of, ambiguous_in, ambiguous_from, ambiguous_count}
use Rattle.variants_and_fragments.specs.Inner.Accepted.{CaseIn}
use Rattle.variants_and_fragments.proofs.Tabulated.{table_more, table_end}
use Rattle.pileup.specs.Inner.Packed.{Grouped}
use Rattle.pileup.specs.Inner.Collected.{nothing, collected_to, collected}
use Rattle.pileup.specs.Inner.Piles.{PilesMade}
use Rattle.pileup.proofs.Groups.{group_same}
use Rattle.pileup.proofs.Visiting.{collected_none, collected_on, pile_only, rows_along, ambiguous_along}

-- the fragments from f on
abbrev fragments_from : List ℤ → Sizes → ℕ → List Fragment
fragments_from w s f = tabulate_from (fragment_from w s) f (s.f - f)

-- the rows of fragment f, those of the fragments from f on, and all
abbrev pub own : List ℤ → Sizes → ℕ → List Row
own w s f = map (row_of f) (usable_calls (cutoff_at w) (fragment_from w s f))

abbrev pub left : List ℤ → Sizes → ℕ → List Row
left w s f = rows_from (cutoff_at w) f (fragments_from w s f)

abbrev pub all_rows : List ℤ → Sizes → List Row
all_rows w s = rows_from (cutoff_at w) 0 (tabulate s.f (fragment_from w s))

-- the ambiguous calls at v of the fragments from f on
abbrev ambiguous_left : List ℤ → Sizes → ℕ → ℕ → ℕ
ambiguous_left w s v f = ambiguous_from (cutoff_at w) v (fragments_from w s f)

module _ (w : List ℤ) (s : Sizes) where
  fragments_more : (f : ℕ) → f < s.f → fragments_from w s f ≡ fragment_from w s f ∷ fragments_from w s (suc f)
  fragments_more f l = table_more (fragment_from w s) s.f f l ∙ rw add-one refl

  pub left_more : (f : ℕ) → f < s.f → left w s f ≡ own w s f ++ left w s (suc f)
  unfolding rows_from
  left_more f h = ap (rows_from (cutoff_at w) f) (fragments_more f h)

  ambiguous_more : (v f : ℕ) → f < s.f → ambiguous_left w s v f ≡ ambiguous_in (cutoff_at w) v (fragment_from w s f) + ambiguous_left w s v (suc f)
  unfolding ambiguous_from
  ambiguous_more v f h = ap (ambiguous_from (cutoff_at w) v) (fragments_more f h)

  none_left : fragments_from w s s.f ≡ []
  none_left = table_end (fragment_from w s) s.f s.f (le_refl s.f)

  own_along : (f : ℕ) → (collected_to w s (suc f)).rows ≡ (collected_to w s f).rows ++ own w s f
  unfolding usable_calls fragment_from
  own_along f = rw (collected_on w s f) (rows_along w s f (collected_to w s f) (chain_of w s f))

  own_ambiguous : (v f : ℕ) → (collected_to w s (suc f)).ambiguous v ≡ (collected_to w s f).ambiguous v + ambiguous_in (cutoff_at w) v (fragment_from w s f)
  unfolding ambiguous_in fragment_from
  own_ambiguous v f = rw (collected_on w s f) (ambiguous_along w s f v (collected_to w s f) (chain_of w s f))

  -- with those of the fragments from f on, what the visits to those before give is all
  pub rows_to : (f : ℕ) → f ≤ s.f → (collected_to w s f).rows ++ left w s f ≡ all_rows w s
  unfolding nothing
  rows_to zero h = rw (collected_none w s, sub-zero) refl
  rows_to (suc f) h = rw (own_along f, append_assoc, ← left_more f h) (rows_to f (omega arith))

  ambiguous_to : (v f : ℕ) → f ≤ s.f → (collected_to w s f).ambiguous v + ambiguous_left w s v f ≡ ambiguous_from (cutoff_at w) v (tabulate s.f (fragment_from w s))
  unfolding nothing
  ambiguous_to v zero h = rw (collected_none w s, sub-zero) (omega arith)
  ambiguous_to v (suc f) h = omega (arith, own_ambiguous v f, ambiguous_more v f h, ambiguous_to v f (omega arith))

  pub all_collected : (collected w s).rows ≡ all_rows w s
  unfolding rows_from
  all_collected = sym (append-nil (collected w s).rows) ∙ rw none_left at (rows_to s.f (le_refl s.f))

  all_ambiguous : (v : ℕ) → (collected w s).ambiguous v ≡ ambiguous_from (cutoff_at w) v (tabulate s.f (fragment_from w s))
  unfolding ambiguous_from
  all_ambiguous v = let t = rw none_left at (ambiguous_to v s.f (le_refl s.f)) in omega (arith, t)

-- ---- an accepted case, whatever its bases
module _ {w : List ℤ} {s : Sizes} (k : CaseIn w s) (b : List ℕ) where
  pub rows_collected : (collected w s).rows ≡ rows_of (decode w b)
  unfolding rows_of decode
  rows_collected = all_collected w s ∙ ap (all_rows w) k.shape

  pub pile_collected : (v : ℕ) → (collected w s).pile v ≡ pile_of (decode w b) v
  unfolding pile_of
  pile_collected v = pile_only w s s.f v ∙ ap (only (at_variant v)) rows_collected

  pub ambiguous_collected : (v : ℕ) → (collected w s).ambiguous v ≡ ambiguous_count (decode w b) v
  unfolding ambiguous_count decode
  ambiguous_collected v = all_ambiguous w s v ∙ ap (λ (t : Sizes). ambiguous_from (cutoff_at w) v (tabulate t.f (fragment_from w t))) k.shape

  -- the piles are the case's
  pub piles_are : {ends piles : List ℕ} → PilesMade w s ends piles → Grouped s.n s.f s.n (pile_of (decode w b)) ends piles
  piles_are p = group_same pile_collected p.grouped
