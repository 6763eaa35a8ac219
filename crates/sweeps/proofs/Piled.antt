-- The pile of a variant, as variants_and_fragments defines it, is the pileup over the usable calls of each fragment. Assumes nothing.
use mathlib.Core.Path.{◌≡◌, refl, ap, ◌∙◌}
use mathlib.Core.Bool.{Bool, true, false, cond}
use mathlib.Core.List.{List, [], ◌∷◌, map}
use Prim.Native.Nat.{ℕ, suc}
use lib.Dec.{eqb}
use lib.IntN.{ℤ}
use Rattle.variants_and_fragments.specs.Case.{Case, Call, Fragment}
use Rattle.variants_and_fragments.specs.Pileup.{only, row_of, usable_calls, rows_from, rows_of, at_variant, pile_of}
use Rattle.variants_and_fragments.proofs.Only.{only_append}
use Rattle.sweeps.specs.Inner.Incremental.{rows_within, pileup_from}

only_rows : (v f : ℕ) (cs : List Call) → only (at_variant v) (map (row_of f) cs) ≡ rows_within v f cs
unfolding only rows_within
only_rows v f [] = refl
only_rows v f (c ∷ cs) = go (eqb c.variant v) (only_rows v f cs)
  where
    go : (b : Bool) → only (at_variant v) (map (row_of f) cs) ≡ rows_within v f cs
        → cond b (row_of f c ∷ only (at_variant v) (map (row_of f) cs)) (only (at_variant v) (map (row_of f) cs)) ≡ cond b (row_of f c ∷ rows_within v f cs) (rows_within v f cs)
    go true e = ap (λ l. row_of f c ∷ l) e
    go false e = e

pile_from : (cutoff : ℤ) (v f : ℕ) (fs : List Fragment) → only (at_variant v) (rows_from cutoff f fs) ≡ pileup_from v f (map (usable_calls cutoff) fs)
unfolding rows_from pileup_from only
pile_from cutoff v f [] = refl
pile_from cutoff v f (x ∷ xs) =
    only_append (at_variant v) (map (row_of f) (usable_calls cutoff x)) (rows_from cutoff (suc f) xs)
    ∙ cc (only_rows v f (usable_calls cutoff x), pile_from cutoff v (suc f) xs)

pub pile_is : (case : Case) (v : ℕ) → pile_of case v ≡ pileup_from v 0 (map (usable_calls case.cutoff) case.fragments)
unfolding pile_of rows_of
pile_is case v = pile_from case.cutoff v 0 case.fragments
