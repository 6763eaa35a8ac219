-- Each row of an accepted case is one of its fragments, at one of its variants, and in its ranges.
-- Assumes nothing.
use mathlib.Core.List.{List, map}
use Prim.Native.Nat.{ℕ, zero, suc, ◌+◌, ◌≤◌, ◌<◌}
use native.Mathlib.Omega.{arith}
use lib.IntN.{ℤ}
use Rattle.variants_and_fragments.specs.declared.Sizes.{Sizes}
use Rattle.variants_and_fragments.specs.Case.{usable}
use Rattle.variants_and_fragments.specs.Inner.Case.{All, end}
use Rattle.variants_and_fragments.specs.Layout.{cutoff_at, call_variant_at}
use Rattle.variants_and_fragments.specs.Chain.{chain_of}
use Rattle.variants_and_fragments.specs.Inner.Accepted.{CallIn, CaseIn}
use Rattle.variants_and_fragments.specs.Decode.{tabulate_from, call_from, fragment_from}
use Rattle.variants_and_fragments.specs.Pileup.{row_of, usable_calls, rows_from}
use Rattle.variants_and_fragments.proofs.Alls.{all_map, all_append}
use Rattle.variants_and_fragments.proofs.Readings.{quality_down}
use Rattle.variants_and_fragments.proofs.Only.{only_all}
use Rattle.variants_and_fragments.proofs.Visits.{chain_all}
use Rattle.pileup.specs.Inner.Packed.{RowIn}

module _ {w : List ℤ} {s : Sizes} (k : CaseIn w s) where
  pub row_in : (f r : ℕ) → f < s.f → CallIn w s r → RowIn s.n s.f (row_of f (call_from w s r))
  unfolding call_from
  row_in f r h c = record {
    fragment_in = h;
    variant_in = c.variant_in;
    allele_in = omega (arith, c.allele_in, (k.variants.each (call_variant_at w s r) c.variant_in).k_high);
    qual_in = quality_down _ c.qual_in;
    one_minus_qual_in = quality_down _ c.other_in;
  }

  -- the rows of fragment f
  pub own_in : (f : ℕ) → f < s.f → All (RowIn s.n s.f) (map (row_of f) (usable_calls (cutoff_at w) (fragment_from w s f)))
  unfolding usable_calls fragment_from
  own_in f h = all_map (row_of f) _ (only_all (usable (cutoff_at w) (fragment_from w s f)) (map (call_from w s) (chain_of w s f)) (chain_all w s (call_from w s) _ (λ r. row_in f r h) (chain_of w s f) (k.frags f h).calls))

  -- those of j fragments from f on
  pub from_in : (j f : ℕ) → f + j ≤ s.f → All (RowIn s.n s.f) (rows_from (cutoff_at w) f (tabulate_from (fragment_from w s) f j))
  unfolding rows_from tabulate_from
  from_in zero f h = end
  from_in (suc j) f h = all_append (own_in f (omega arith)) (from_in j (suc f) (omega arith))
