-- The rows of an accepted case, read by fragment, are its usable calls; and their ranges.
-- Assumes nothing.
use mathlib.Core.Path.{◌≡◌, refl, ap, ◌∙◌}
use mathlib.Core.List.{List, [], ◌∷◌, map}
use Prim.Native.Nat.{ℕ, zero, suc, ◌*◌, ◌≤◌, ◌<◌}
use native.Mathlib.Omega.{arith}
use lib.IntN.{ℤ}
use lib.ListN.{length}
use Rattle.steps.proofs.Signed.{cases}
use Rattle.variants_and_fragments.specs.declared.Sizes.{Sizes}
use Rattle.variants_and_fragments.specs.Case.{Call, fragment_of}
use Rattle.variants_and_fragments.specs.Inner.Accepted.{CaseIn}
use Rattle.variants_and_fragments.specs.Decode.{decode}
use Rattle.variants_and_fragments.specs.Pileup.{Row, row_of, usable_calls}
use Rattle.variants_and_fragments.specs.Inner.Pileup.{fragment_rows}
use Rattle.pileup.specs.Inner.Packed.{RowsIn, group_start, Grouped}
use Rattle.pileup.specs.Inner.Rows.{RowsMade}
use Rattle.pileup.proofs.Groups.{group_rows, group_in}
use Rattle.genotype_probs.proofs.ListLaws.{down_abs}
use Rattle.likelihoods.specs.Inner.Likelihoods.{row_call, calls_between, calls_of, CallsIn, EndsIn}

-- ---- ranges
-- the rows of the first g groups
groups_in : {n f m : ℕ} {group : ℕ → List Row} {ends words : List ℕ} → Grouped n f m group ends words → n ≤ 1024 → f ≤ 4096 → (g : ℕ) → g ≤ m → RowsIn n f words 0 (group_start ends g)
unfolding group_start
groups_in r hn hf zero h = record { few = omega arith; long = omega arith; rows_in = λ p l u. absurd (omega arith) }
groups_in {ends = ends} r hn hf (suc g) h = record {
  few = r.few g h;
  long = r.long g h;
  rows_in = λ p l u. cases p (group_start ends g) (λ k. (groups_in r hn hf g (omega arith)).rows_in p l k) (λ k. (group_in r hn hf g h).rows_in p k u);
}

row_calls : (f : ℕ) (cs : List Call) → map row_call (map (row_of f) cs) ≡ cs
row_calls f [] = refl
row_calls f (c ∷ cs) = ap (λ l. c ∷ l) (row_calls f cs)

-- ---- the rows of an accepted case
module _ {w : List ℤ} {s : Sizes} {rows ends ambiguous : List ℕ} {count : ℕ} (k : CaseIn w s) (made : RowsMade w s rows ends ambiguous count) where
  -- the calls of each fragment are its usable calls
  pub calls_are : (b : List ℕ) (f : ℕ) → f < s.f → calls_of rows ends f ≡ usable_calls (decode w b).cutoff (fragment_of (decode w b) f)
  unfolding calls_of calls_between fragment_rows
  calls_are b f h =
      ap (map row_call) (group_rows (made.grouped b) k.sized.n_top k.sized.f_top f h)
      ∙ row_calls f (usable_calls (decode w b).cutoff (fragment_of (decode w b) f))

  pub calls_in : (hap mask : List ℕ) → 2 * s.n ≤ length hap → s.n ≤ length mask → CallsIn rows (group_start ends s.f) hap mask
  calls_in hap mask l m =
      let r = groups_in (made.grouped []) k.sized.n_top k.sized.f_top s.f (omega arith) in
      record {
        count_top = r.few;
        long = r.long;
        pair_there = λ i h. omega (arith, (r.rows_in i (omega arith) h).variant_in);
        flag_there = λ i h. omega (arith, (r.rows_in i (omega arith) h).variant_in);
        qual_small = λ i h. down_abs 262144 _ (r.rows_in i (omega arith) h).qual_in;
        one_minus_qual_small = λ i h. down_abs 262144 _ (r.rows_in i (omega arith) h).one_minus_qual_in;
      }

  pub ends_in_order : EndsIn ends s.f
  ends_in_order = record { long = (made.grouped []).ends_long; rises = (made.grouped []).rises }
