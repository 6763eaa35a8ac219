-- The tests of an arrival: what it says that none stops, and that of an accepted case they are those of the definition.
-- Assumes nothing.
use mathlib.Core.Path.{◌≡◌, refl, sym, ap}
use mathlib.Core.Bool.{Bool, true, false, not, ◌&&◌, ◌||◌}
use mathlib.Core.List.{List}
use Prim.Native.Nat.{ℕ, ◌*◌, ◌<◌}
use native.Mathlib.Omega.{arith}
use native.Mathlib.Decide.{dec_le}
use borrow.Author.Tests.{leb-true, ltb-true, eqb-true, le-leb, lt-leb, lt-ltb, le-ltb}
use lib.Dec.{eqb, ltb, leb, lit<}
use lib.IntN.{ℤ, pos}
use lib.ListN.{length}
use Rattle.variants_and_fragments.specs.declared.Sizes.{Sizes}
use Rattle.variants_and_fragments.specs.Case.{Fragment, fragment_of}
use Rattle.variants_and_fragments.specs.Chain.{present_at}
use Rattle.variants_and_fragments.specs.Layout.{max_strand}
use Rattle.variants_and_fragments.specs.Decode.{decode, fragment_from}
use Rattle.variants_and_fragments.specs.Refusals.{done}
use Rattle.variants_and_fragments.specs.Words.{nat_of, within}
use Rattle.variants_and_fragments.specs.Inner.Accepted.{CaseIn}
use Rattle.variants_and_fragments.proofs.Bools.{both, and_when, not_on}
use Rattle.variants_and_fragments.proofs.Decoded.{fragment_here}
use Rattle.variants_and_fragments.proofs.First.{from_all}
use Rattle.variants_and_fragments.proofs.Outcomes.{unless_past, each_past}
use Rattle.variants_and_fragments.proofs.Ranges.{upto_nat}
use Rattle.late_reads.specs.Arriving.{arriving_words, whole_calls}
use Rattle.late_reads.specs.LateReads.{LateInput, arriving_outcome}
use Rattle.late_reads.specs.Inner.Ready.{Arriving, arriving_tests}

-- ---- the length and the strand, as the code tests them
not_over : (m x : ℕ) → leb x m ≡ not (ltb m x)
not_over m x = elim (dec_le x m) [
  | yes h ↦ rw (le-leb x m h, le-ltb m x h)
  | no h ↦ let l : m < x = omega arith in rw (lt-leb x m l, lt-ltb m x l)
]

pub length_and_strand : (l k : ℕ) (z : ℤ) → (eqb l k && within (pos 0) (pos max_strand) z) ≡ not (not (eqb l k) || ltb max_strand (nat_of z))
length_and_strand l k z = rw (upto_nat max_strand z (lit< tt), not_over max_strand (nat_of z)) (go (eqb l k) (ltb max_strand (nat_of z)))
  where
    go : (a b : Bool) → (a && not b) ≡ not (not a || b)
    go true b = refl
    go false b = refl

-- ---- past the tests
pub tests_past : (w : List ℤ) (s t : Sizes) (f : ℕ) (strand : ℤ) (calls : List ℤ) → arriving_tests w s f strand calls ≡ done t → (s ≡ t) × Arriving w s f strand calls
unfolding arriving_tests
tests_past w s t f strand calls ok =
    let h1 = each_past 4 _ 0 _ _ t ok in
    let h2 = each_past 5 _ 0 _ _ t h1.1 in
    let h3 = unless_past _ 5 _ _ t h2.1 in
    let h4 = unless_past _ 13 _ _ t h3.1 in
    let h5 = unless_past _ 14 _ _ t h4.1 in
    let a = both (eqb (length calls) (arriving_words * whole_calls calls)) (within (pos 0) (pos max_strand) strand) h3.0 in
    let b = both (ltb f s.f) (not (present_at w s f)) h4.0 in
    let e : s ≡ t = cc in (
      e,
      record {
        each_in = λ i l. from_all _ 0 _ h1.0 i (omega arith) (omega arith);
        each_rises = λ i l. from_all _ 0 _ h2.0 i (omega arith) (omega arith);
        whole = eqb-true _ _ a.0;
        strand_in = a.1;
        below = ltb-true _ _ b.0;
        absent = not_on _ b.1;
        fits = leb-true _ _ h5.0;
      },
    )

-- ---- the tests of the words are those of the case
module _ {w : List ℤ} {s : Sizes} (k : CaseIn w s) (b : List ℕ) where
  pub present_is : (f : ℕ) → f < s.f → (fragment_of (decode w b) f).present ≡ present_at w s f
  unfolding fragment_from
  present_is f h = ap (λ (x : Fragment). x.present) (fragment_here k b f h)

module _ (input : LateInput) (s : Sizes) (k : CaseIn input.words s) where
  pub tests_are : (f : ℕ) (strand : ℤ) (calls : List ℤ) → arriving_tests input.words s f strand calls ≡ arriving_outcome input f strand calls s
  unfolding arriving_tests arriving_outcome
  tests_are f strand calls =
      let e = and_when (ltb f s.f) (not (present_at input.words s f)) (not (fragment_of (decode input.words input.bases) f).present) (λ l. ap not (sym (present_is k input.bases f (ltb-true f s.f l)))) in
      rw e
