-- All muted fragments unmuted, one after the other: the check answers the same with every haplotypes, the free chain stays, and the words stand for the
-- unmuted case.
-- Assumes nothing.
use mathlib.Core.Path.{◌≡◌, refl, sym, ap, ◌∙◌, subst}
use mathlib.Core.Bool.{true, false}
use mathlib.Core.List.{List, [], map}
use Prim.Native.Nat.{ℕ, zero, suc, ◌≤◌, ◌<◌}
use native.Mathlib.Omega.{arith}
use native.Mathlib.Decide.{ℕ_discrete}
use lib.IntN.{ℤ}
use lib.ListN.{length, get_or, length-map, length-set, get_or-map}
use lib.Seq.{ext_get_or, get_or-set_same, get_or-set_other}
use Rattle.steps.proofs.Signed.{by_test}
use Rattle.variants_and_fragments.specs.declared.Sizes.{Sizes}
use Rattle.variants_and_fragments.specs.Case.{Case, Fragment, fragment_of, no_fragment, votes}
use Rattle.variants_and_fragments.specs.Chain.{strand_at, free_chain}
use Rattle.variants_and_fragments.specs.Check.{check_case_outcome, check_case_and_haplotypes_outcome}
use Rattle.variants_and_fragments.specs.Decode.{decode}
use Rattle.variants_and_fragments.specs.Layout.{sizes_of}
use Rattle.variants_and_fragments.specs.Refusals.{done}
use Rattle.variants_and_fragments.specs.Inner.Accepted.{CaseIn}
use Rattle.variants_and_fragments.proofs.Accepted.{Passed, passed, case_in}
use Rattle.variants_and_fragments.proofs.Decoded.{fragment_here, fragments_are, strand_is}
use Rattle.late_reads.specs.Values.{exchanged}
use Rattle.muted.specs.Unmuted.{unmuted, unmuted_case, fragment_unmuted, unmuted_to, unmuted_words}
use Rattle.muted.proofs.OneUnmuted.{decoded_one, free_one, checked_one}

-- a fragment that votes stays
pub voting_same : (x : Fragment) → votes x.strand ≡ true → unmuted x ≡ x
unfolding unmuted
voting_same x v = rw v

-- what stands past the end is none that is muted
pub unmuted_at : (xs : List Fragment) (g : ℕ) → get_or (map unmuted xs) g no_fragment ≡ unmuted (get_or xs g no_fragment)
unmuted_at xs g = ap (get_or (map unmuted xs) g) (sym (voting_same no_fragment refl)) ∙ get_or-map unmuted xs g no_fragment

-- the words v are w with the fragments below f unmuted
record Below (w : List ℤ) (b : List ℕ) (s : Sizes) (f : ℕ) (v : List ℤ) : Type 0 where
  checked : (h : List ℕ) → check_case_and_haplotypes_outcome v b h ≡ check_case_and_haplotypes_outcome w b h
  free_same : free_chain v s ≡ free_chain w s
  variants_same : (decode v b).variants ≡ (decode w b).variants
  cutoff_same : (decode v b).cutoff ≡ (decode w b).cutoff
  long : length (decode v b).fragments ≡ length (decode w b).fragments
  before : (g : ℕ) → g < f → fragment_of (decode v b) g ≡ unmuted (fragment_of (decode w b) g)
  later : (g : ℕ) → f ≤ g → fragment_of (decode v b) g ≡ fragment_of (decode w b) g

module _ (w : List ℤ) (b : List ℕ) (s : Sizes) (ok : check_case_outcome w b ≡ done s) where
  start : Below w b s 0 w
  start = record { checked = λ h. refl; free_same = refl; variants_same = refl; cutoff_same = refl; long = refl; before = λ g l. absurd (omega arith); later = λ g l. refl }

  -- one fragment more
  module _ (f : ℕ) (l : f < s.f) (v : List ℤ) (i : Below w b s f v) where
    accepted : check_case_outcome v b ≡ done s
    unfolding check_case_outcome
    accepted = i.checked [] ∙ ok

    k : CaseIn v s
    k = case_in v b s accepted

    -- it is the case's own fragment
    here : fragment_of (decode v b) f ≡ fragment_of (decode w b) f
    here = i.later f (omega arith)

    -- it votes
    voting_next : votes (strand_at v s f) ≡ true → Below w b s (suc f) (fragment_unmuted v s f)
    unfolding fragment_unmuted
    voting_next t =
        let still : unmuted (fragment_of (decode w b) f) ≡ fragment_of (decode w b) f = voting_same _ (rw (← here, strand_is k b f l) t) in
        rw t (record {
          checked = i.checked;
          free_same = i.free_same;
          variants_same = i.variants_same;
          cutoff_same = i.cutoff_same;
          long = i.long;
          before = λ g m. elim (ℕ_discrete g f) [ yes e ↦ rw e (here ∙ sym still) | no e ↦ i.before g (omega arith) ];
          later = λ g m. i.later g (omega arith);
        })

    -- it is muted
    muted_next : votes (strand_at v s f) ≡ false → Below w b s (suc f) (fragment_unmuted v s f)
    unfolding exchanged check_case_outcome
    muted_next t =
        let p = passed v b [] s accepted in
        let now : decode (fragment_unmuted v s f) b ≡ exchanged (decode v b) f (unmuted (fragment_of (decode w b) f)) =
        decoded_one k f l t b ∙ ap (λ x. exchanged (decode v b) f (unmuted x)) (sym (fragment_here k b f l) ∙ here) in
        let inside : f < length (decode v b).fragments = omega (arith, fragments_are k b) in
        record {
          checked = λ h. checked_one k f l t b h (subst (λ (z : Sizes). Passed v b [] z) (sym p.0) p.1) ∙ i.checked h;
          free_same = free_one k f l t ∙ i.free_same;
          variants_same = ap (λ (x : Case). x.variants) now ∙ i.variants_same;
          cutoff_same = ap (λ (x : Case). x.cutoff) now ∙ i.cutoff_same;
          long = ap (λ (x : Case). length x.fragments) now ∙ length-set (decode v b).fragments f _ ∙ i.long;
          before = λ g m. ap (λ (x : Case). fragment_of x g) now ∙ elim (ℕ_discrete g f) [
            | yes e ↦ rw e (get_or-set_same (decode v b).fragments f (unmuted (fragment_of (decode w b) f)) no_fragment inside)
            | no e ↦ get_or-set_other (decode v b).fragments f g (unmuted (fragment_of (decode w b) f)) no_fragment e ∙ i.before g (omega arith)
          ];
          later = λ g m. ap (λ (x : Case). fragment_of x g) now ∙ get_or-set_other (decode v b).fragments f g (unmuted (fragment_of (decode w b) f)) no_fragment (λ e. omega arith) ∙ i.later g (omega arith);
        }

    next : Below w b s (suc f) (fragment_unmuted v s f)
    next = by_test (votes (strand_at v s f)) voting_next muted_next

  below : (f : ℕ) → f ≤ s.f → Below w b s f (unmuted_to w s f)
  unfolding unmuted_to
  below zero l = start
  below (suc f) l = next f (omega arith) (unmuted_to w s f) (below f (omega arith))

  shape : s ≡ sizes_of w
  shape = (case_in w b s ok).shape

  all : Below w b s s.f (unmuted_words w)
  unfolding unmuted_words
  all = subst (λ (t : Sizes). Below w b s s.f (unmuted_to w t t.f)) shape (below s.f (omega arith))

  -- ---- of all fragments
  pub checked_unmuted : (h : List ℕ) → check_case_and_haplotypes_outcome (unmuted_words w) b h ≡ check_case_and_haplotypes_outcome w b h
  checked_unmuted = all.checked

  pub accepted_unmuted : check_case_outcome (unmuted_words w) b ≡ done s
  unfolding check_case_outcome
  accepted_unmuted = all.checked [] ∙ ok

  pub free_unmuted : free_chain (unmuted_words w) s ≡ free_chain w s
  free_unmuted = all.free_same

  fragments_unmuted : (decode (unmuted_words w) b).fragments ≡ map unmuted (decode w b).fragments
  fragments_unmuted =
      let xs = (decode w b).fragments in
      let ys = (decode (unmuted_words w) b).fragments in
      let n = fragments_are (case_in w b s ok) b in
      ext_get_or no_fragment ys (map unmuted xs) (all.long ∙ sym (length-map xs unmuted)) (λ g m.
      let inside : g < s.f = omega (arith, all.long) in
      all.before g inside ∙ sym (unmuted_at xs g))

  pub decoded_unmuted : decode (unmuted_words w) b ≡ unmuted_case (decode w b)
  unfolding unmuted_case
  decoded_unmuted = same_case (decode (unmuted_words w) b) (decode w b) all.variants_same fragments_unmuted all.cutoff_same
    where
      same_case : (x y : Case) → x.variants ≡ y.variants → x.fragments ≡ map unmuted y.fragments → x.cutoff ≡ y.cutoff → x ≡ unmuted_case y
      same_case x y e m c = rw (← e, ← m, ← c)
