-- The elements at which a call counts: two of its variant's ten where it is usable, one where it is not. `counted` asks this of an element by
-- its quotient and remainder by 10; here the two are tied, once. So `count_call` adds d just where the call counts, and `call_fits` says that
-- what stands there would be in range with d more.
-- Assumes nothing.
use mathlib.Core.Path.{◌≡◌, refl, sym, ap, ◌∙◌}
use mathlib.Core.Bool.{Bool, true, false, cond, ◌&&◌, ◌||◌}
use mathlib.Core.Logic.{◌⊎◌, inl, inr, ⊎_elim}
use mathlib.Core.List.{List}
use Prim.Native.Nat.{ℕ, ◌+◌, ◌*◌, ◌/◌, ◌%◌, ◌^◌, ◌≤◌, ◌<◌}
use native.Mathlib.Decide.{ℕ_discrete}
use native.Mathlib.Omega.{arith}
use borrow.Author.Tests.{eq-eqb, ne_eqb, eqb-true, lt-ltb, le-ltb, ltb-true}
use lib.Dec.{eqb, ltb}
use lib.IntN.{ℤ, pos, negsuc, nat_abs, ◌+ℤ◌, +ℤ_idr}
use lib.ListN.{length, get_or, length-set}
use mir.Syntax.{w32}
use mir.Val.{SFits, to_z, of_z, hbits}
use lib.Seq.{get_or-set_same, get_or-set_other}
use Rattle.steps.proofs.Signed.{by_test, true_false, plus_fits, plus_read}
use Rattle.variants_and_fragments.specs.Case.{Fragment, Call, direction, usable}
use Rattle.variants_and_fragments.specs.Words.{within}
use Rattle.variants_and_fragments.proofs.Bools.{both}
use Rattle.variants_and_fragments.proofs.Ranges.{within_top}
use Rattle.late_reads.specs.declared.counts.CountedCall.{CountedCall}
use Rattle.late_reads.specs.Values.{max_count, counted}
use Rattle.std.proofs.Common.{Option, None, Some}
use Rattle.late_reads.specs.Inner.Counting.{places, add_at, allele_place, strand_place, ambiguous_place, count_call, fits_at, call_fits, CountsIn, Countable, counted_call}

-- a call of read x counts at element e
abbrev pub counts_at : ℤ → Fragment → ℕ → Call → Bool
counts_at cutoff x e call = eqb call.variant (e / 10) && counted cutoff x (e % 10) call

-- ---- one element
count_small : (z : ℤ) → within (pos 0) (pos max_count) z ≡ true → nat_abs z ≤ max_count
unfolding within
count_small (pos n) h = within_top 0 max_count (pos n) h
count_small (negsuc n) h = true_false h refl

-- a count and d do not wrap
module _ {counts : List ℤ} {e : ℕ} {d : ℤ} (c : CountsIn counts e d) where
  small : nat_abs (get_or counts e (pos 0)) + nat_abs d < 2 ^ hbits w32
  small =
      let z = count_small (get_or counts e (pos 0)) c.ranged in
      omega (arith, c.one)

  pub sum_fits : SFits w32 (to_z w32 (of_z w32 (get_or counts e (pos 0))) +ℤ to_z w32 (of_z w32 d))
  sum_fits = plus_fits w32 (get_or counts e (pos 0)) d small

  pub sum_read : to_z w32 (of_z w32 (to_z w32 (of_z w32 (get_or counts e (pos 0))) +ℤ to_z w32 (of_z w32 d))) ≡ get_or counts e (pos 0) +ℤ d
  sum_read = plus_read w32 (get_or counts e (pos 0)) d small

some_none : {e : ℕ} → Some e ≡ None → ⊥
some_none q = cc

some_is : {e k : ℕ} → Some e ≡ Some k → e ≡ k
some_is q = cc

added_same : (d : ℤ) (e : ℕ) (counts : List ℤ) → e < length counts → get_or (add_at d e counts) e (pos 0) ≡ get_or counts e (pos 0) +ℤ d
added_same d e counts h = get_or-set_same counts e (get_or counts e (pos 0) +ℤ d) (pos 0) h

added_other : (d : ℤ) (p e : ℕ) (counts : List ℤ) → (e ≡ p → ⊥) → get_or (add_at d p counts) e (pos 0) ≡ get_or counts e (pos 0)
added_other d p e counts n = get_or-set_other counts p e (get_or counts p (pos 0) +ℤ d) (pos 0) n

pub count_length : (d : ℤ) (call : CountedCall) (counts : List ℤ) → length (count_call d call counts) ≡ length counts
unfolding count_call
count_length d call counts = by_test call.usable (λ u. rw u (simp length-set)) (λ u. rw u (simp length-set))

-- ---- the places of a call
module _ (call : CountedCall) {p : ℕ × Option ℕ} (is : p ≡ places call) where
  one_place : p.1 ≡ None → (call.usable ≡ false) × (p.0 ≡ ambiguous_place call)
  unfolding places
  one_place none =
      by_test call.usable
      (λ u. let q : Some (strand_place call) ≡ None = sym (ap (λ (x : ℕ × Option ℕ). x.1) (rw u at is)) ∙ none in absurd (some_none q))
      (λ u. (u, ap (λ (x : ℕ × Option ℕ). x.0) (rw u at is)))

  module _ {e : ℕ} (some : p.1 ≡ Some e) where
    two_places : (call.usable ≡ true) × (p.0 ≡ allele_place call) × (e ≡ strand_place call)
    unfolding places
    two_places =
        by_test call.usable
        (λ u.
        let q : Some e ≡ Some (strand_place call) = sym some ∙ ap (λ (x : ℕ × Option ℕ). x.1) (rw u at is) in
        (u, ap (λ (x : ℕ × Option ℕ). x.0) (rw u at is), some_is q))
        (λ u. let q : Some e ≡ None = sym some ∙ ap (λ (x : ℕ × Option ℕ). x.1) (rw u at is) in absurd (some_none q))

    pub fits_two : (d : ℤ) (counts : List ℤ) → fits_at d p.0 counts && fits_at d e counts ≡ call_fits d call counts
    unfolding call_fits
    fits_two d counts = let t = two_places in rw (t.0, t.1, t.2)

    pub counted_two : (d : ℤ) (counts : List ℤ) → add_at d e (add_at d p.0 counts) ≡ count_call d call counts
    unfolding count_call
    counted_two d counts = let t = two_places in rw (t.0, t.1, t.2)

  pub fits_one : p.1 ≡ None → (d : ℤ) (counts : List ℤ) → fits_at d p.0 counts ≡ call_fits d call counts
  unfolding call_fits
  fits_one none d counts = let t = one_place none in rw (t.0, t.1)

  pub counted_one : p.1 ≡ None → (d : ℤ) (counts : List ℤ) → add_at d p.0 counts ≡ count_call d call counts
  unfolding count_call
  counted_one none d counts = let t = one_place none in rw (t.0, t.1)

  -- they may be counted
  module _ {counts : List ℤ} {d : ℤ} (c : Countable counts d call) where
    pub first_at : CountsIn counts p.0 d
    unfolding places
    first_at =
        by_test call.usable
        (λ u. rw (rw u at is) (c.each_in call.allele (omega (arith, c.allele_in))))
        (λ u. rw (rw u at is) (c.each_in 9 (omega arith)))

    module _ {e : ℕ} (some : p.1 ≡ Some e) where
      pub second_at : CountsIn counts e d
      second_at =
          let k : 10 * call.variant + (3 * (1 + direction call.strand) + call.allele) ≡ e = omega (arith, (two_places some).2) in
          rw k at (c.each_in (3 * (1 + direction call.strand) + call.allele) (omega (arith, c.allele_in)))

      -- the first store leaves the second place as it is
      pub second_next : CountsIn (add_at d p.0 counts) e d
      second_next =
          let t = two_places some in
          record {
            there = rw length-set second_at.there;
            ranged = rw (added_other d p.0 e counts (λ q. omega (arith, c.allele_in, t.1, t.2))) second_at.ranged;
            one = second_at.one;
          }

-- ---- where a call of read x counts
module _ (cutoff : ℤ) (x : Fragment) (call : Call) (three : call.allele < 3) where
  abbrev seen : CountedCall
  seen = counted_call cutoff x call

  at_its_allele : usable cutoff x call ≡ true → counts_at cutoff x (allele_place seen) call ≡ true
  unfolding counted
  at_its_allele u =
      let v = call.variant in
      let a = call.allele in
      let q : (10 * v + a) / 10 ≡ v = omega arith in
      let r : (10 * v + a) % 10 ≡ a = omega arith in
      let m : a % 3 ≡ a = omega arith in
      rw (q, r, eq-eqb v v refl, ne_eqb a 9 (omega arith), u, m, eq-eqb a a refl, lt-ltb a 3 three)

  at_its_strand : usable cutoff x call ≡ true → counts_at cutoff x (strand_place seen) call ≡ true
  unfolding counted
  at_its_strand u =
      let v = call.variant in
      let a = call.allele in
      let j = 3 * (1 + direction x.strand) + a in
      let q : (10 * v + 3 * (1 + direction x.strand) + a) / 10 ≡ v = omega arith in
      let r : (10 * v + 3 * (1 + direction x.strand) + a) % 10 ≡ j = omega arith in
      let m : j % 3 ≡ a = omega arith in
      let k : j / 3 ≡ 1 + direction x.strand = omega arith in
      rw (q, r, eq-eqb v v refl, ne_eqb j 9 (omega arith), u, m, eq-eqb a a refl, le-ltb j 3 (omega arith), k, eq-eqb (1 + direction x.strand) (1 + direction x.strand) refl)

  at_the_last : usable cutoff x call ≡ false → counts_at cutoff x (ambiguous_place seen) call ≡ true
  unfolding counted
  at_the_last u =
      let v = call.variant in
      let q : (10 * v + 9) / 10 ≡ v = omega arith in
      let r : (10 * v + 9) % 10 ≡ 9 = omega arith in
      rw (q, r, eq-eqb v v refl, u)

  -- and nowhere else
  module _ (e : ℕ) where
    only_usable : usable cutoff x call ≡ true → counts_at cutoff x e call ≡ true → (e ≡ allele_place seen) ⊎ (e ≡ strand_place seen)
    unfolding counted
    only_usable u t =
        let j = e % 10 in
        let p = both (eqb call.variant (e / 10)) (counted cutoff x j call) t in
        let v = eqb-true call.variant (e / 10) p.0 in
        by_test (eqb j 9)
        (λ n. true_false p.1 (rw (n, u)))
        (λ n.
        let b = both (eqb call.allele (j % 3)) (ltb j 3 || eqb (j / 3) (1 + direction x.strand)) (rw (n, u) at p.1) in
        let a = eqb-true call.allele (j % 3) b.0 in
        by_test (ltb j 3)
        (λ l. inl (omega (arith, ltb-true j 3 l)))
        (λ l. inr (omega (arith, eqb-true (j / 3) (1 + direction x.strand) (rw l at b.1)))))

    only_ambiguous : usable cutoff x call ≡ false → counts_at cutoff x e call ≡ true → e ≡ ambiguous_place seen
    unfolding counted
    only_ambiguous u t =
        let j = e % 10 in
        let p = both (eqb call.variant (e / 10)) (counted cutoff x j call) t in
        let v = eqb-true call.variant (e / 10) p.0 in
        by_test (eqb j 9) (λ n. omega (arith, eqb-true j 9 n)) (λ n. true_false p.1 (rw (n, u)))

    not_at : (counts_at cutoff x e call ≡ true → ⊥) → counts_at cutoff x e call ≡ false
    not_at n = by_test (counts_at cutoff x e call) (λ t. absurd (n t)) (λ t. t)

  module _ (d : ℤ) (counts : List ℤ) where
    -- counting it adds d where it counts
    pub count_at : 10 * call.variant + 9 < length counts → (e : ℕ) → get_or (count_call d seen counts) e (pos 0) ≡ get_or counts e (pos 0) +ℤ cond (counts_at cutoff x e call) d (pos 0)
    unfolding count_call
    count_at long e =
        let a = allele_place seen in
        let s = strand_place seen in
        let l = ambiguous_place seen in
        let put = add_at d a counts in
        by_test (usable cutoff x call)
        (λ u. elim (ℕ_discrete e a) [
          | yes q ↦ rw (u, q, at_its_allele u) (added_other d s a put (λ f. omega arith) ∙ added_same d a counts (omega arith))
          | no n ↦ elim (ℕ_discrete e s) [
            | yes q ↦ rw (u, q, at_its_strand u) (added_same d s put (rw length-set (omega arith)) ∙ ap (λ (z : ℤ). z +ℤ d) (added_other d a s counts (λ f. omega arith)))
            | no m ↦ rw (u, not_at e (λ t. ⊎_elim n m (only_usable e u t)), +ℤ_idr) (added_other d s e put m ∙ added_other d a e counts n)
          ]
        ])
        (λ u. elim (ℕ_discrete e l) [
          | yes q ↦ rw (u, q, at_the_last u) (added_same d l counts (omega arith))
          | no n ↦ rw (u, not_at e (λ t. n (only_ambiguous e u t)), +ℤ_idr) (added_other d l e counts n)
        ])

    -- it fits where each element at which it counts is in range with d more
    pub fit_at : call_fits d seen counts ≡ true → (e : ℕ) → counts_at cutoff x e call ≡ true → within (pos 0) (pos max_count) (get_or counts e (pos 0) +ℤ d) ≡ true
    unfolding call_fits
    fit_at h e t =
        by_test (usable cutoff x call)
        (λ u.
        let f = both (fits_at d (allele_place seen) counts) (fits_at d (strand_place seen) counts) (rw u at h) in
        ⊎_elim (λ q. rw q f.0) (λ q. rw q f.1) (only_usable e u t))
        (λ u. rw (only_ambiguous e u t) (rw u at h))

    pub at_fit : ((e : ℕ) → counts_at cutoff x e call ≡ true → within (pos 0) (pos max_count) (get_or counts e (pos 0) +ℤ d) ≡ true) → call_fits d seen counts ≡ true
    unfolding call_fits
    at_fit h =
        by_test (usable cutoff x call)
        (λ u. rw (u, h (allele_place seen) (at_its_allele u), h (strand_place seen) (at_its_strand u)))
        (λ u. rw (u, h (ambiguous_place seen) (at_the_last u)))
