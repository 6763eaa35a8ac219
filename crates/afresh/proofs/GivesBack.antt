-- Request 3: an arrival and then its departure leave the same set of free and unused records, and every word as it was but those of the records taken, words 4
-- and 5 and that fragment's strand. The departure frees the fragment's chain, which is the records taken, before what the arrival left of the free chain.
-- Assumes nothing.
use mathlib.Core.Path.{◌≡◌, refl, sym, ap, ◌∙◌, subst}
use mathlib.Core.Bool.{Bool, true, false}
use mathlib.Core.List.{List, ◌++◌}
use mathlib.Core.Logic.{◌≢◌, inl, inr}
use Prim.Native.Nat.{ℕ, zero, suc, ◌+◌, ◌-◌, ◌≤◌, ◌<◌}
use native.Mathlib.Omega.{arith}
use native.Mathlib.Decide.{dec_lt, ℕ_discrete}
use borrow.Author.Tests.{le-leb, leb-true}
use lib.Dec.{leb}
use lib.IntN.{ℤ, pos, negsuc}
use lib.ListN.{length, get_or, drop}
use lib.Signed.{le_z}
use Rattle.variants_and_fragments.specs.declared.Sizes.{Sizes}
use Rattle.variants_and_fragments.specs.Chain.{chain_of, free_chain, memb}
use Rattle.variants_and_fragments.specs.Check.{check_case_and_haplotypes_outcome}
use Rattle.variants_and_fragments.specs.Layout.{call_words, used_field, free_field, first_field, strand_field, next_field, sizes_of, fragment_at, fragment_word, call_at}
use Rattle.variants_and_fragments.specs.Refusals.{done}
use Rattle.variants_and_fragments.specs.Words.{word, within}
use Rattle.variants_and_fragments.specs.Inner.Accepted.{CaseIn}
use Rattle.variants_and_fragments.proofs.Accepted.{checked_in}
use Rattle.variants_and_fragments.proofs.Bools.{both, true_false}
use Rattle.variants_and_fragments.proofs.Decoded.{tabulate_length, tabulate_at}
use Rattle.variants_and_fragments.proofs.Outcomes.{then_past}
use Rattle.variants_and_fragments.proofs.Pigeon.{memb_left, memb_right}
use Rattle.late_reads.specs.Arriving.{whole_calls, unused_records, room, taken, arrived_words, departed_words}
use Rattle.late_reads.specs.LateReads.{LateInput, LateAnswer, arrive_outcome, arrive_written, depart_written}
use Rattle.late_reads.specs.Inner.Ready.{Arriving}
use Rattle.late_reads.proofs.Distinct.{memb_at}
use Rattle.late_reads.proofs.Apart.{memb_cases, memb_place}
use Rattle.late_reads.proofs.ArrivalTests.{tests_past, tests_are}
use Rattle.late_reads.proofs.Arrivals.{arrived_sizes, both_only, both_free, both_since, used_high, rs_length, arrived_long, arrived_other, sizes_arrival, accepted_arrival, chain_arrival, free_arrival}
use Rattle.late_reads.proofs.Departures.{departed_sizes, departed_long, departed_other, departed_first, sizes_departure, free_departure}
use Rattle.late_reads.proofs.KeptCase.{kept_checked, kept_case}
use Rattle.late_reads.proofs.WordsAfter.{laid_other}
use Rattle.afresh.specs.Lists.{Stand, input_of}
use Rattle.afresh.specs.GivesBack.{GivenBack, arrived_stand, GivesBack}

-- two tests that give each other are one
same_test : (a b : Bool) → (a ≡ true → b ≡ true) → (b ≡ true → a ≡ true) → a ≡ b
same_test true b h k = sym (h refl)
same_test false true h k = k refl
same_test false false h k = refl

-- a word in −1..u that is no number from 0 on is −1
minus_one : (u : ℕ) (z : ℤ) → le_z (pos 0) z ≡ false → within (negsuc 0) (pos u) z ≡ true → z ≡ negsuc 0
unfolding within
minus_one u (pos n) h k = true_false (le-leb 0 n (omega arith)) h
minus_one u (negsuc zero) h k = refl
minus_one u (negsuc (suc n)) h k = absurd (omega (arith, leb-true (suc n) 0 (both (leb (suc n) 0) _ k).0))

-- ---- the unused tail
unused_only : (s : Sizes) (r : ℕ) → memb r (unused_records s) ≡ true → (s.used < r) × (r ≤ s.c)
unfolding unused_records
unused_only s r h =
    let i = memb_place (unused_records s) r h in
    let l : i.0 < s.c - s.used = omega (arith, i.1, tabulate_length (s.c - s.used) (λ (j : ℕ). s.used + 1 + j)) in
    let e : r ≡ s.used + 1 + i.0 = i.2 ∙ tabulate_at (s.c - s.used) (λ (j : ℕ). s.used + 1 + j) i.0 0 l in
    (omega arith, omega arith)

unused_has : (s : Sizes) (r : ℕ) → s.used < r → r ≤ s.c → memb r (unused_records s) ≡ true
unfolding unused_records
unused_has s r lo hi =
    let i = r - s.used - 1 in
    let l : i < s.c - s.used = omega arith in
    let e : r ≡ get_or (unused_records s) i 0 = sym (tabulate_at (s.c - s.used) (λ (j : ℕ). s.used + 1 + j) i 0 l ∙ omega arith) in
    rw e (memb_at (unused_records s) i (omega (arith, tabulate_length (s.c - s.used) (λ (j : ℕ). s.used + 1 + j))))

-- ---- the words of an accepted case, with calls that arrive and depart
module _
    (w : List ℤ)
    (b h : List ℕ)
    (ok : check_case_and_haplotypes_outcome w b h ≡ done (sizes_of w))
    (f : ℕ)
    (strand : ℤ)
    (calls : List ℤ)
    (arrives : Arriving w (sizes_of w) f strand calls) where
  abbrev s : Sizes
  s = sizes_of w

  abbrev m : ℕ
  m = whole_calls calls

  abbrev w1 : List ℤ
  w1 = arrived_words w s f strand calls

  abbrev s1 : Sizes
  s1 = arrived_sizes w s calls

  abbrev w2 : List ℤ
  w2 = departed_words w1 s1 f

  abbrev s2 : Sizes
  s2 = departed_sizes w1 s1 f

  k : CaseIn w s
  k = checked_in w b h s ok

  ok1 : check_case_and_haplotypes_outcome w1 b h ≡ done s1
  ok1 = accepted_arrival w b h s ok f strand calls arrives

  k1 : CaseIn w1 s1
  k1 = checked_in w1 b h s1 ok1

  -- the free records afterwards
  free_after : free_chain w2 s2 ≡ taken w s m ++ drop m (free_chain w s)
  free_after = free_departure w1 b h s1 ok1 f arrives.below ∙ rw (chain_arrival w b h s ok f strand calls arrives, free_arrival w b h s ok f strand calls arrives)

  room_back : (r : ℕ) → memb r (room w2 s2) ≡ memb r (room w s)
  unfolding room
  room_back r = rw free_after (same_test _ _
      (λ a. elim (memb_cases r (taken w s m ++ drop m (free_chain w s)) (unused_records s2) a) [
        | inl c ↦ elim (both_only k m arrives.fits r c) [
          | inl d ↦ memb_left r (free_chain w s) (unused_records s) d
          | inr d ↦ memb_right r (free_chain w s) (unused_records s) (unused_has s r d.0 (omega (arith, d.1, used_high k m arrives.fits)))
        ]
        | inr c ↦ let d = unused_only s2 r c in memb_right r (free_chain w s) (unused_records s) (unused_has s r (omega (arith, d.0)) d.1)
      ])
      (λ a. elim (memb_cases r (free_chain w s) (unused_records s) a) [
        | inl c ↦ memb_left r (taken w s m ++ drop m (free_chain w s)) (unused_records s2) (both_free k m arrives.fits r c)
        | inr c ↦
            let d = unused_only s r c in
            elim (dec_lt s1.used r) [
              | yes l ↦ memb_right r (taken w s m ++ drop m (free_chain w s)) (unused_records s2) (unused_has s2 r l d.1)
              | no l ↦ memb_left r (taken w s m ++ drop m (free_chain w s)) (unused_records s2) (both_since k m arrives.fits r d.0 (omega arith))
            ]
      ]))

  long_back : length w2 ≡ length w
  long_back = departed_long k1 f arrives.below ∙ arrived_long k arrives

  others_back : (i : ℕ) → i ≢ used_field → i ≢ free_field → i ≢ fragment_at s f + strand_field
      → ((r j : ℕ) → memb r (taken w s (whole_calls calls)) ≡ true → j < call_words → i ≢ call_at s r + j) → word w2 i ≡ word w i
  others_back i a c d n = elim (ℕ_discrete i (fragment_at s f + first_field)) [
    | yes e ↦ rw e (departed_first k1 f arrives.below ∙ sym (minus_one s.used (fragment_word w s f first_field) arrives.absent (k.frags f arrives.below).first_in))
    | no e ↦
        departed_other k1 f arrives.below i e c
        (λ t q z. n (get_or (chain_of w1 s1 f) t 0) next_field (subst (λ (l : List ℕ). memb (get_or (chain_of w1 s1 f) t 0) l ≡ true) (chain_arrival w b h s ok f strand calls arrives) (memb_at (chain_of w1 s1 f) t (omega arith))) (omega arith) z)
        ∙ arrived_other k arrives i a c e d
        ∙ laid_other w s calls (taken w s m) m i (λ j field l x z. n (get_or (taken w s m) j 0) field (memb_at (taken w s m) j (omega (arith, rs_length k m arrives.fits))) x z)
  ]

  given_back : GivenBack w (departed_words w1 (sizes_of w1) f) f calls
  given_back =
      let same : sizes_of w1 ≡ s1 = sizes_arrival w b h s ok f strand calls arrives in
      let last : sizes_of w2 ≡ s2 = sizes_departure w1 b h s1 ok1 f arrives.below in
      rw same (record { same_room = λ r. rw last (room_back r); long = long_back; others = others_back })

-- ---- of the operations
module _ (bases phase haps : List ℕ) (x : Stand) (answer : LateAnswer) where
  abbrev input : LateInput
  input = input_of bases phase haps x

  gives : (f : ℕ) (strand : ℤ) (calls : List ℤ) → arrive_outcome input f strand calls ≡ done answer
      → GivenBack x.words (depart_written (input_of bases phase haps (arrived_stand bases phase haps x f strand calls answer)) f).words f calls
  unfolding arrive_outcome arrive_written depart_written
  gives f strand calls ok =
      let a = then_past _ _ answer ok in
      let c = then_past _ _ answer a.1.1 in
      let s = a.0 in
      let k = kept_case input s a.1.0 in
      let tested = tests_past x.words s c.0 f strand calls (tests_are input s k f strand calls ∙ c.1.0) in
      given_back x.words bases haps (kept_checked input s a.1.0 ∙ ap done k.shape) f strand calls (subst (λ (t : Sizes). Arriving x.words t f strand calls) k.shape tested.1)

pub gives_back : (bases phase haps : List ℕ) → GivesBack bases phase haps
gives_back bases phase haps = record { gives = λ x f strand calls arrival departure arrives departs. gives bases phase haps x arrival f strand calls arrives }
