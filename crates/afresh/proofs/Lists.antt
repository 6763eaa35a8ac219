-- Request 1's theorem: after every list of accepted arrivals and departures the values are those of the fragments then present taken afresh, the
-- case is accepted, and no operation is refused with 10 at place 0. One operation at a time: past its tests the words decode to the case with
-- one fragment exchanged, and there `Updated` has the values. Assumes nothing.
use mathlib.Core.Path.{◌≡◌, refl, sym, ap, ◌∙◌, subst}
use mathlib.Core.Bool.{true, false, ◌&&◌}
use mathlib.Core.List.{List, []}
use Prim.Native.Nat.{ℕ, ◌*◌, ◌≤◌, ◌<◌}
use native.Mathlib.Omega.{arith}
use borrow.Author.Tests.{ltb-true}
use lib.Dec.{ltb}
use lib.IntN.{ℤ}
use lib.ListN.{length}
use Rattle.variants_and_fragments.specs.declared.Sizes.{Sizes}
use Rattle.variants_and_fragments.specs.Case.{Case, fragment_of}
use Rattle.variants_and_fragments.specs.Decode.{decode}
use Rattle.variants_and_fragments.specs.First.{first_fail}
use Rattle.variants_and_fragments.specs.Layout.{sizes_of}
use Rattle.variants_and_fragments.specs.Refusals.{refused, done}
use Rattle.variants_and_fragments.specs.Inner.Accepted.{CaseIn}
use Rattle.variants_and_fragments.specs.Inner.Case.{GoodCase}
use Rattle.variants_and_fragments.proofs.Accepted.{checked_in, checked_case}
use Rattle.variants_and_fragments.proofs.Bools.{both, true_false}
use Rattle.variants_and_fragments.proofs.Decoded.{variant_count, fragment_count, variants_are, fragments_are, strand_is}
use Rattle.variants_and_fragments.proofs.GoodCases.{good_case, fragment_in}
use Rattle.variants_and_fragments.proofs.Outcomes.{not_done, unless_past, then_past}
use Rattle.genotype_probs.specs.declared.Rates.{Rates}
use Rattle.genotype_probs.specs.Rates.{rate_test}
use Rattle.genotype_probs.specs.Inner.Rates.{rates_fault}
use Rattle.late_reads.specs.Values.{in_range, exchanged}
use Rattle.late_reads.specs.Arriving.{arriving_read, arrived_words, departed_words}
use Rattle.late_reads.specs.LateReads.{LateInput, LateAnswer, unsettled, kept_outcome, arriving_outcome, arrived_values, arrive_outcome, arrive_written, departed_values, depart_outcome, depart_written}
use Rattle.late_reads.specs.Inner.Ready.{Kept, Arriving}
use Rattle.late_reads.proofs.Arrivals.{arrived_sizes, sizes_arrival, accepted_arrival, decoded_arrival}
use Rattle.late_reads.proofs.Departures.{departed_sizes, sizes_departure, accepted_departure, decoded_departure}
use Rattle.late_reads.proofs.KeptCase.{kept_checked, kept_past}
use Rattle.late_reads.proofs.ArrivalTests.{tests_past, tests_are, present_is}
use Rattle.afresh.specs.Lists.{Stand, standing, input_of, Leaves, none, arrives, departs, FreshStand, ExchangesOne, KeepsFresh}
use Rattle.afresh.proofs.Refused.{unless_refused, other_refused, each_refused, short_refused, then_refused}
use Rattle.afresh.proofs.Updated.{fresh_arrival, fresh_departure}
use Rattle.afresh.proofs.Ranges.{fresh_in_range}

-- ---- one stand
stand_good : {bases phase haps : List ℕ} {rates : Rates} {x : Stand} → FreshStand bases phase haps rates x → GoodCase (decode x.words bases)
stand_good {bases} {phase} {haps} {rates} {x} here = good_case x.words bases (sizes_of x.words) (checked_case x.words bases haps (sizes_of x.words) here.accepted)

-- its values lie in their ranges, at accepted rates
stand_in_range : {bases phase haps : List ℕ} {rates : Rates} {x : Stand} → FreshStand bases phase haps rates x → first_fail (rate_test rates) 7 ≡ 7
    → in_range (sizes_of x.words).n (sizes_of x.words).f x.kept ≡ true
unfolding rates_fault
stand_in_range {bases} {phase} {haps} {rates} {x} here right =
    rw (variant_count x.words bases, fragment_count x.words bases) at (fresh_in_range rates (decode x.words bases) phase haps (stand_good here) right x.kept here.fresh)

-- ---- one operation
module _ {bases phase haps : List ℕ} {rates : Rates} {x : Stand} (here : FreshStand bases phase haps rates x) where
  abbrev input : LateInput
  input = input_of bases phase haps x

  abbrev case : Case
  case = decode x.words bases

  abbrev z : Sizes
  z = sizes_of x.words

  in_case : CaseIn x.words z
  in_case = checked_in x.words bases haps z here.accepted

  -- past the tests of what is lent there is room for the values
  module _ {s : Sizes} (ok : kept_outcome input ≡ done s) where
    kept : Kept x.words s phase haps x.kept
    kept = kept_past input s ok

    sizes : s ≡ z
    sizes = kept.ready.case_in.shape

    room : 2 * length case.fragments ≤ length x.kept.likelihoods
    room = omega (arith, fragments_are kept.ready.case_in bases, kept.likelihoods_long)

    long : 10 * length case.variants ≤ length x.kept.counts
    long = omega (arith, variants_are kept.ready.case_in bases, kept.counts_long)

    -- ---- an arrival
    module _ (f : ℕ) (strand : ℤ) (calls : List ℤ) {t : Sizes} (right : arriving_outcome input f strand calls s ≡ done t) where
      tested : (s ≡ t) × Arriving x.words s f strand calls
      tested = tests_past x.words s t f strand calls (tests_are input s kept.ready.case_in f strand calls ∙ right)

      arriving : Arriving x.words z f strand calls
      arriving = subst (λ (t : Sizes). Arriving x.words t f strand calls) sizes tested.1

      inside : f < length case.fragments
      inside = omega (arith, arriving.below, fragments_are in_case bases)

      no_calls : (fragment_of case f).calls ≡ []
      no_calls = (fragment_in (stand_good here) f inside).absent (present_is in_case bases f arriving.below ∙ arriving.absent)

      arrival_fresh : FreshStand bases phase haps rates (standing (arrive_written input f strand calls) (unsettled (arrived_values input f strand calls)))
      unfolding arrive_written arrived_values
      arrival_fresh = record {
        accepted = accepted_arrival x.words bases haps z here.accepted f strand calls arriving ∙ ap done (sym (sizes_arrival x.words bases haps z here.accepted f strand calls arriving));
        fresh = rw (decoded_arrival x.words bases haps z here.accepted f strand calls arriving) (fresh_arrival rates case phase haps x.kept f (arriving_read strand calls) here.fresh inside room long no_calls);
      }

      -- so at accepted rates it lies in its ranges
      arrival_ranged : first_fail (rate_test rates) 7 ≡ 7 → in_range t.n t.f (arrived_values input f strand calls) ≡ true
      unfolding arrive_written
      arrival_ranged rated =
          let after = arrived_words x.words z f strand calls in
          let same : sizes_of after ≡ arrived_sizes x.words z calls = sizes_arrival x.words bases haps z here.accepted f strand calls arriving in
          let n_is : t.n ≡ (sizes_of after).n = ap (λ (t : Sizes). t.n) (sym tested.0 ∙ sizes) ∙ sym (ap (λ (t : Sizes). t.n) same) in
          let f-is : t.f ≡ (sizes_of after).f = ap (λ (t : Sizes). t.f) (sym tested.0 ∙ sizes) ∙ sym (ap (λ (t : Sizes). t.f) same) in
          rw (n_is, f-is) (stand_in_range arrival_fresh rated)

    -- ---- a departure
    module _ (f : ℕ) (there : (ltb f s.f && (fragment_of case f).present) ≡ true) where
      departing_below : f < z.f
      departing_below = subst (λ (t : Sizes). f < t.f) sizes (ltb-true f s.f (both (ltb f s.f) (fragment_of case f).present there).0)

      departing : f < length case.fragments
      departing = omega (arith, departing_below, fragments_are in_case bases)

      departure_fresh : FreshStand bases phase haps rates (standing (depart_written input f) (unsettled (departed_values input f)))
      unfolding depart_written departed_values
      departure_fresh = record {
        accepted = accepted_departure x.words bases haps z here.accepted f departing_below ∙ ap done (sym (sizes_departure x.words bases haps z here.accepted f departing_below));
        fresh = rw (decoded_departure x.words bases haps z here.accepted f departing_below) (fresh_departure rates case phase haps x.kept f _ here.fresh departing room long refl);
      }

      departure_ranged : first_fail (rate_test rates) 7 ≡ 7 → in_range s.n s.f (departed_values input f) ≡ true
      unfolding depart_written
      departure_ranged rated =
          let after = departed_words x.words z f in
          let same : sizes_of after ≡ departed_sizes x.words z f = sizes_departure x.words bases haps z here.accepted f departing_below in
          let n_is : s.n ≡ (sizes_of after).n = ap (λ (t : Sizes). t.n) sizes ∙ sym (ap (λ (t : Sizes). t.n) same) in
          let f-is : s.f ≡ (sizes_of after).f = ap (λ (t : Sizes). t.f) sizes ∙ sym (ap (λ (t : Sizes). t.f) same) in
          rw (n_is, f-is) (stand_in_range departure_fresh rated)

-- past the tests of an operation: what it answers, and that what it leaves is fresh
module _ {bases phase haps : List ℕ} {rates : Rates} {x : Stand} (here : FreshStand bases phase haps rates x) (answer : LateAnswer) where
  arrival_step : (f : ℕ) (strand : ℤ) (calls : List ℤ) → arrive_outcome (input_of bases phase haps x) f strand calls ≡ done answer
      → FreshStand bases phase haps rates (standing (arrive_written (input_of bases phase haps x) f strand calls) answer)
  unfolding arrive_outcome
  arrival_step f strand calls ok =
      let a = then_past _ _ answer ok in
      let b = then_past _ _ answer a.1.1 in
      let c = unless_past _ 10 0 _ answer b.1.1 in
      let e : unsettled (arrived_values (input_of bases phase haps x) f strand calls) ≡ answer = cc c.1 in
      subst (λ (a : LateAnswer). FreshStand bases phase haps rates (standing (arrive_written (input_of bases phase haps x) f strand calls) a)) e (arrival_fresh here a.1.0 f strand calls b.1.0)

  departure_step : (f : ℕ) → depart_outcome (input_of bases phase haps x) f ≡ done answer → FreshStand bases phase haps rates (standing (depart_written (input_of bases phase haps x) f) answer)
  unfolding depart_outcome
  departure_step f ok =
      let a = then_past _ _ answer ok in
      let b = unless_past _ 13 _ _ answer a.1.1 in
      let c = unless_past _ 10 0 _ answer b.1 in
      let e : unsettled (departed_values (input_of bases phase haps x) f) ≡ answer = cc c.1 in
      subst (λ (a : LateAnswer). FreshStand bases phase haps rates (standing (depart_written (input_of bases phase haps x) f) a)) e (departure_fresh here a.1.0 f b.0)

-- ---- the ranges
module _ {bases phase haps : List ℕ} {rates : Rates} {x : Stand} (here : FreshStand bases phase haps rates x) (right : first_fail (rate_test rates) 7 ≡ 7) where
  kept_not : kept_outcome (input_of bases phase haps x) ≡ refused 10 0 → ⊥
  unfolding kept_outcome
  kept_not =
      then_refused _ _ (λ h. not_done (sym h ∙ here.accepted)) (λ s ok.
      let e : s ≡ sizes_of x.words = (checked_in x.words bases haps s ok).shape in
      other_refused _ 7 _ _ (λ q. omega arith) (λ _.
      short_refused _ _ (λ _ some. some refl) (unless_refused _ 10 0 _ (λ off _ _. true_false (rw e (stand_in_range here right)) off) (λ _ h. not_done (sym h)))))

  arrives_in_range : (f : ℕ) (strand : ℤ) (calls : List ℤ) → arrive_outcome (input_of bases phase haps x) f strand calls ≡ refused 10 0 → ⊥
  unfolding arrive_outcome arriving_outcome
  arrives_in_range f strand calls =
      then_refused _ _ kept_not (λ s ok.
      then_refused _ _
      (each_refused 4 _ 0 _ _ (λ q. omega arith) (λ _.
      each_refused 5 _ 0 _ _ (λ q. omega arith) (λ _.
      other_refused _ 5 _ _ (λ q. omega arith) (λ _.
      other_refused _ 13 _ _ (λ q. omega arith) (λ _.
      other_refused _ 14 _ _ (λ q. omega arith) (λ _ h. not_done (sym h)))))))
      (λ t past. unless_refused _ 10 0 _ (λ off _ _. true_false (arrival_ranged here ok f strand calls past right) off) (λ _ h. not_done (sym h))))

  departs_in_range : (f : ℕ) → depart_outcome (input_of bases phase haps x) f ≡ refused 10 0 → ⊥
  unfolding depart_outcome
  departs_in_range f =
      then_refused _ _ kept_not (λ s ok.
      other_refused _ 13 _ _ (λ q. omega arith) (λ there.
      unless_refused _ 10 0 _ (λ off _ _. true_false (departure_ranged here ok f there right) off) (λ _ h. not_done (sym h))))

-- ---- one fragment is exchanged
module _ (bases phase haps : List ℕ) (x : Stand) (answer : LateAnswer) where
  arrival_exchanges : (f : ℕ) (strand : ℤ) (calls : List ℤ) → arrive_outcome (input_of bases phase haps x) f strand calls ≡ done answer
      → decode (arrive_written (input_of bases phase haps x) f strand calls).words bases ≡ exchanged (decode x.words bases) f (arriving_read strand calls)
  unfolding arrive_outcome arrive_written
  arrival_exchanges f strand calls ok =
      let a = then_past _ _ answer ok in
      let b = then_past _ _ answer a.1.1 in
      let s = a.0 in
      let k = (kept_past (input_of bases phase haps x) s a.1.0).ready.case_in in
      let tested = tests_past x.words s b.0 f strand calls (tests_are (input_of bases phase haps x) s k f strand calls ∙ b.1.0) in
      subst (λ (z : Sizes). decode (arrived_words x.words z f strand calls) bases ≡ exchanged (decode x.words bases) f (arriving_read strand calls)) k.shape
      (decoded_arrival x.words bases haps s (kept_checked (input_of bases phase haps x) s a.1.0) f strand calls tested.1)

  departure_exchanges : (f : ℕ) → depart_outcome (input_of bases phase haps x) f ≡ done answer
      → decode (depart_written (input_of bases phase haps x) f).words bases
      ≡ exchanged (decode x.words bases) f (record { present = false; strand = (fragment_of (decode x.words bases) f).strand; calls = [] })
  unfolding depart_outcome depart_written
  departure_exchanges f ok =
      let a = then_past _ _ answer ok in
      let b = unless_past _ 13 _ _ answer a.1.1 in
      let s = a.0 in
      let k = (kept_past (input_of bases phase haps x) s a.1.0).ready.case_in in
      let below = ltb-true f s.f (both (ltb f s.f) (fragment_of (decode x.words bases) f).present b.0).0 in
      let e = decoded_departure x.words bases haps s (kept_checked (input_of bases phase haps x) s a.1.0) f below in
      subst (λ (z : Sizes). decode (departed_words x.words z f) bases ≡ exchanged (decode x.words bases) f (record { present = false; strand = (fragment_of (decode x.words bases) f).strand; calls = [] })) k.shape
      (rw (strand_is k bases f below) e)

pub exchanges_one : (bases phase haps : List ℕ) → ExchangesOne bases phase haps
exchanges_one bases phase haps = record {
  arrival = λ x f strand calls answer. arrival_exchanges bases phase haps x answer f strand calls;
  departure = λ x f answer. departure_exchanges bases phase haps x answer f;
}

-- ---- the theorem
keeps : {bases phase haps : List ℕ} (rates : Rates) {x y : Stand} → Leaves bases phase haps x y → FreshStand bases phase haps rates x → FreshStand bases phase haps rates y
keeps rates none h = h
keeps rates (arrives f strand calls answer ok rest) h = keeps rates rest (arrival_step h answer f strand calls ok)
keeps rates (departs f answer ok rest) h = keeps rates rest (departure_step h answer f ok)

pub keeps_fresh : (bases phase haps : List ℕ) → KeepsFresh bases phase haps
keeps_fresh bases phase haps = record {
  keeps = keeps;
  arrival_in_range = λ rates right x here. arrives_in_range here right;
  departure_in_range = λ rates right x here. departs_in_range here right;
}
