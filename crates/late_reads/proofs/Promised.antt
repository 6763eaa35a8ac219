-- What `arrive` and `depart` promise at each return: where a test stops, its refusal and the slices as they were; past the tests, what is promised in
-- terms of the words, which is what the definition says of the decoded case.
-- Assumes nothing.
use mathlib.Core.Path.{◌≡◌, refl, sym, ap, ◌∙◌}
use mathlib.Core.Bool.{true, false, ◌&&◌}
use mathlib.Core.List.{List}
use Prim.Native.Nat.{ℕ, ◌+◌, ◌*◌, ◌≤◌, ◌<◌}
use lib.IntN.{ℤ, pos, ◌+ℤ◌, ◌-ℤ◌}
use lib.ListN.{get_or}
use Rattle.steps.specs.declared.LogProb.{LogProb}
use Rattle.steps.specs.Logs.{mix_of}
use borrow.Author.Tests.{lt-ltb, le-ltb}
use Rattle.variants_and_fragments.specs.declared.Sizes.{Sizes}
use Rattle.variants_and_fragments.specs.declared.Refusal.{Refusal}
use Rattle.variants_and_fragments.specs.declared.Refusal.TheVariants.{Short}
use Rattle.variants_and_fragments.specs.Decode.{fragment_from}
use Rattle.variants_and_fragments.specs.Layout.{cutoff_at}
use Rattle.variants_and_fragments.specs.Words.{within}
use Rattle.variants_and_fragments.specs.Chain.{present_at}
use Rattle.variants_and_fragments.specs.Refusals.{Outcome, done, refusal, refused, afterwards, Promise}
use Rattle.variants_and_fragments.proofs.Outcomes.{then_on, then_refused, unless_on, unless_at}
use Rattle.late_reads.specs.Values.{Values, lowest_total, put_likelihoods, likelihood_on, arrived, departed}
use Rattle.late_reads.specs.Arriving.{arriving_read, arrived_words, departed_words}
use Rattle.late_reads.specs.LateReads.{LateInput, LateAnswer, LateSlices, late_slices, lent_slices, kept_outcome, arriving_outcome, arrived_values, arrive_outcome, arrive_written, Arrives, departed_values, depart_outcome, depart_written, Departs}
use Rattle.late_reads.specs.Inner.Counting.{counts_arrived, counts_departed, counts_fit}
use Rattle.late_reads.specs.Inner.Ready.{Arriving, arriving_tests, fixed_at, arrived_at, departed_at, ranged_outcome, ArrivesKept, DepartsKept}
use Rattle.late_reads.proofs.ArrivalTests.{tests_past, tests_are, present_is}
use Rattle.late_reads.proofs.KeptCase.{kept_past, kept_case}
use Rattle.late_reads.proofs.Ranged.{Updating, refuses, updates, same_slices, arrival, departure}
use Rattle.late_reads.proofs.ValuesDecoded.{arrived_is, departed_is}

-- ---- a promise
-- of an equal outcome and equal slices
promise_same : {outcome outcome' : Outcome LateAnswer} {new new' before after : LateSlices} {answer : Outcome LateAnswer} → outcome ≡ outcome' → new ≡ new' → Promise outcome new before answer after → Promise outcome' new' before answer after
promise_same {before = before} {answer = answer} e n p = record { answers = p.answers ∙ e; slices = p.slices ∙ ap (λ (x : LateSlices). afterwards answer x before) n }

-- ---- an arrival
module _ (input : LateInput) (f : ℕ) (strand : ℤ) (calls : List ℤ) where
  -- the case or what is lent with it is refused
  pub arrive_stops : (x : Refusal) → refusal x ≡ kept_outcome input → refusal x ≡ arrive_outcome input f strand calls
  unfolding arrive_outcome
  arrive_stops x e = then_refused (kept_outcome input) _ x e

  module _ (s : Sizes) (ok : kept_outcome input ≡ done s) where
    -- the arrival is refused
    pub arriving_stops : (x : Refusal) → refusal x ≡ arriving_tests input.words s f strand calls → refusal x ≡ arrive_outcome input f strand calls
    unfolding arrive_outcome
    arriving_stops x e = then_refused (arriving_outcome input f strand calls s) _ x (e ∙ tests_are input s (kept_case input s ok) f strand calls) ∙ then_on (kept_outcome input) _ s ok

    -- past the tests
    module _ (t : Sizes) (right : arriving_tests input.words s f strand calls ≡ done t) where
      pub arriving : Arriving input.words s f strand calls
      arriving = (tests_past _ s t f strand calls right).1

      arrive_values : arrived_at input.words s input.phase input.haplotypes input.kept f strand calls ≡ arrived_values input f strand calls
      arrive_values = arrived_is input s ok f strand calls arriving

      arrive_tested : arriving_outcome input f strand calls s ≡ done s
      arrive_tested = sym (tests_are input s (kept_case input s ok) f strand calls) ∙ right ∙ ap done (sym (tests_past _ s t f strand calls right).0)

      arrive_answered : ranged_outcome s (arrived_at input.words s input.phase input.haplotypes input.kept f strand calls) ≡ arrive_outcome input f strand calls
      unfolding arrive_outcome
      arrive_answered = ap (ranged_outcome s) arrive_values ∙ then_on (arriving_outcome input f strand calls s) _ s arrive_tested ∙ then_on (kept_outcome input) _ s ok

      arrive_written_lem : (x : Values) → x ≡ arrived_values input f strand calls → late_slices (arrived_words input.words s f strand calls) x.likelihoods x.counts ≡ arrive_written input f strand calls
      unfolding arrive_written
      arrive_written_lem x e = rw (e, (kept_case input s ok).shape)

      pub arrives : {answer : Outcome LateAnswer} {after : LateSlices} → ArrivesKept input.words s input.phase input.haplotypes input.kept f strand calls answer after → Arrives input f strand calls answer after
      arrives p = promise_same arrive_answered (arrive_written_lem _ arrive_values) p

      -- the new total and counts, and the likelihoods of the read
      abbrev share : ℕ → ℤ
      share h = likelihood_on (fixed_at input.words input.phase input.haplotypes) (arriving_read strand calls) h

      abbrev total_then : ℤ
      total_then = input.kept.total +ℤ mix_of (share 0) (share 1)

      abbrev counts_then : List ℤ
      counts_then = counts_arrived (cutoff_at input.words) s.n (arriving_read strand calls) input.kept.counts

      updating : Updating s (arrived_at input.words s input.phase input.haplotypes input.kept f strand calls) total_then counts_then
      updating = arrival (kept_past input s ok) arriving

      -- at the last test, of the total and the counts, and at the end
      pub arrive_refuses : (within lowest_total (pos 0) total_then && counts_fit s.n counts_then) ≡ false → Arrives input f strand calls (refusal (Short 0)) (lent_slices input)
      arrive_refuses h = arrives (refuses updating h)

      pub arrive_updates : (sum : LogProb) {w l c : List ℤ} → sum.0 ≡ total_then → (within lowest_total (pos 0) total_then && counts_fit s.n counts_then) ≡ true
          → w ≡ arrived_words input.words s f strand calls → l ≡ put_likelihoods input.kept.likelihoods f (share 0) (share 1) → c ≡ counts_then
          → Arrives input f strand calls (done (record { settled = false; total = sum.0 })) (late_slices w l c)
      unfolding arrived
      arrive_updates sum e h w l c = arrives (updates updating sum e h (same_slices w l c))

-- ---- a departure
module _ (input : LateInput) (f : ℕ) where
  pub depart_stops : (x : Refusal) → refusal x ≡ kept_outcome input → refusal x ≡ depart_outcome input f
  unfolding depart_outcome
  depart_stops x e = then_refused (kept_outcome input) _ x e

  module _ (s : Sizes) (ok : kept_outcome input ≡ done s) where
    -- its number is too large
    pub depart_past : s.f ≤ f → refused 13 f ≡ depart_outcome input f
    unfolding depart_outcome
    depart_past l = unless_at _ 13 f _ (rw (le-ltb f s.f l) refl) ∙ then_on (kept_outcome input) _ s ok

    -- it is absent
    pub depart_not_there : f < s.f → present_at input.words s f ≡ false → refused 13 f ≡ depart_outcome input f
    unfolding depart_outcome
    depart_not_there l h = unless_at _ 13 f _ (rw (lt-ltb f s.f l) (present_is (kept_case input s ok) input.bases f l ∙ h)) ∙ then_on (kept_outcome input) _ s ok

    -- it is present
    module _ (below : f < s.f) (present : present_at input.words s f ≡ true) where
      depart_values : departed_at input.words s input.kept f ≡ departed_values input f
      depart_values = departed_is input s ok f below

      depart_answered : ranged_outcome s (departed_at input.words s input.kept f) ≡ depart_outcome input f
      unfolding depart_outcome
      depart_answered = ap (ranged_outcome s) depart_values ∙ unless_on _ 13 f _ (rw (lt-ltb f s.f below) (present_is (kept_case input s ok) input.bases f below ∙ present)) ∙ then_on (kept_outcome input) _ s ok

      depart_written_lem : (x : Values) → x ≡ departed_values input f → late_slices (departed_words input.words s f) x.likelihoods x.counts ≡ depart_written input f
      unfolding depart_written
      depart_written_lem x e = rw (e, (kept_case input s ok).shape)

      pub departs : {answer : Outcome LateAnswer} {after : LateSlices} → DepartsKept input.words s input.kept f answer after → Departs input f answer after
      departs p = promise_same depart_answered (depart_written_lem _ depart_values) p

      abbrev total_left : ℤ
      total_left = input.kept.total -ℤ mix_of (get_or input.kept.likelihoods (2 * f) (pos 0)) (get_or input.kept.likelihoods (2 * f + 1) (pos 0))

      abbrev counts_left : List ℤ
      counts_left = counts_departed (cutoff_at input.words) s.n (fragment_from input.words s f) input.kept.counts

      updating_lem : Updating s (departed_at input.words s input.kept f) total_left counts_left
      updating_lem = departure (kept_past input s ok) f below

      pub depart_refuses : (within lowest_total (pos 0) total_left && counts_fit s.n counts_left) ≡ false → Departs input f (refusal (Short 0)) (lent_slices input)
      depart_refuses h = departs (refuses updating_lem h)

      pub depart_updates : (rest : LogProb) {w l c : List ℤ} → rest.0 ≡ total_left → (within lowest_total (pos 0) total_left && counts_fit s.n counts_left) ≡ true
          → w ≡ departed_words input.words s f → l ≡ put_likelihoods input.kept.likelihoods f (pos 0) (pos 0) → c ≡ counts_left
          → Departs input f (done (record { settled = false; total = rest.0 })) (late_slices w l c)
      unfolding departed
      depart_updates rest e h w l c = departs (updates updating_lem rest e h (same_slices w l c))
