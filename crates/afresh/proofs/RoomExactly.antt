-- Request 3: an arrival is turned down for want of records exactly when free and unused records together are fewer than its calls. The number 14 is that of
-- one test alone, so that where an arrival is refused with it, every test before that has passed.
-- Assumes nothing.
use mathlib.Core.Path.{◌≡◌, sym, ap, ◌∙◌}
use mathlib.Core.Bool.{true, false, not, ◌&&◌}
use mathlib.Core.List.{List}
use Prim.Native.Nat.{ℕ, ◌*◌}
use native.Mathlib.Omega.{arith}
use native.Mathlib.Decide.{dec_le}
use borrow.Author.Tests.{eqb-true, eq-eqb, ltb-true, lt-ltb, lt-leb, le-leb}
use lib.Dec.{eqb, ltb, leb}
use lib.IntN.{ℤ, pos}
use lib.ListN.{length}
use Rattle.variants_and_fragments.specs.declared.Sizes.{Sizes}
use Rattle.variants_and_fragments.specs.Case.{fragment_of}
use Rattle.variants_and_fragments.specs.Check.{check_case_and_haplotypes_outcome}
use Rattle.variants_and_fragments.specs.Layout.{max_strand, sizes_of}
use Rattle.variants_and_fragments.specs.Refusals.{Outcome, refused, done, and_then}
use Rattle.variants_and_fragments.specs.Words.{within}
use Rattle.variants_and_fragments.proofs.Bools.{both, not_on, true_false}
use Rattle.variants_and_fragments.proofs.First.{from_all, all_from}
use Rattle.variants_and_fragments.proofs.Outcomes.{not_done, unless_on, unless_at, each_on, then_on}
use Rattle.late_reads.specs.Arriving.{arriving_words, whole_calls, arriving_ok, arriving_rises, room}
use Rattle.late_reads.specs.LateReads.{LateInput, case_of, kept_outcome, arriving_outcome, arrive_outcome}
use Rattle.late_reads.proofs.KeptCase.{kept_case}
use Rattle.late_reads.proofs.Room.{room_length}
use Rattle.afresh.specs.RoomExactly.{TooFew, BeforeRoom, RoomExactly}
use Rattle.afresh.proofs.Refused.{unless_refused, other_refused, each_refused, short_refused, then_refused}

-- ---- no test before it has that number
checked_not : (w : List ℤ) (b h : List ℕ) (p : ℕ) → check_case_and_haplotypes_outcome w b h ≡ refused 14 p → ⊥
unfolding check_case_and_haplotypes_outcome
checked_not w b h p =
    other_refused _ 1 _ _ (λ e. omega arith) (λ _.
    other_refused _ 1 _ _ (λ e. omega arith) (λ _.
    other_refused _ 1 _ _ (λ e. omega arith) (λ _.
    other_refused _ 1 _ _ (λ e. omega arith) (λ _.
    other_refused _ 1 _ _ (λ e. omega arith) (λ _.
    other_refused _ 1 _ _ (λ e. omega arith) (λ _.
    other_refused _ 1 _ _ (λ e. omega arith) (λ _.
    other_refused _ 1 _ _ (λ e. omega arith) (λ _.
    each_refused 2 _ 0 _ _ (λ e. omega arith) (λ _.
    other_refused _ 3 _ _ (λ e. omega arith) (λ _.
    each_refused 3 _ 0 _ _ (λ e. omega arith) (λ _.
    each_refused 4 _ 1 _ _ (λ e. omega arith) (λ _.
    each_refused 5 _ 0 _ _ (λ e. omega arith) (λ _.
    other_refused _ 5 _ _ (λ e. omega arith) (λ _ z. not_done (sym z)))))))))))))))

kept_not : (input : LateInput) (p : ℕ) → kept_outcome input ≡ refused 14 p → ⊥
unfolding kept_outcome
kept_not input p =
    then_refused _ _ (checked_not input.words input.bases input.haplotypes p) (λ s _.
    other_refused _ 7 _ _ (λ e. omega arith) (λ _.
    short_refused _ _ (λ e _. omega arith) (other_refused _ 10 0 _ (λ e. omega arith) (λ _ z. not_done (sym z)))))

module _ (input : LateInput) (f : ℕ) (strand : ℤ) (calls : List ℤ) where
  abbrev s : Sizes
  s = sizes_of input.words

  abbrev m : ℕ
  m = whole_calls calls

  few_of : leb (whole_calls calls) (length (room input.words s)) ≡ false → TooFew input calls
  few_of off = elim (dec_le (whole_calls calls) (length (room input.words s))) [
    | yes h ↦ true_false (le-leb _ _ h) off
    | no h ↦ omega (arith, room_length input.words s)
  ]

  -- ---- where it is refused so
  module _ (p : ℕ) (kept : kept_outcome input ≡ done (sizes_of input.words)) where
    arriving_only : arriving_outcome input f strand calls (sizes_of input.words) ≡ refused 14 p → (p ≡ whole_calls calls) × TooFew input calls × BeforeRoom input f strand calls
    unfolding arriving_outcome
    arriving_only =
        each_refused 4 _ 0 _ _ (λ e. omega arith) (λ right.
        each_refused 5 _ 0 _ _ (λ e. omega arith) (λ rise.
        other_refused _ 5 _ _ (λ e. omega arith) (λ shaped.
        other_refused _ 13 _ _ (λ e. omega arith) (λ there.
        unless_refused _ 14 _ _ (λ off _ at.
        let a = both (eqb (length calls) (arriving_words * m)) (within (pos 0) (pos max_strand) strand) shaped in
        let b = both (ltb f s.f) (not (fragment_of (case_of input) f).present) there in (
          sym at,
          few_of off,
          record {
            kept = kept;
            each_in = λ i l. from_all _ 0 _ right i (omega arith) (omega arith);
            each_rises = λ i l. from_all _ 0 _ rise i (omega arith) (omega arith);
            whole = eqb-true _ _ a.0;
            strand_in = a.1;
            below = ltb-true _ _ b.0;
            absent = not_on _ b.1;
          },
        )) (λ _ z. absurd (not_done (sym z)))))))

  only : (p : ℕ) → arrive_outcome input f strand calls ≡ refused 14 p → (p ≡ whole_calls calls) × TooFew input calls × BeforeRoom input f strand calls
  unfolding arrive_outcome
  only p =
      then_refused _ _ (λ z. absurd (kept_not input p z)) (λ t ok.
      let e : t ≡ s = (kept_case input t ok).shape in
      then_refused _ _
      (λ z. arriving_only p (ok ∙ ap done e) (rw e at z))
      (λ _ _. other_refused _ 10 0 _ (λ e. omega arith) (λ _ z. absurd (not_done (sym z)))))

  -- ---- and the other way round
  then_stops : {X Y : Type 0} (o : Outcome X) (next : X → Outcome Y) (n p : ℕ) → o ≡ refused n p → and_then o next ≡ refused n p
  unfolding and_then
  then_stops o next n p e = rw e

  short : BeforeRoom input f strand calls → TooFew input calls → arrive_outcome input f strand calls ≡ refused 14 (whole_calls calls)
  unfolding arrive_outcome arriving_outcome
  short before few =
      let off : leb m (length (room input.words s)) ≡ false = lt-leb m (length (room input.words s)) (omega (arith, room_length input.words s)) in
      let shaped : (eqb (length calls) (arriving_words * m) && within (pos 0) (pos max_strand) strand) ≡ true = rw (eq-eqb _ _ before.whole, before.strand_in) in
      let there : (ltb f s.f && not (fragment_of (case_of input) f).present) ≡ true = rw (lt-ltb _ _ before.below, before.absent) in
      let stops : arriving_outcome input f strand calls s ≡ refused 14 m = sym (
      unless_at _ 14 m _ off
      ∙ unless_on _ 13 f _ there
      ∙ unless_on _ 5 m _ shaped
      ∙ each_on 5 (arriving_rises calls) 0 m _ (all_from (arriving_rises calls) 0 m (λ i _ l. before.each_rises i (omega arith)))
      ∙ each_on 4 (arriving_ok input.words s calls) 0 m _ (all_from (arriving_ok input.words s calls) 0 m (λ i _ l. before.each_in i (omega arith)))
      ) in
      sym (then_on (kept_outcome input) _ s before.kept) ∙ then_stops (arriving_outcome input f strand calls s) _ 14 m stops

pub room_exactly : RoomExactly
room_exactly = record { short = short; only = only }
