-- At each return the tests before it went on and its own stopped, or none did.
use Rattle.std.proofs.Common.{◌≡◌, Bool, not, ◌&&◌, ◌||◌, refl, sym, ap, ◌∙◌, length, pos, ◌*◌, ◌<◌, false, ℕ, ℤ, List, rules, to_z, of_z, to_z-of_z, FitsSigned, w32}
use borrow.Author.Tests.{le-ltb, lt-ltb}
use lib.Dec.{eqb, ltb}
use Rattle.variants_and_fragments.specs.declared.Sizes.{Sizes}
use Rattle.variants_and_fragments.specs.Chain.{present_at}
use Rattle.variants_and_fragments.specs.Layout.{max_strand}
use Rattle.variants_and_fragments.specs.Refusals.{Outcome, refused, done, unless, each}
use Rattle.variants_and_fragments.specs.Words.{nat_of, within}
use Rattle.variants_and_fragments.proofs.Outcomes.{exit_is, each_stops, each_passes, unless_on, unless_at}
use Rattle.late_reads.specs.Arriving.{whole_calls, arriving_words, arriving_ok, arriving_rises}
use Rattle.late_reads.specs.Inner.Ready.{arriving_tests}
use Rattle.late_reads.proofs.ArrivalTests.{length_and_strand}
use Rattle.late_reads.proofs.arriving.arriving_fault.Goals as goal
use Rattle.late_reads.proofs.arriving.arriving_fault.Goals.{Else-not-has_room, then-case-f-via-then-case-f, then-case-f-via-else-case-f+then-is_present}

-- the test of the length and the strand
abbrev whole : List ℤ → ℤ → Bool
whole calls strand = eqb (length calls) (arriving_words * whole_calls calls) && within (pos 0) (pos max_strand) strand

whole_is : (calls : List ℤ) (strand : ℤ) {m k : ℕ} → FitsSigned w32 strand → m ≡ whole_calls calls → k ≡ nat_of (to_z w32 (of_z w32 strand)) → whole calls strand ≡ not (not (eqb (length calls) (arriving_words * m)) || ltb max_strand k)
whole_is calls strand fits e h = rw (e, h, to_z-of_z fits) (length_and_strand (length calls) (arriving_words * whole_calls calls) strand)

pub returns-in_err-check_calls : goal.returns-in_err-check_calls
unfolding arriving_tests
returns-in_err-check_calls c =
    rw (exit_is c.from_residual.ensures.1) (each_stops 4 _ 0 _ _ _ c.in_err-check_calls.ensures)

pub returns-in_err-check_rises : goal.returns-in_err-check_rises
unfolding arriving_tests
returns-in_err-check_rises c =
    rw (exit_is c.from_residual-in_err-check_rises.ensures.1)
    (each_stops 5 _ 0 _ _ _ c.in_err-check_rises.ensures ∙ each_passes 4 _ 0 _ _ c.in_ok-check_calls.ensures)

pub returns-then-read-m : goal.returns-then-read-m
unfolding arriving_tests
returns-then-read-m c =
    let read = c.args.read.now in
    ap (refused 5) c.count-m.ensures
    ∙ unless_at (whole read.calls.now read.strand) 5 _ _ (whole_is read.calls.now read.strand (search rules) c.count-m.ensures c.nat_of.ensures ∙ ap not c.if-read-m.true)
    ∙ each_passes 5 _ 0 _ _ c.in_ok-check_rises.ensures
    ∙ each_passes 4 _ 0 _ _ c.in_ok-check_calls.ensures

-- what is asked before the fragment: 4 and 5
abbrev fours_and_fives : List ℤ → Sizes → ℤ → List ℤ → Outcome Sizes → Outcome Sizes
fours_and_fives w s strand calls rest =
    each 4 (arriving_ok w s calls) 0 (whole_calls calls) (each 5 (arriving_rises calls) 0 (whole_calls calls) (unless (whole calls strand) 5 (whole_calls calls) rest))

past_fives : (w : List ℤ) (s : Sizes) (strand : ℤ) (calls : List ℤ) {m k : ℕ} → FitsSigned w32 strand → m ≡ whole_calls calls → k ≡ nat_of (to_z w32 (of_z w32 strand))
    → not (eqb (length calls) (arriving_words * m)) || ltb max_strand k ≡ false → ◌≡◌ {A = Outcome Unit} (done tt) (each 4 (arriving_ok w s calls) 0 (whole_calls calls) (done tt))
    → ◌≡◌ {A = Outcome Unit} (done tt) (each 5 (arriving_rises calls) 0 (whole_calls calls) (done tt)) → (rest : Outcome Sizes) → rest ≡ fours_and_fives w s strand calls rest
past_fives w s strand calls fits e h test fours fives rest =
    unless_on (whole calls strand) 5 _ rest (whole_is calls strand fits e h ∙ ap not test) ∙ each_passes 5 _ 0 _ _ fives ∙ each_passes 4 _ 0 _ _ fours

-- and 13: the fragment is one of the case's and absent
past_thirteen : (w : List ℤ) (s : Sizes) (f : ℕ) → f < s.f → present_at w s f ≡ false → (rest : Outcome Sizes) → rest ≡ unless (ltb f s.f && not (present_at w s f)) 13 f rest
past_thirteen w s f below absent rest = unless_on _ 13 f rest (rw (lt-ltb f s.f below, absent) refl)

pub returns-then-case-f : goal.returns-then-case-f
unfolding arriving_tests
returns-then-case-f c =
    let f = c.args.read.now.fragment in
    let s = c.args.case.now.laid.sizes in
    elim c.then-case-f.branch [
      | then-case-f-via-then-case-f w ↦ unless_at _ 13 f _ (rw (le-ltb f s.f w.if-case-f.true) refl)
      | then-case-f-via-else-case-f+then-is_present w ↦ unless_at _ 13 f _ (rw (lt-ltb f s.f w.if-case-f.false, sym w.is_present.ensures ∙ w.if-is_present.true) refl)
    ]
    ∙ past_fives _ _ _ _ (search rules) c.count-m.ensures c.nat_of.ensures c.if-read-m.false c.in_ok-check_calls.ensures c.in_ok-check_rises.ensures _

pub returns-then-not-has_room : goal.returns-then-not-has_room
unfolding arriving_tests
returns-then-not-has_room c =
    ap (refused 14) c.count-m.ensures
    ∙ unless_at _ 14 _ _ (rw c.count-m.ensures at (sym c.has_room.ensures ∙ c.if-not-has_room.true))
    ∙ past_thirteen _ c.args.case.now.laid.sizes _ c.if-case-f.false (sym c.is_present.ensures ∙ c.if-is_present.false) _
    ∙ past_fives _ _ _ _ (search rules) c.count-m.ensures c.nat_of.ensures c.if-read-m.false c.in_ok-check_calls.ensures c.in_ok-check_rises.ensures _

-- none stops
passed : (c : Else-not-has_room) → done c.args.case.now.laid.sizes ≡ arriving_tests c.args.case.now.laid.words.now c.args.case.now.laid.sizes c.args.read.now.fragment c.args.read.now.strand c.args.read.now.calls.now
unfolding arriving_tests
passed c =
    unless_on _ 14 _ _ (rw c.count-m.ensures at (sym c.has_room.ensures ∙ c.if-not-has_room.false))
    ∙ past_thirteen _ c.args.case.now.laid.sizes _ c.if-case-f.false (sym c.is_present.ensures ∙ c.if-is_present.false) _
    ∙ past_fives _ _ _ _ (search rules) c.count-m.ensures c.nat_of.ensures c.if-read-m.false c.in_ok-check_calls.ensures c.in_ok-check_rises.ensures _

pub returns : goal.returns
returns c = passed (goal.at.returns c).Else-not-has_room
