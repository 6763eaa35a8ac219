-- Requests 1, 3 and 5: what `arrive` and `depart` answer and write. The order of the tests is document 01's, then the ranges before, the arriving calls, 13,
-- 14, and the ranges after.
-- Assumes nothing.
use Rattle.std.specs.Prelude.{Result, Bool, false, not, ◌&&◌, List, [], ◌∷◌, ℕ, ◌*◌, eqb, ltb, leb, ℤ, pos, length}
use Rattle.steps.specs.declared.LogProb.{LogProb}
use Rattle.variants_and_fragments.specs.declared.Refusal.{Refusal}
use Rattle.variants_and_fragments.specs.declared.Sizes.{Sizes}
use Rattle.variants_and_fragments.specs.Case.{Case, fragment_of}
use Rattle.variants_and_fragments.specs.Check.{check_case_and_haplotypes_outcome}
use Rattle.variants_and_fragments.specs.Decode.{decode}
use Rattle.variants_and_fragments.specs.Layout.{max_strand, sizes_of}
use Rattle.variants_and_fragments.specs.Refusals.{Outcome, done, answered, unless, each, and_then, long_enough, Promise}
use Rattle.variants_and_fragments.specs.Words.{within}
use Rattle.haplotype_assembly.specs.Phase.{phased_flags}
use Rattle.late_reads.specs.Values.{Values, in_range, Fixed, arrived, departed}
use Rattle.late_reads.specs.Arriving.{arriving_words, whole_calls, arriving_read, arriving_ok, arriving_rises, room, arrived_words, departed_words}

-- what both operations read: the case, the phase bytes, the haplotypes and the values
pub record LateInput : Type 0 where
  pub words : List ℤ
  pub bases : List ℕ
  pub phase : List ℕ
  pub haplotypes : List ℕ
  pub kept : Values

abbrev pub late_input : List ℤ → List ℕ → List ℕ → List ℕ → Values → LateInput
late_input words bases phase haplotypes kept = record { words = words; bases = bases; phase = phase; haplotypes = haplotypes; kept = kept }

abbrev pub case_of : LateInput → Case
case_of input = decode input.words input.bases

-- what stays while reads come and go, of a case under a phase, at these haplotypes
abbrev pub fixed_by : Case → List ℕ → List ℕ → Fixed
fixed_by case phase haps = record { cutoff = case.cutoff; phased = phased_flags case phase; haps = haps }

abbrev pub fixed_of : LateInput → Fixed
fixed_of input = fixed_by (case_of input) input.phase input.haplotypes

-- "An accepted arrival or departure answers unsettled", and the new total
pub record LateAnswer : Type 0 where
  pub settled : Bool
  pub total : ℤ

abbrev pub unsettled : Values → LateAnswer
unsettled after = record { settled = false; total = after.total }

-- the answer as an outcome
abbrev pub outcome_of : Result LogProb Refusal → Outcome LateAnswer
outcome_of answer = answered (λ total. record { settled = false; total = total.0 }) answer

-- 1 to 5, the case, where 2 looks at the haplotypes too; 7, the phase bytes; 10, 2 N haplotypes, 2 F likelihoods and 10 N counts; 10 at place
-- 0, the values lent
unfoldable pub kept_outcome : LateInput → Outcome Sizes
kept_outcome input =
    and_then (check_case_and_haplotypes_outcome input.words input.bases input.haplotypes) (λ s.
    unless (eqb (length input.phase) s.n) 7 s.n
    (long_enough ((2 * s.n, length input.haplotypes) ∷ (2 * s.f, length input.kept.likelihoods) ∷ (10 * s.n, length input.kept.counts) ∷ [])
    (unless (in_range s.n s.f input.kept) 10 0
    (done s))))

-- ---- the lent slices that are written
pub record LateSlices : Type 0 where
  pub words : List ℤ
  pub likelihoods : List ℤ
  pub counts : List ℤ

abbrev pub late_slices : List ℤ → List ℤ → List ℤ → LateSlices
late_slices words likelihoods counts = record { words = words; likelihoods = likelihoods; counts = counts }

abbrev pub lent_slices : LateInput → LateSlices
lent_slices input = late_slices input.words input.kept.likelihoods input.kept.counts

-- ---- an arrival as fragment f, with its strand and its calls
module _ (input : LateInput) (f : ℕ) (strand : ℤ) (calls : List ℤ) where
  unfoldable pub arrived_values : Values
  arrived_values = arrived (fixed_of input) (length (case_of input).variants) f (arriving_read strand calls) input.kept

  -- the arriving calls: 4 and 5 at the first wrong one, 5 at their number for a broken length or a strand that the layout lacks; 13, the number
  -- is below F and its fragment absent; 14, free and unused records together are not fewer than the calls (request 3)
  unfoldable pub arriving_outcome : Sizes → Outcome Sizes
  arriving_outcome s =
      let m = whole_calls calls in
      each 4 (arriving_ok input.words s calls) 0 m
      (each 5 (arriving_rises calls) 0 m
      (unless (eqb (length calls) (arriving_words * m) && within (pos 0) (pos max_strand) strand) 5 m
      (unless (ltb f s.f && not (fragment_of (case_of input) f).present) 13 f
      (unless (leb m (length (room input.words s))) 14 m
      (done s)))))

  -- then 10 at place 0, what would be written
  unfoldable pub arrive_outcome : Outcome LateAnswer
  arrive_outcome =
      and_then (kept_outcome input) (λ s.
      and_then (arriving_outcome s) (λ s.
      unless (in_range s.n s.f arrived_values) 10 0
      (done (unsettled arrived_values))))

  unfoldable pub arrive_written : LateSlices
  arrive_written = late_slices (arrived_words input.words (sizes_of input.words) f strand calls) arrived_values.likelihoods arrived_values.counts

-- the promise, of the slices lent
abbrev pub Arrives : LateInput → ℕ → ℤ → List ℤ → Outcome LateAnswer → LateSlices → Type 0
Arrives input f strand calls answer after =
    Promise (arrive_outcome input f strand calls) (arrive_written input f strand calls) (lent_slices input) answer after

-- ---- the departure of fragment f
module _ (input : LateInput) (f : ℕ) where
  unfoldable pub departed_values : Values
  departed_values = departed (case_of input).cutoff (length (case_of input).variants) f (fragment_of (case_of input) f) input.kept

  -- 13, the number is below F and its fragment present; 10 at place 0, what would be written
  unfoldable pub depart_outcome : Outcome LateAnswer
  depart_outcome =
      and_then (kept_outcome input) (λ s.
      unless (ltb f s.f && (fragment_of (case_of input) f).present) 13 f
      (unless (in_range s.n s.f departed_values) 10 0
      (done (unsettled departed_values))))

  unfoldable pub depart_written : LateSlices
  depart_written = late_slices (departed_words input.words (sizes_of input.words) f) departed_values.likelihoods departed_values.counts

abbrev pub Departs : LateInput → ℕ → Outcome LateAnswer → LateSlices → Type 0
Departs input f answer after = Promise (depart_outcome input f) (depart_written input f) (lent_slices input) answer after
