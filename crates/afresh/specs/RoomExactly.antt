-- Request 3: an arrival "is turned down for want of records exactly when free and unused records together are fewer than its calls", the tests before that
-- having passed.
-- Assumes nothing.
use Rattle.std.specs.Prelude.{◌≡◌, true, false, List, ℕ, ◌+◌, ◌-◌, ◌*◌, ◌<◌, ℤ, pos, length}
use Rattle.variants_and_fragments.specs.Case.{fragment_of}
use Rattle.variants_and_fragments.specs.Chain.{free_chain}
use Rattle.variants_and_fragments.specs.Layout.{max_strand, sizes_of}
use Rattle.variants_and_fragments.specs.Refusals.{done, refused}
use Rattle.variants_and_fragments.specs.Words.{within}
use Rattle.late_reads.specs.Arriving.{arriving_words, whole_calls, arriving_ok, arriving_rises}
use Rattle.late_reads.specs.LateReads.{LateInput, case_of, kept_outcome, arrive_outcome}

-- free and unused records together are fewer than the calls
abbrev pub TooFew : LateInput → List ℤ → Type 0
TooFew input calls = let s = sizes_of input.words in length (free_chain input.words s) + (s.c - s.used) < whole_calls calls

-- the tests before that: the case, the slices and the values lent; 4 and 5 of the arriving calls; 5 of their length and the strand; 13
pub record BeforeRoom (input : LateInput) (f : ℕ) (strand : ℤ) (calls : List ℤ) : Type 0 where
  pub kept : kept_outcome input ≡ done (sizes_of input.words)
  pub each_in : (i : ℕ) → i < whole_calls calls → arriving_ok input.words (sizes_of input.words) calls i ≡ true
  pub each_rises : (i : ℕ) → i < whole_calls calls → arriving_rises calls i ≡ true
  pub whole : length calls ≡ arriving_words * whole_calls calls
  pub strand_in : within (pos 0) (pos max_strand) strand ≡ true
  pub below : f < (sizes_of input.words).f
  pub absent : (fragment_of (case_of input) f).present ≡ false

-- 14, with the number of its calls as the place, where there are too few records, and only there
pub record RoomExactly : Type 0 where
  pub short : (input : LateInput) (f : ℕ) (strand : ℤ) (calls : List ℤ) → BeforeRoom input f strand calls → TooFew input calls
      → arrive_outcome input f strand calls ≡ refused 14 (whole_calls calls)
  pub only : (input : LateInput) (f : ℕ) (strand : ℤ) (calls : List ℤ) (p : ℕ) → arrive_outcome input f strand calls ≡ refused 14 p
      → (p ≡ whole_calls calls) × TooFew input calls × BeforeRoom input f strand calls
