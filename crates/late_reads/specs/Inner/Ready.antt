-- What holds past each test of an arrival and a departure, and the values in terms of the words. Assumes nothing.
use Rattle.std.specs.Prelude.{◌≡◌, true, false, not, cond, ◌&&◌, List, map, ℕ, ◌+◌, ◌-◌, ◌*◌, ◌≤◌, ◌<◌, eqb, ltb, leb, ℤ, pos, length, get_or}
use Rattle.variants_and_fragments.specs.declared.Sizes.{Sizes}
use Rattle.variants_and_fragments.specs.Case.{Fragment, Call, usable}
use Rattle.variants_and_fragments.specs.Chain.{present_at}
use Rattle.variants_and_fragments.specs.Decode.{tabulate_from, fragment_from}
use Rattle.variants_and_fragments.specs.Layout.{max_strand, cutoff_at}
use Rattle.variants_and_fragments.specs.Refusals.{Outcome, done, unless, each, Promise}
use Rattle.variants_and_fragments.specs.Words.{within}
use Rattle.variants_and_fragments.specs.Inner.Accepted.{CaseIn}
use Rattle.variants_and_fragments.specs.Inner.Sums.{DownTo}
use Rattle.pileup.specs.declared.reader.Call.{Call as CallHeld}
use Rattle.pileup.specs.Inner.Reader.{held_call}
use Rattle.haplotype_assembly.specs.Inner.PhaseRead.{phased_at}
use Rattle.sweeps.specs.Sweeps.{call_term}
use Rattle.late_reads.specs.Values.{Values, in_range, Fixed, arrived, departed}
use Rattle.late_reads.specs.Arriving.{arriving_words, whole_calls, arriving_call, arriving_read, arriving_ok, arriving_rises, room, arrived_words, departed_words}
use Rattle.late_reads.specs.LateReads.{LateAnswer, unsettled, LateSlices, late_slices}

-- the case is accepted, with its phase bytes and haplotypes
pub record ReadyCase (w : List ℤ) (s : Sizes) (phase haps : List ℕ) : Type 0 where
  pub case_in : CaseIn w s
  pub phase_long : length phase ≡ s.n
  pub haps_long : 2 * s.n ≤ length haps

-- so are the values: the slices are long enough, and what is lent is in range
pub record Kept (w : List ℤ) (s : Sizes) (phase haps : List ℕ) (kept : Values) : Type 0 where
  pub ready : ReadyCase w s phase haps
  pub likelihoods_long : 2 * s.f ≤ length kept.likelihoods
  pub counts_long : 10 * s.n ≤ length kept.counts
  pub ranged : in_range s.n s.f kept ≡ true

-- the arriving calls are right, fragment f is absent, and there is room
pub record Arriving (w : List ℤ) (s : Sizes) (f : ℕ) (strand : ℤ) (calls : List ℤ) : Type 0 where
  pub each_in : (i : ℕ) → i < whole_calls calls → arriving_ok w s calls i ≡ true
  pub each_rises : (i : ℕ) → i < whole_calls calls → arriving_rises calls i ≡ true
  pub whole : length calls ≡ arriving_words * whole_calls calls
  pub strand_in : within (pos 0) (pos max_strand) strand ≡ true
  pub below : f < s.f
  pub absent : present_at w s f ≡ false
  pub fits : whole_calls calls ≤ length (room w s)

-- a call of an arrival: its variant is one of the case's, and both qualities are in −262144..0
pub record CallArriving (s : Sizes) (call : Call) : Type 0 where
  pub variant_in : call.variant < s.n
  pub qual_in : DownTo 262144 call.qual
  pub one_minus_qual_in : DownTo 262144 call.one_minus_qual

-- the arriving calls from call i on, as the code holds them
abbrev pub arriving_left : List ℤ → ℕ → List CallHeld
arriving_left calls i = map held_call (tabulate_from (arriving_call calls) i (whole_calls calls - i))

-- the tests of an arrival, in terms of the words
unfoldable pub arriving_tests : List ℤ → Sizes → ℕ → ℤ → List ℤ → Outcome Sizes
arriving_tests w s f strand calls =
    let m = whole_calls calls in
    each 4 (arriving_ok w s calls) 0 m
    (each 5 (arriving_rises calls) 0 m
    (unless (eqb (length calls) (arriving_words * m) && within (pos 0) (pos max_strand) strand) 5 m
    (unless (ltb f s.f && not (present_at w s f)) 13 f
    (unless (leb m (length (room w s))) 14 m
    (done s)))))

-- ---- the values, in terms of the words
-- what a call of read x adds to its likelihood on haplotype h
unfoldable pub share_on : Fixed → Fragment → ℕ → Call → ℤ
share_on fixed x h call =
    cond (usable fixed.cutoff x call && fixed.phased call.variant) (call_term call (get_or fixed.haps (2 * call.variant + h) 0)) (pos 0)

abbrev pub fixed_at : List ℤ → List ℕ → List ℕ → Fixed
fixed_at w phase haps = record { cutoff = cutoff_at w; phased = phased_at w phase; haps = haps }

abbrev pub arrived_at : List ℤ → Sizes → List ℕ → List ℕ → Values → ℕ → ℤ → List ℤ → Values
arrived_at w s phase haps kept f strand calls = arrived (fixed_at w phase haps) s.n f (arriving_read strand calls) kept

abbrev pub departed_at : List ℤ → Sizes → Values → ℕ → Values
departed_at w s kept f = departed (cutoff_at w) s.n f (fragment_from w s f) kept

-- the last test, of what would be written
abbrev pub ranged_outcome : Sizes → Values → Outcome LateAnswer
ranged_outcome s after = unless (in_range s.n s.f after) 10 0 (done (unsettled after))

-- what is promised past the tests before it
abbrev pub ArrivesKept : List ℤ → Sizes → List ℕ → List ℕ → Values → ℕ → ℤ → List ℤ → Outcome LateAnswer → LateSlices → Type 0
ArrivesKept w s phase haps kept f strand calls answer after =
    let x = arrived_at w s phase haps kept f strand calls in
    Promise (ranged_outcome s x) (late_slices (arrived_words w s f strand calls) x.likelihoods x.counts) (late_slices w kept.likelihoods kept.counts) answer after

abbrev pub DepartsKept : List ℤ → Sizes → Values → ℕ → Outcome LateAnswer → LateSlices → Type 0
DepartsKept w s kept f answer after =
    let x = departed_at w s kept f in
    Promise (ranged_outcome s x) (late_slices (departed_words w s f) x.likelihoods x.counts) (late_slices w kept.likelihoods kept.counts) answer after
