-- Request 1: what a list of accepted arrivals and departures leaves, and that its values are fresh. Each step is one outcome of a public
-- operation, done, with the slices that its promise gives and the total that it answers.
-- Assumes nothing.
use Rattle.std.specs.Prelude.{◌≡◌, false, List, [], ℕ, ℤ}
use Rattle.variants_and_fragments.specs.Case.{fragment_of}
use Rattle.variants_and_fragments.specs.Check.{check_case_and_haplotypes_outcome}
use Rattle.variants_and_fragments.specs.Decode.{decode}
use Rattle.variants_and_fragments.specs.First.{first_fail}
use Rattle.variants_and_fragments.specs.Layout.{sizes_of}
use Rattle.variants_and_fragments.specs.Refusals.{done, refused}
use Rattle.genotype_probs.specs.declared.Rates.{Rates}
use Rattle.genotype_probs.specs.Rates.{rate_test}
use Rattle.late_reads.specs.Values.{Values, values, exchanged}
use Rattle.late_reads.specs.Arriving.{arriving_read}
use Rattle.late_reads.specs.LateReads.{LateInput, late_input, LateAnswer, LateSlices, arrive_outcome, arrive_written, depart_outcome, depart_written}
use Rattle.afresh.specs.Fresh.{Fresh}

-- what a caller keeps from one operation to the next. The bases, the phase bytes and the haplotypes are read only: they do not move
pub record Stand : Type 0 where
  pub words : List ℤ
  pub kept : Values

-- the slices that an operation leaves, and the total that it answers
abbrev pub standing : LateSlices → LateAnswer → Stand
standing slices answer = record { words = slices.words; kept = values slices.likelihoods slices.counts answer.total }

abbrev pub input_of : List ℕ → List ℕ → List ℕ → Stand → LateInput
input_of bases phase haps x = late_input x.words bases phase haps x.kept

-- a list of accepted arrivals and departures leads from one stand to another
pub data Leaves (bases phase haps : List ℕ) : Stand → Stand → Type 0 where
  none : {x : Stand} → Leaves bases phase haps x x
  arrives : {x y : Stand} (f : ℕ) (strand : ℤ) (calls : List ℤ) (answer : LateAnswer) → arrive_outcome (input_of bases phase haps x) f strand calls ≡ done answer
      → Leaves bases phase haps (standing (arrive_written (input_of bases phase haps x) f strand calls) answer) y → Leaves bases phase haps x y
  departs : {x y : Stand} (f : ℕ) (answer : LateAnswer) → depart_outcome (input_of bases phase haps x) f ≡ done answer
      → Leaves bases phase haps (standing (depart_written (input_of bases phase haps x) f) answer) y → Leaves bases phase haps x y

-- the case is accepted, with these haplotypes and so without any (`checked_case` of variants_and_fragments/proofs/Accepted.antt), and the
-- values are those of the fragments present taken afresh
pub record FreshStand (bases phase haps : List ℕ) (rates : Rates) (x : Stand) : Type 0 where
  pub accepted : check_case_and_haplotypes_outcome x.words bases haps ≡ done (sizes_of x.words)
  pub fresh : Fresh rates (decode x.words bases) phase haps x.kept

-- An operation that is done exchanges one fragment of the case: nothing else of it moves, no genotype, no other fragment, not the cutoff
pub record ExchangesOne (bases phase haps : List ℕ) : Type 0 where
  pub arrival : (x : Stand) (f : ℕ) (strand : ℤ) (calls : List ℤ) (answer : LateAnswer) → arrive_outcome (input_of bases phase haps x) f strand calls ≡ done answer
      → decode (arrive_written (input_of bases phase haps x) f strand calls).words bases ≡ exchanged (decode x.words bases) f (arriving_read strand calls)
  -- its strand as it was, and no calls
  pub departure : (x : Stand) (f : ℕ) (answer : LateAnswer) → depart_outcome (input_of bases phase haps x) f ≡ done answer
      → decode (depart_written (input_of bases phase haps x) f).words bases
      ≡ exchanged (decode x.words bases) f (record { present = false; strand = (fragment_of (decode x.words bases) f).strand; calls = [] })

-- "Started from freshly computed values, after every list of accepted arrivals and departures alone the updated values equal those of the
-- fragments then present taken afresh", under any rates; and at rates that 6 accepts the ranges hold by themselves
pub record KeepsFresh (bases phase haps : List ℕ) : Type 0 where
  pub keeps : (rates : Rates) {x y : Stand} → Leaves bases phase haps x y → FreshStand bases phase haps rates x → FreshStand bases phase haps rates y
  pub arrival_in_range : (rates : Rates) → first_fail (rate_test rates) 7 ≡ 7 → (x : Stand) → FreshStand bases phase haps rates x → (f : ℕ) (strand : ℤ) (calls : List ℤ)
      → arrive_outcome (input_of bases phase haps x) f strand calls ≡ refused 10 0 → ⊥
  pub departure_in_range : (rates : Rates) → first_fail (rate_test rates) 7 ≡ 7 → (x : Stand) → FreshStand bases phase haps rates x → (f : ℕ)
      → depart_outcome (input_of bases phase haps x) f ≡ refused 10 0 → ⊥
