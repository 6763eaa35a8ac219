-- Request 5: every operation answers as on the case of the reference run, and writes the same.
-- Assumes nothing.
use Rattle.std.specs.Prelude.{◌≡◌, Bool, true, List, ℕ, Float, ℤ}
use Rattle.variants_and_fragments.specs.declared.Sizes.{Sizes}
use Rattle.variants_and_fragments.specs.Case.{votes, fragment_of}
use Rattle.variants_and_fragments.specs.Check.{check_case_outcome}
use Rattle.variants_and_fragments.specs.Decode.{decode}
use Rattle.variants_and_fragments.specs.Refusals.{Outcome, done}
use Rattle.var_filter.specs.Filter.{Limits}
use Rattle.var_filter.specs.Filtered.{var_filter_outcome, var_filter_written}
use Rattle.genotype_probs.specs.declared.Rates.{Rates}
use Rattle.genotype_probs.specs.Answers.{genotype_priors_outcome, genotype_priors_written}
use Rattle.haplotype_assembly.specs.GivenPhase.{PhaseSlices, given_phase_outcome, given_phase_written}
use Rattle.haplotype_assembly.specs.FlistBuffer.{generate_flist_buffer_outcome, generate_flist_buffer_written}
use Rattle.shuffle.specs.Answers.{sweep_orders_outcome, sweep_orders_written}
use Rattle.no_haplotypes.specs.NoHaplotypes.{CallSlices, call_genotypes_no_haplotypes_outcome, call_genotypes_no_haplotypes_written}
use Rattle.with_haplotypes.specs.Round.{round_input}
use Rattle.with_haplotypes.specs.Promise.{RoundSlices, call_genotypes_with_haplotypes_outcome, call_genotypes_with_haplotypes_written}
use Rattle.late_reads.specs.Values.{Values}
use Rattle.late_reads.specs.LateReads.{LateSlices, late_input, arrive_outcome, arrive_written, depart_outcome, depart_written}
use Rattle.muted.specs.Unmuted.{unmuted_case, unmuted_words}

-- what an operation answers on words, and what it leaves in the slices where it is done (`Promise` of variants_and_fragments/specs/Refusals.antt has
-- both), are the same on w and on w'
abbrev pub Same : {X S : Type 0} → List ℤ → List ℤ → (List ℤ → Outcome X) → (List ℤ → S) → Type 0
Same w w' outcome written = (outcome w ≡ outcome w') × (written w ≡ written w')

-- what an arrival or a departure leaves beside the words, in which the strands and qualities of muted reads stand on
abbrev pub beside_words : LateSlices → List ℤ × List ℤ
beside_words slices = (slices.likelihoods, slices.counts)

-- on w and w' with the bases b each operation answers and writes the same, whatever else it is given
pub record SameAnswers (b : List ℕ) (w w' : List ℤ) : Type 0 where
  pub check : check_case_outcome w b ≡ check_case_outcome w' b
  pub filter : (quals : List Float) (limits : Limits) (before : List ℕ)
      → Same w w' (λ v. var_filter_outcome v b quals limits before) (λ v. var_filter_written (decode v b) quals limits before)
  pub priors : (rates : Rates) (before : List ℤ)
      → Same w w' (λ v. genotype_priors_outcome v b rates before) (λ v. genotype_priors_written rates (decode v b) before)
  pub nohap : (rates : Rates) (before : CallSlices)
      → Same w w' (λ v. call_genotypes_no_haplotypes_outcome v b rates before) (λ v. call_genotypes_no_haplotypes_written rates (decode v b) before)
  pub phase : (bytes : List ℕ) (sets : List ℤ) (before : PhaseSlices)
      → Same w w' (λ v. given_phase_outcome v b bytes sets before) (λ v. given_phase_written (decode v b) bytes sets before)
  pub flist : (single : Bool) (before : List ℕ)
      → Same w w' (λ v. generate_flist_buffer_outcome v b single before) (λ v. generate_flist_buffer_written (decode v b) single before)
  pub orders : (seed : ℕ) (before : List ℕ)
      → Same w w' (λ v. sweep_orders_outcome v b before) (λ v. sweep_orders_written (decode v b) seed before)
  pub run : (rates : Rates) (phase : List ℕ) (sets : List ℤ) (orders : List ℕ) (limit : ℕ) (before : RoundSlices)
      → Same w w' (λ v. call_genotypes_with_haplotypes_outcome (round_input v b rates phase orders limit) sets before)
      (λ v. call_genotypes_with_haplotypes_written (round_input v b rates phase orders limit) before)
  pub arrive : (phase haps : List ℕ) (kept : Values) (f : ℕ) (strand : ℤ) (calls : List ℤ)
      → Same w w' (λ v. arrive_outcome (late_input v b phase haps kept) f strand calls) (λ v. beside_words (arrive_written (late_input v b phase haps kept) f strand calls))
  pub depart : (phase haps : List ℕ) (kept : Values) (f : ℕ)
      → Same w w' (λ v. depart_outcome (late_input v b phase haps kept) f) (λ v. beside_words (depart_written (late_input v b phase haps kept) f))

-- of an accepted case, with these words, bases and sizes: `as_unmuted` of proofs/SameAnswers.antt
pub record AsUnmuted (w : List ℤ) (b : List ℕ) (s : Sizes) : Type 0 where
  -- the words of the reference run are accepted, stand for its case, and no fragment of it is muted
  pub accepted : check_case_outcome (unmuted_words w) b ≡ done s
  pub stands : decode (unmuted_words w) b ≡ unmuted_case (decode w b)
  pub voting : (f : ℕ) → votes (fragment_of (unmuted_case (decode w b)) f).strand ≡ true
  -- each operation answers and writes the same
  pub same : SameAnswers b w (unmuted_words w)
