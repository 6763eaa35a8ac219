-- Request 1: the values that a list of arrivals and departures starts from. The counts are words of what calling without haplotypes writes. The
-- likelihoods and the end total of a run are those of the haplotypes that it ends with, and the slice that it writes has these at every variant of
-- the case. A likelihood and the phased total ask for no others, since the calls of an accepted case are at its variants: so both are the same of
-- the whole slice, whatever lies past.
-- Assumes nothing.
use mathlib.Core.Path.{◌≡◌, refl, sym, ap, ◌∙◌}
use mathlib.Core.Bool.{Bool, cond}
use mathlib.Core.List.{List, [], ◌∷◌}
use Prim.Native.Nat.{ℕ, ◌+◌, ◌*◌, ◌/◌, ◌%◌, ◌≤◌, ◌<◌}
use native.Mathlib.Omega.{arith}
use lib.IntN.{ℤ, pos}
use lib.ListN.{length, get_or}
use Rattle.variants_and_fragments.specs.Case.{Case, Fragment, Call, fragment_of, variant_of}
use Rattle.variants_and_fragments.specs.Check.{check_case_outcome}
use Rattle.variants_and_fragments.specs.Pileup.{usable_calls}
use Rattle.variants_and_fragments.specs.Refusals.{done, afterwards}
use Rattle.variants_and_fragments.specs.Sums.{sum_over}
use Rattle.variants_and_fragments.specs.Inner.Case.{All, end, also, GoodFragment, GoodCase}
use Rattle.variants_and_fragments.proofs.Accepted.{case_in}
use Rattle.variants_and_fragments.proofs.Alls.{all_imp, all_map}
use Rattle.variants_and_fragments.proofs.Decoded.{variants_are, fragments_are}
use Rattle.variants_and_fragments.proofs.GoodCases.{good_case, fragment_in}
use Rattle.variants_and_fragments.proofs.Outcomes.{unless_past, each_past, enough_past, then_past}
use Rattle.variants_and_fragments.proofs.Short.{short_fits}
use Rattle.variants_and_fragments.proofs.Sums.{sum_same, sum_to_cong}
use Rattle.variants_and_fragments.proofs.Usable.{usable_in}
use Rattle.variants_and_fragments.proofs.Written.{written_at}
use Rattle.genotype_probs.specs.declared.Rates.{Rates}
use Rattle.genotype_probs.specs.Priors.{get_prior}
use Rattle.haplotype_assembly.specs.Phase.{phased_flags}
use Rattle.haplotype_assembly.proofs.PhaseLaws.{phase_past}
use Rattle.sweeps.specs.Sweeps.{allele0, allele1, likelihood, read_share, total_of, phased_total}
use Rattle.likelihoods.specs.SweepCaseOf.{sweep_case_of}
use Rattle.likelihoods.proofs.SweepCases.{frag_is}
use Rattle.no_haplotypes.specs.NoHaplotypes.{answer_at, CallSlices, call_genotypes_no_haplotypes_written}
use Rattle.with_haplotypes.specs.declared.RoundAnswer.{RoundAnswer}
use Rattle.with_haplotypes.specs.Round.{RoundInput, case_of_round, run_of, sweep_case, result, returned, haplotype_at, likelihood_at}
use Rattle.with_haplotypes.specs.Promise.{RoundSlices, round_needs, call_genotypes_with_haplotypes_outcome, call_genotypes_with_haplotypes_written, CalledWithHaplotypes}
use Rattle.late_reads.specs.Values.{values}
use Rattle.afresh.specs.Fresh.{sweeps_of, count_word_at, Fresh}
use Rattle.afresh.specs.Started.{StartsFresh}

-- ---- calling without haplotypes
pub counts_written : (rates : Rates) (case : Case) (before : CallSlices) → 13 * length case.variants ≤ length before.variants → (e : ℕ) → e < 10 * length case.variants
    → get_or (call_genotypes_no_haplotypes_written rates case before).variants (count_word_at e) (pos 0) ≡ answer_at rates case (count_word_at e)
unfolding call_genotypes_no_haplotypes_written
counts_written rates case before long e h = written_at (answer_at rates case) (13 * length case.variants) before.variants (pos 0) long (count_word_at e) (omega arith)

-- ---- haplotypes that are the same at the first n variants
-- calls at these variants ask for no others
likelihood_haps_same : (m : ℕ → Bool) (a b : ℕ → ℕ) (n : ℕ) → ((v : ℕ) → v < n → a v ≡ b v) → (calls : List Call) → All (λ call. call.variant < n) calls → likelihood m a calls ≡ likelihood m b calls
unfolding likelihood
likelihood_haps_same m a b n same [] end = refl
likelihood_haps_same m a b n same (call ∷ calls) (also h hs) = rw (same call.variant h, likelihood_haps_same m a b n same calls hs)

module _ (rates : Rates) (case : Case) (phase : List ℕ) (good : GoodCase case) (haps other : List ℕ)
    (same : (v i : ℕ) → v < length case.variants → i < 2 → get_or haps (2 * v + i) 0 ≡ get_or other (2 * v + i) 0) where
  abbrev phased : ℕ → Bool
  phased = phased_flags case phase

  usable_below : (x : Fragment) → GoodFragment case.variants x → All (λ call. call.variant < length case.variants) (usable_calls case.cutoff x)
  usable_below x right = all_imp (λ call g. g.variant_in) (usable_in case.cutoff right)

  -- a fragment's likelihood on haplotype i
  read_same : (x : Fragment) → GoodFragment case.variants x → (i : ℕ) → i < 2
      → likelihood phased (λ v. get_or haps (2 * v + i) 0) (usable_calls case.cutoff x) ≡ likelihood phased (λ v. get_or other (2 * v + i) 0) (usable_calls case.cutoff x)
  read_same x right i l = likelihood_haps_same phased (λ v. get_or haps (2 * v + i) 0) (λ v. get_or other (2 * v + i) 0) (length case.variants) (λ v h. same v i h l) (usable_calls case.cutoff x) (usable_below x right)

  -- element e of the likelihoods
  likelihoods_same : (e : ℕ) → e < 2 * length case.fragments
      → likelihood phased (λ v. get_or haps (2 * v + e % 2) 0) (get_or (sweeps_of rates case phase).frags (e / 2) [])
      ≡ likelihood phased (λ v. get_or other (2 * v + e % 2) 0) (get_or (sweeps_of rates case phase).frags (e / 2) [])
  likelihoods_same e h = rw (frag_is rates phased case (e / 2)) (read_same (fragment_of case (e / 2)) (fragment_in good (e / 2) (omega arith)) (e % 2) (omega arith))

  -- v's pair
  first_same : (v : ℕ) → v < length case.variants → allele0 haps v ≡ allele0 other v
  first_same v h = let z : 2 * v + 0 ≡ 2 * v = omega arith in rw z at (same v 0 h (omega arith))

  second_same : (v : ℕ) → v < length case.variants → allele1 haps v ≡ allele1 other v
  second_same v h = same v 1 h (omega arith)

  -- a fragment's share of the total
  share_same : (x : Fragment) → GoodFragment case.variants x
      → read_share (sweeps_of rates case phase) phased haps (usable_calls case.cutoff x) ≡ read_share (sweeps_of rates case phase) phased other (usable_calls case.cutoff x)
  unfolding read_share
  share_same x right =
      let calls = usable_calls case.cutoff x in
      let n = length case.variants in
      cc (
        likelihood_haps_same phased (allele0 haps) (allele0 other) n first_same calls (usable_below x right),
        likelihood_haps_same phased (allele1 haps) (allele1 other) n second_same calls (usable_below x right),
      )

  shares_same : sum_over (sweeps_of rates case phase).frags (read_share (sweeps_of rates case phase) phased haps) ≡ sum_over (sweeps_of rates case phase).frags (read_share (sweeps_of rates case phase) phased other)
  unfolding sweep_case_of
  shares_same = sum_same (all_map (usable_calls case.cutoff) case.fragments (all_imp share_same good.fragments_in))

  total_same : phased_total (sweeps_of rates case phase) haps ≡ phased_total (sweeps_of rates case phase) other
  unfolding total_of sweep_case_of
  total_same =
      cc (
        sum_to_cong (length case.variants)
            (λ w. cond (phased w) (get_prior rates (variant_of case w) (allele0 haps w) (allele1 haps w)) (pos 0))
            (λ w. cond (phased w) (get_prior rates (variant_of case w) (allele0 other w) (allele1 other w)) (pos 0))
            (λ w h. rw (first_same w h, second_same w h)),
        shares_same,
      )

-- ---- a run that is done
-- what its tests say: the case is accepted, and there is room for what is written; and what it answers
record Passed (input : RoundInput) (before : RoundSlices) (answer : RoundAnswer) : Type 0 where
  good : GoodCase (case_of_round input)
  haplotypes_long : 2 * length (case_of_round input).variants ≤ length before.haplotypes
  likelihoods_long : 2 * length (case_of_round input).fragments ≤ length before.likelihoods
  answer_is : returned (run_of input) ≡ answer

passed : (input : RoundInput) (sets : List ℤ) (before : RoundSlices) (answer : RoundAnswer) → call_genotypes_with_haplotypes_outcome input sets before ≡ done answer → Passed input before answer
unfolding call_genotypes_with_haplotypes_outcome
passed input sets before answer h =
    let t = then_past (check_case_outcome input.words input.bases) _ answer h in
    let s = t.0 in
    let k = case_in input.words input.bases s t.1.0 in
    let a = each_past 6 _ 0 7 _ answer t.1.1 in
    let b = phase_past s.n input.phase sets _ answer a.1 in
    let c = then_past _ _ answer b.1 in
    let d = unless_past _ 9 input.limit _ answer c.1.1 in
    let f = enough_past (round_needs s.n s.f before) _ answer d.1 in
    let g = each_past 12 _ 0 s.n (done (returned (run_of input))) answer f.1 in
    let x = short_fits (2 * s.n) (length before.haplotypes) _ f.0 in
    let y = short_fits (2 * s.f) (length before.likelihoods) _ x.1 in
    let last = g.1 in
    record {
      good = good_case input.words input.bases s t.1.0;
      haplotypes_long = omega (arith, variants_are k input.bases);
      likelihoods_long = omega (arith, fragments_are k input.bases);
      answer_is = cc;
    }

module _ (input : RoundInput) (sets : List ℤ) (before after : RoundSlices) (answer : RoundAnswer) (told : CalledWithHaplotypes input sets before (done answer) after) where
  abbrev case : Case
  case = case_of_round input

  -- the haplotypes that the run ends with
  abbrev ends : List ℕ
  ends = (result (run_of input)).haps

  tests : Passed input before answer
  tests = passed input sets before answer (sym told.promise.answers)

  slices_are : after ≡ call_genotypes_with_haplotypes_written input before
  unfolding afterwards
  slices_are = told.promise.slices

  haplotype_is : (e : ℕ) → e < 2 * length case.variants → get_or after.haplotypes e 0 ≡ get_or ends e 0
  unfolding call_genotypes_with_haplotypes_written haplotype_at
  haplotype_is e h = rw slices_are (written_at (haplotype_at (run_of input)) (2 * length case.variants) before.haplotypes 0 tests.haplotypes_long e h)

  likelihood_is : (e : ℕ) → e < 2 * length case.fragments → get_or after.likelihoods e (pos 0) ≡ likelihood_at (run_of input) e
  unfolding call_genotypes_with_haplotypes_written
  likelihood_is e h = rw slices_are (written_at (likelihood_at (run_of input)) (2 * length case.fragments) before.likelihoods (pos 0) tests.likelihoods_long e h)

  likelihood_ends : (e : ℕ) → likelihood_at (run_of input) e
      ≡ likelihood (phased_flags case input.phase) (λ v. get_or ends (2 * v + e % 2) 0) (get_or (sweeps_of input.rates case input.phase).frags (e / 2) [])
  unfolding likelihood_at sweep_case sweep_case_of
  likelihood_ends e = refl

  end_is : answer.end.0 ≡ phased_total (sweeps_of input.rates case input.phase) ends
  unfolding returned sweep_case
  end_is = ap (λ (x : RoundAnswer). x.end.0) (sym tests.answer_is)

  at_variants : (v i : ℕ) → v < length case.variants → i < 2 → get_or ends (2 * v + i) 0 ≡ get_or after.haplotypes (2 * v + i) 0
  at_variants v i h l = sym (haplotype_is (2 * v + i) (omega arith))

  pub started : (counts : List ℤ) → ((e : ℕ) → e < 10 * length case.variants → get_or counts e (pos 0) ≡ answer_at input.rates case (count_word_at e))
      → Fresh input.rates case input.phase after.haplotypes (values after.likelihoods counts answer.end.0)
  started counts right = record {
    likelihoods = λ e h. likelihood_is e h ∙ likelihood_ends e ∙ likelihoods_same input.rates case input.phase tests.good ends after.haplotypes at_variants e h;
    counts = right;
    total = end_is ∙ total_same input.rates case input.phase tests.good ends after.haplotypes at_variants;
  }

pub starts_fresh : StartsFresh
starts_fresh = record { counts_written = counts_written; started = started }
