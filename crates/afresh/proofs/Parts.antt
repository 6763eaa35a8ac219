-- Fresh values in parts: each fragment's two likelihoods are its own, each count is the sum of what the fragments add, and the phased total is
-- what the variants have and the sum of the fragments' shares. `Parts` says so of any list of fragments; it is `Fresh` where they are the case's.
-- Assumes nothing.
use mathlib.Core.Path.{◌≡◌, refl, sym, ap, ◌∙◌}
use mathlib.Core.Bool.{cond}
use mathlib.Core.List.{List, []}
use Prim.Native.Nat.{ℕ, ◌+◌, ◌*◌, ◌/◌, ◌%◌, ◌<◌}
use native.Mathlib.Omega.{arith}
use lib.IntN.{ℤ, pos, ◌+ℤ◌}
use lib.ListN.{length, get_or}
use Rattle.steps.specs.Logs.{mix_of}
use Rattle.variants_and_fragments.specs.Case.{Case, Fragment, no_fragment, fragment_of, variant_of}
use Rattle.variants_and_fragments.specs.Pileup.{usable_calls}
use Rattle.variants_and_fragments.specs.Sums.{sum_over, count_over, sum_to}
use Rattle.variants_and_fragments.proofs.Sums.{sum_map, sum_over_cong}
use Rattle.genotype_probs.specs.declared.Rates.{Rates}
use Rattle.genotype_probs.specs.Priors.{get_prior}
use Rattle.haplotype_assembly.specs.Phase.{phased_flags}
use Rattle.sweeps.specs.Sweeps.{allele0, allele1, likelihood, read_share, total_of, phased_total}
use Rattle.sweeps.proofs.Basics.{lik_cong}
use Rattle.likelihoods.specs.SweepCaseOf.{sweep_case_of}
use Rattle.likelihoods.proofs.SweepCases.{frag_is}
use Rattle.late_reads.specs.Values.{Values, values, Fixed, likelihood_on, read_count}
use Rattle.late_reads.specs.LateReads.{fixed_by}
use Rattle.afresh.specs.Fresh.{sweeps_of, Fresh}
use Rattle.afresh.proofs.Counts.{counts_are}

-- a read's share of the total: its two likelihoods mixed
unfoldable pub share : Fixed → Fragment → ℤ
share fixed x = mix_of (likelihood_on fixed x 0) (likelihood_on fixed x 1)

-- the values of these fragments, among n variants that have `priors` in the total
pub record Parts (fixed : Fixed) (priors : ℤ) (n : ℕ) (fragments : List Fragment) (x : Values) : Type 0 where
  pub likelihoods : (e : ℕ) → e < 2 * length fragments → get_or x.likelihoods e (pos 0) ≡ likelihood_on fixed (get_or fragments (e / 2) no_fragment) (e % 2)
  pub counts : (e : ℕ) → e < 10 * n → get_or x.counts e (pos 0) ≡ pos (count_over fragments (λ y. read_count fixed.cutoff y e))
  pub total : x.total ≡ priors +ℤ sum_over fragments (share fixed)

module _ (rates : Rates) (case : Case) (phase haps : List ℕ) where
  abbrev fixed : Fixed
  fixed = fixed_by case phase haps

  -- what the phased variants have in the total
  unfoldable pub priors_total : ℤ
  priors_total = sum_to (length case.variants) (λ w. cond (phased_flags case phase w) (get_prior rates (variant_of case w) (allele0 haps w) (allele1 haps w)) (pos 0))

  likelihood_is : (e : ℕ)
      → likelihood (phased_flags case phase) (λ v. get_or haps (2 * v + e % 2) 0) (get_or (sweeps_of rates case phase).frags (e / 2) []) ≡ likelihood_on fixed (fragment_of case (e / 2)) (e % 2)
  unfolding likelihood_on
  likelihood_is e = rw (frag_is rates (phased_flags case phase) case (e / 2))

  share_is : (x : Fragment) → read_share (sweeps_of rates case phase) (phased_flags case phase) haps (usable_calls case.cutoff x) ≡ share fixed x
  unfolding read_share share likelihood_on sweep_case_of
  share_is x =
      let calls = usable_calls case.cutoff x in
      ap (λ z. mix_of z (likelihood (phased_flags case phase) (allele1 haps) calls))
      (lik_cong (phased_flags case phase) (phased_flags case phase) (allele0 haps) (λ v. get_or haps (2 * v + 0) 0) calls (λ v _. refl)
      (λ v _ _. let z : 2 * v ≡ 2 * v + 0 = omega arith in ap (λ i. get_or haps i 0) z))

  total_is : phased_total (sweeps_of rates case phase) haps ≡ priors_total +ℤ sum_over case.fragments (share fixed)
  unfolding total_of sweep_case_of priors_total
  total_is =
      ap (λ z. priors_total +ℤ z)
      (sum_map (usable_calls case.cutoff) case.fragments (read_share (sweeps_of rates case phase) (phased_flags case phase) haps) ∙ sum_over_cong case.fragments _ (share fixed) share_is)

  pub in_parts : {x : Values} → Fresh rates case phase haps x → Parts fixed priors_total (length case.variants) case.fragments x
  in_parts fresh = record {
    likelihoods = λ e h. fresh.likelihoods e h ∙ likelihood_is e;
    counts = λ e h. fresh.counts e h ∙ counts_are rates case e;
    total = fresh.total ∙ total_is;
  }

  -- and the other way round
  pub of_parts : {x : Values} → Parts fixed priors_total (length case.variants) case.fragments x → Fresh rates case phase haps x
  of_parts parts = record {
    likelihoods = λ e h. parts.likelihoods e h ∙ sym (likelihood_is e);
    counts = λ e h. parts.counts e h ∙ sym (counts_are rates case e);
    total = parts.total ∙ sym total_is;
  }

-- only the total goes by the rates
pub fresh_any : (rates other : Rates) (case : Case) (phase haps : List ℕ) {x : Values} → Fresh rates case phase haps x
    → Fresh other case phase haps (values x.likelihoods x.counts (phased_total (sweeps_of other case phase) haps))
fresh_any rates other case phase haps fresh =
    let parts = in_parts rates case phase haps fresh in
    of_parts other case phase haps (record { likelihoods = parts.likelihoods; counts = parts.counts; total = total_is other case phase haps })
