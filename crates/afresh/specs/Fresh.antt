-- Request 1: the values kept beside a case are those of the case taken afresh, by the definitions of 01 and no others.
-- Assumes nothing.
use Rattle.std.specs.Prelude.{◌≡◌, List, [], ℕ, ◌+◌, ◌*◌, ◌/◌, ◌%◌, ◌<◌, pos, length, get_or}
use Rattle.variants_and_fragments.specs.Case.{Case}
use Rattle.genotype_probs.specs.declared.Rates.{Rates}
use Rattle.haplotype_assembly.specs.Phase.{phased_flags}
use Rattle.sweeps.specs.Sweeps.{SweepCase, likelihood, phased_total}
use Rattle.likelihoods.specs.SweepCaseOf.{sweep_case_of}
use Rattle.no_haplotypes.specs.NoHaplotypes.{answer_at}
use Rattle.late_reads.specs.Values.{Values}

-- the case of the sweeps under the given phase
abbrev pub sweeps_of : Rates → Case → List ℕ → SweepCase
sweeps_of rates case phase = sweep_case_of rates (phased_flags case phase) case

-- element e of the ten counts a variant: words 2 to 11 of the 13 that calling without haplotypes writes (section 4)
abbrev pub count_word_at : ℕ → ℕ
count_word_at e = 13 * (e / 10) + (2 + e % 10)

-- x holds what the case has (elements that are there: an operation asks for 2 F likelihoods and 10 N counts), under a given phase, at these haplotypes and rates
pub record Fresh (rates : Rates) (case : Case) (phase haps : List ℕ) (x : Values) : Type 0 where
  -- section 6: 2 likelihoods per fragment, as a run writes them
  pub likelihoods : (e : ℕ) → e < 2 * length case.fragments
      → get_or x.likelihoods e (pos 0) ≡ likelihood (phased_flags case phase) (λ v. get_or haps (2 * v + e % 2) 0) (get_or (sweeps_of rates case phase).frags (e / 2) [])
  -- section 4: 10 counts per variant
  pub counts : (e : ℕ) → e < 10 * length case.variants → get_or x.counts e (pos 0) ≡ answer_at rates case (count_word_at e)
  -- section 6: the phased total
  pub total : x.total ≡ phased_total (sweeps_of rates case phase) haps
