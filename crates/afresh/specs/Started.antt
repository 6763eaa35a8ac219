-- Request 1: where a list of arrivals and departures may start. What the public operations write is fresh.
-- Assumes nothing.
use Rattle.std.specs.Prelude.{◌≡◌, List, ℕ, ◌*◌, ◌≤◌, ◌<◌, ℤ, pos, length, get_or}
use Rattle.variants_and_fragments.specs.Case.{Case}
use Rattle.variants_and_fragments.specs.Decode.{decode}
use Rattle.variants_and_fragments.specs.Refusals.{done}
use Rattle.genotype_probs.specs.declared.Rates.{Rates}
use Rattle.no_haplotypes.specs.NoHaplotypes.{answer_at, CallSlices, call_genotypes_no_haplotypes_written}
use Rattle.with_haplotypes.specs.declared.RoundAnswer.{RoundAnswer}
use Rattle.with_haplotypes.specs.Round.{RoundInput, case_of_round}
use Rattle.with_haplotypes.specs.Promise.{RoundSlices, CalledWithHaplotypes}
use Rattle.late_reads.specs.Values.{values}
use Rattle.afresh.specs.Fresh.{count_word_at, Fresh}

-- request 1: a run's haplotypes, likelihoods and end total and the counts of calling without haplotypes are such values
pub record StartsFresh : Type 0 where
  -- calling without haplotypes, in a slice that is long enough
  pub counts_written : (rates : Rates) (case : Case) (before : CallSlices) → 13 * length case.variants ≤ length before.variants → (e : ℕ) → e < 10 * length case.variants
      → get_or (call_genotypes_no_haplotypes_written rates case before).variants (count_word_at e) (pos 0) ≡ answer_at rates case (count_word_at e)
  -- a run that is done, settled or not, beside counts that are those. The slice of haplotypes is taken whole, whatever lies past the 2 N
  pub started : (input : RoundInput) (sets : List ℤ) (before after : RoundSlices) (answer : RoundAnswer) → CalledWithHaplotypes input sets before (done answer) after
      → (counts : List ℤ) → ((e : ℕ) → e < 10 * length (case_of_round input).variants → get_or counts e (pos 0) ≡ answer_at input.rates (case_of_round input) (count_word_at e))
      → Fresh input.rates (decode input.words input.bases) input.phase after.haplotypes (values after.likelihoods counts answer.end.0)
