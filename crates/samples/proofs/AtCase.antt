-- A round at a case that its words are known to stand for: the run and the answer of the same definitions with that
-- case in place of the decoded one, so that what is computed next has no words in it.
-- Assumes nothing.
use mathlib.Core.Path.{◌≡◌, ap}
use Prim.Native.Nat.{◌%◌}
use lib.ListN.{length}
use Rattle.variants_and_fragments.specs.Case.{Case}
use Rattle.variants_and_fragments.specs.Decode.{decode}
use Rattle.haplotype_assembly.specs.Phase.{phased_flags, start_haplotypes}
use Rattle.shuffle.specs.Orders.{order_count, order_at}
use Rattle.sweeps.specs.Sweeps.{SweepCase, RunResult, run, phased_total, source_total}
use Rattle.likelihoods.specs.SweepCaseOf.{sweep_case_of}
use Rattle.with_haplotypes.specs.declared.RoundAnswer.{RoundAnswer}
use Rattle.with_haplotypes.specs.Round.{RoundInput, run_of, sweep_case, order_of_sweep, result, returned}

module _ (input : RoundInput) (c : Case) where
  abbrev sweep_case_at : SweepCase
  sweep_case_at = sweep_case_of input.rates (phased_flags c input.phase) c

  unfoldable pub result_at : RunResult
  result_at = run sweep_case_at (λ s. order_at (length c.variants) input.orders (s % order_count (length c.variants) (length input.orders))) input.limit 0 (start_haplotypes c input.phase)

  unfoldable pub returned_at : RoundAnswer
  returned_at = record {
    sweeps = result_at.sweeps;
    settled = result_at.settled;
    start = record { 0 = phased_total sweep_case_at (start_haplotypes c input.phase) };
    end = record { 0 = phased_total sweep_case_at result_at.haps };
    source = record { 0 = source_total sweep_case_at result_at.haps };
  }

module _ (input : RoundInput) (c : Case) (decoded : decode input.words input.bases ≡ c) where
  pub start_at : (run_of input).start ≡ start_haplotypes c input.phase
  start_at = ap (λ (x : Case). start_haplotypes x input.phase) decoded

  pub result_at_lem : result (run_of input) ≡ result_at input c
  unfolding result sweep_case order_of_sweep result_at
  result_at_lem = ap (result_at input) decoded

  pub returned_at_lem : returned (run_of input) ≡ returned_at input c
  unfolding returned result sweep_case order_of_sweep result_at returned_at
  returned_at_lem = ap (returned_at input) decoded
