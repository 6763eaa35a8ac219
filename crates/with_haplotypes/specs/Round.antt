-- 01, sections 6 and 7: one round of calling genotypes with haplotypes, after HapCUT2. Every definition computes at closed values.
-- Assumes nothing.
use Rattle.std.specs.Prelude.{Bool, cond, List, [], ◌∷◌, ℕ, ◌+◌, ◌-◌, ◌*◌, ◌/◌, ◌%◌, eqb, ℤ, pos, length, get_or}
use Rattle.variants_and_fragments.specs.Case.{Case, allele_count, variant_of}
use Rattle.variants_and_fragments.specs.Decode.{tabulate, decode}
use Rattle.genotype_probs.specs.declared.Rates.{Rates}
use Rattle.genotype_probs.specs.Posteriors.{normalized}
use Rattle.haplotype_assembly.specs.Phase.{phased_flags, start_haplotypes}
use Rattle.shuffle.specs.Orders.{order_count, order_at}
use Rattle.sweeps.specs.Sweeps.{SweepCase, RunResult, likelihood, score, visit, run, phased_total, source_total}
use Rattle.sweeps.specs.Demand3.{after}
use Rattle.with_haplotypes.specs.declared.finals.FinalAnswer.{FinalAnswer}
use Rattle.with_haplotypes.specs.Finals.{final_of}
use Rattle.likelihoods.specs.SweepCaseOf.{sweep_case_of}
use Rattle.with_haplotypes.specs.declared.RoundAnswer.{RoundAnswer}

-- what a run of sweeps starts from: a case and rates, the phased variants, the haplotypes, the orders one after the other, and the limit
pub record RunInput : Type 0 where
  pub case : Case
  pub rates : Rates
  pub phased : ℕ → Bool
  pub start : List ℕ
  pub orders : List ℕ
  pub limit : ℕ

-- the run over the case that these words and bases stand for
abbrev pub run_input : List ℤ → List ℕ → Rates → (ℕ → Bool) → List ℕ → List ℕ → ℕ → RunInput
run_input words bases rates phased start orders limit =
    record { case = decode words bases; rates = rates; phased = phased; start = start; orders = orders; limit = limit }

-- the haplotypes that a sweep by these variants has when it visits v
unfoldable pub at_visit : SweepCase → ℕ → List ℕ → List ℕ → List ℕ
at_visit C v [] h = h
at_visit C v (w ∷ ws) h = cond (eqb w v) h (at_visit C v ws (visit C w h))

module _ (input : RunInput) where
  unfoldable pub sweep_case : SweepCase
  sweep_case = sweep_case_of input.rates input.phased input.case

  -- sweep s uses lent order s mod m
  unfoldable pub order_of_sweep : ℕ → List ℕ
  order_of_sweep s = let n = length input.case.variants in order_at n input.orders (s % order_count n (length input.orders))

  unfoldable pub result : RunResult
  result = run sweep_case order_of_sweep input.limit 0 input.start

  -- "Returned": sweeps, settled or not, phased totals at the start and at the end, the source's total at the end
  unfoldable pub returned : RoundAnswer
  returned = record {
    sweeps = result.sweeps;
    settled = result.settled;
    start = record { 0 = phased_total sweep_case input.start };
    end = record { 0 = phased_total sweep_case result.haps };
    source = record { 0 = source_total sweep_case result.haps };
  }

  -- ---- "written"
  -- 2 bytes per variant
  unfoldable pub haplotype_at : ℕ → ℕ
  haplotype_at e = get_or result.haps e 0

  -- 2 likelihoods per fragment
  unfoldable pub likelihood_at : ℕ → ℤ
  likelihood_at e = likelihood sweep_case.phased (λ v. get_or result.haps (2 * v + e % 2) 0) (get_or sweep_case.frags (e / 2) [])

  -- v's latest visit was in the last sweep: the scores that it worked out
  unfoldable pub latest_score : ℕ → ℕ → ℤ
  latest_score v =
      let last = result.sweeps - 1 in score sweep_case v (at_visit sweep_case v (order_of_sweep last) (after sweep_case order_of_sweep input.start last))

  -- v's latest posteriors: k × k, row-major, then zeros to 9
  unfoldable pub posteriors : ℕ → List ℤ
  posteriors v = let k = allele_count (variant_of input.case v) in tabulate 9 (normalized (tabulate (k * k) (latest_score v)) k)

  unfoldable pub posterior_at : ℕ → ℤ
  posterior_at e = get_or (posteriors (e / 9)) (e % 9) (pos 0)

  -- v's final answer
  unfoldable pub final : ℕ → FinalAnswer
  final v = final_of (posteriors v) (allele_count (variant_of input.case v))

-- what a round reads: the case, the rates, the phase bytes, the orders one after the other, and the limit of sweeps
pub record RoundInput : Type 0 where
  pub words : List ℤ
  pub bases : List ℕ
  pub rates : Rates
  pub phase : List ℕ
  pub orders : List ℕ
  pub limit : ℕ

abbrev pub round_input : List ℤ → List ℕ → Rates → List ℕ → List ℕ → ℕ → RoundInput
round_input words bases rates phase orders limit =
    record { words = words; bases = bases; rates = rates; phase = phase; orders = orders; limit = limit }

-- the case of a round
abbrev pub case_of_round : RoundInput → Case
case_of_round input = decode input.words input.bases

-- a round's run starts from section 5's phased variants and haplotypes
abbrev pub run_of : RoundInput → RunInput
run_of input =
    let case = case_of_round input in
    run_input input.words input.bases input.rates (phased_flags case input.phase) (start_haplotypes case input.phase) input.orders input.limit
