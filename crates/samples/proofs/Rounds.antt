-- A sample's round, from its laid out case and from what is computed at the case itself.
-- Assumes nothing.
use mathlib.Core.Path.{◌≡◌, sym, ap, ◌∙◌}
use mathlib.Core.List.{List}
use Prim.Native.Nat.{ℕ}
use Rattle.variants_and_fragments.specs.Case.{Case}
use Rattle.variants_and_fragments.specs.Refusals.{done}
use Rattle.haplotype_assembly.specs.Phase.{start_haplotypes}
use Rattle.sweeps.specs.Sweeps.{RunResult}
use Rattle.with_haplotypes.specs.declared.RoundAnswer.{RoundAnswer}
use Rattle.with_haplotypes.specs.Round.{RoundInput, run_of, returned}
use Rattle.with_haplotypes.specs.Promise.{max_limit}
use Rattle.with_haplotypes.specs.Inner.Checks.{round_checks}
use Rattle.with_haplotypes.proofs.RoundAnswers.{outcome_done}
use Rattle.samples.specs.Samples.{rates, sizes, round_on, sets_of, SampleRound}
use Rattle.samples.proofs.AtCase.{result_at, returned_at, start_at, result_at_lem, returned_at_lem}
use Rattle.samples.proofs.Laid.{Laid}

module _ (sample : Case) (phase order given left : List ℕ) (answer : RoundAnswer) where
  abbrev input : RoundInput
  input = round_on sample phase order

  -- what is computed at the case: its start haplotypes, those that the run leaves, the answer, and that none of 6 to 10
  -- is given, with one order and slices long enough
  pub record Computed : Type 0 where
    pub starts : start_haplotypes sample phase ≡ given
    pub ends : (result_at input sample).haps ≡ left
    pub returns : returned_at input sample ≡ answer
    pub checked : round_checks (sizes sample).n rates phase (sets_of phase) order max_limit 0 ≡ done 1

  pub sample_round : Laid sample → Computed → SampleRound sample phase order given left answer
  sample_round laid computed =
      let returns : returned (run_of input) ≡ answer = returned_at_lem input sample laid.decoded ∙ computed.returns in
      record {
        accepted = laid.accepted;
        decoded = laid.decoded;
        starts = start_at input sample laid.decoded ∙ computed.starts;
        ends = ap (λ (r : RunResult). r.haps) (result_at_lem input sample laid.decoded) ∙ computed.ends;
        returns = returns;
        outcome = λ slices room.
            sym (outcome_done input (sets_of phase) slices (sizes sample) 1 laid.accepted
            (ap (round_checks (sizes sample).n rates phase (sets_of phase) order max_limit) room ∙ computed.checked))
            ∙ ap done returns;
      }
