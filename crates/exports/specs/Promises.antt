-- What each exported function promises: its operation's promise, of its numbers read as the answer.
-- Assumes nothing.
use Rattle.std.specs.Prelude.{◌≡◌, Bool, List, ℕ, ℤ, Float}
use Rattle.variants_and_fragments.specs.Check.{check_case_outcome}
use Rattle.var_filter.specs.Filter.{limits_of}
use Rattle.var_filter.specs.Filtered.{VarFiltered}
use Rattle.genotype_probs.specs.Answers as priors
use Rattle.haplotype_assembly.specs.GivenPhase as phase
use Rattle.haplotype_assembly.specs.FlistBuffer.{FlistBuffer}
use Rattle.shuffle.specs.Answers as orders
use Rattle.no_haplotypes.specs.NoHaplotypes.{CallSlices, CalledNoHaplotypes}
use Rattle.with_haplotypes.specs.Round.{RoundInput}
use Rattle.with_haplotypes.specs.Promise.{RoundSlices, CalledWithHaplotypes}
use Rattle.exports.specs.declared.answers.Answer.{Answer}
use Rattle.exports.specs.declared.answers.CheckAnswer.{CheckAnswer}
use Rattle.exports.specs.declared.answers.FlistAnswer.{FlistAnswer}
use Rattle.late_reads.specs.LateReads as late
use Rattle.exports.specs.declared.answers.RoundAnswer.{RoundAnswer}
use Rattle.exports.specs.declared.answers.LateAnswer.{LateAnswer}
use Rattle.exports.specs.declared.inputs.Rates.{Rates}
use Rattle.exports.specs.declared.inputs.DensityParameters.{DensityParameters}
use Rattle.exports.specs.Answers.{Exported, read_answer, read_check, read_flist, read_round, read_late, numbers_of, check_numbers, flist_numbers, round_numbers, late_numbers}
use Rattle.exports.specs.Inputs.{rates_of, density_of}

abbrev pub CheckCase : List ℤ → List ℕ → CheckAnswer → Type 0
CheckCase w b = Exported read_check check_numbers (λ answer. answer ≡ check_case_outcome w b)

abbrev pub VarFilter : List ℤ → List ℕ → List Float → DensityParameters → ℕ → List ℕ → Answer → List ℕ → Type 0
VarFilter w b quals density depth before a after =
    Exported read_answer numbers_of (λ answer. VarFiltered w b quals (limits_of (density_of density) depth) before answer after) a

abbrev pub GenotypePriors : List ℤ → List ℕ → Rates → List ℤ → Answer → List ℤ → Type 0
GenotypePriors w b rates before a after = Exported read_answer numbers_of (λ answer. priors.GenotypePriors w b (rates_of rates) before answer after) a

abbrev pub CallGenotypesNoHaplotypes : List ℤ → List ℕ → Rates → CallSlices → Answer → CallSlices → Type 0
CallGenotypesNoHaplotypes w b rates before a after =
    Exported read_answer numbers_of (λ answer. CalledNoHaplotypes w b (rates_of rates) before answer after) a

abbrev pub GivenPhase : List ℤ → List ℕ → List ℕ → List ℤ → phase.PhaseSlices → Answer → phase.PhaseSlices → Type 0
GivenPhase w b bytes sets before a after = Exported read_answer numbers_of (λ answer. phase.GivenPhase w b bytes sets before answer after) a

abbrev pub GenerateFlistBuffer : List ℤ → List ℕ → Bool → List ℕ → FlistAnswer → List ℕ → Type 0
GenerateFlistBuffer w b single before a after = Exported read_flist flist_numbers (λ answer. FlistBuffer w b single before answer after) a

abbrev pub SweepOrders : List ℤ → List ℕ → ℕ → List ℕ → Answer → List ℕ → Type 0
SweepOrders w b seed before a after = Exported read_answer numbers_of (λ answer. orders.SweepOrders w b seed before answer after) a

-- with demand 3 of what is returned and written
abbrev pub CallGenotypesWithHaplotypes : RoundInput → List ℤ → RoundSlices → RoundAnswer → RoundSlices → Type 0
CallGenotypesWithHaplotypes input sets before a after =
    Exported read_round round_numbers (λ answer. CalledWithHaplotypes input sets before answer after) a

-- requests 1 and 3
abbrev pub Arrives : late.LateInput → ℕ → ℤ → List ℤ → LateAnswer → late.LateSlices → Type 0
Arrives input f strand calls a after = Exported read_late late_numbers (λ answer. late.Arrives input f strand calls answer after) a

abbrev pub Departs : late.LateInput → ℕ → LateAnswer → late.LateSlices → Type 0
Departs input f a after = Exported read_late late_numbers (λ answer. late.Departs input f answer after) a
