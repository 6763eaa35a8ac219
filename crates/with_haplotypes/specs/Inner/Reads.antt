-- What a round and its run read, from the code's structs. Assumes nothing.
use Rattle.std.specs.Prelude.{Bool, ℕ}
use Rattle.call_genotypes.specs.Inner.Scores.{SweepState}
use Rattle.call_genotypes.specs.Inner.Runs.{plan_of}
use Rattle.with_haplotypes.specs.declared.RoundAnswer.{RoundAnswer}
use Rattle.with_haplotypes.specs.declared.reads.AcceptedRound.{AcceptedRound}
use Rattle.with_haplotypes.specs.declared.reads.FlaggedReads.{FlaggedReads}
use Rattle.with_haplotypes.specs.declared.reads.PreparedRun.{PreparedRun}
use Rattle.with_haplotypes.specs.Round.{RoundInput, round_input}
use Rattle.with_haplotypes.specs.Inner.Steps.{Scratch, scratch, PhasedGiven, RunPromise, PreparedGiven, PreparedPromise}

abbrev pub input_of : AcceptedRound → RoundInput
input_of r = round_input r.case.laid.words.now r.case.bases.now r.rates.rates r.phase.now r.orders.entries.now r.limit

-- a run whose flags say these phased variants starts from this state
abbrev pub phased_given : FlaggedReads → SweepState → (ℕ → Bool) → Type 0
phased_given r = PhasedGiven r.case.laid.words.now r.case.bases.now r.rates.rates r.case.laid.sizes (plan_of r.orders r.limit) r.ph.now r.orders.entries.now

-- what it promises, whichever phased variants the flags say
abbrev pub run_promise : FlaggedReads → SweepState → SweepState → RoundAnswer → Type 0
run_promise r = RunPromise r.case.laid.words.now r.case.bases.now r.rates.rates r.case.laid.sizes (plan_of r.orders r.limit) r.ph.now r.orders.entries.now

-- the same over prepared scratch, whatever case it was prepared for
abbrev pub scratch_of : PreparedRun → Scratch
scratch_of r = scratch r.rows.words.now r.rows.ends.now r.piles.words.now r.piles.ends.now r.pri.now

abbrev pub prepared_given : PreparedRun → SweepState → Type 0
prepared_given r = PreparedGiven (plan_of r.orders r.limit) r.ks.now r.ph.now (scratch_of r) r.orders.entries.now

abbrev pub prepared_promise : PreparedRun → SweepState → SweepState → RoundAnswer → Type 0
prepared_promise r = PreparedPromise (plan_of r.orders r.limit) r.ks.now r.ph.now (scratch_of r) r.orders.entries.now
