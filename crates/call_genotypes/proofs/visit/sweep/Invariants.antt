-- What is left of the order gives the whole sweep. Assumes nothing.
use Rattle.sweeps.specs.Sweeps.{SweepCase}
use Rattle.call_genotypes.specs.Inner.Reads.{reads_of}
use Rattle.call_genotypes.specs.Inner.Scores.{sweep_state}
use Rattle.call_genotypes.specs.Inner.Visits.{SweepStart}
use Rattle.call_genotypes.proofs.Sweeping.{Sweeping}
use Rattle.call_genotypes.proofs.visit.sweep.Given as goal

abbrev pub invariant-loop-v : goal.invariant-loop-v
invariant-loop-v l =
    let before = sweep_state l.fn.hap l.fn.lik l.fn.post in
    (C : SweepCase) → SweepStart C (reads_of l.reads) before l.fn.order → Sweeping C l.fn.order before (sweep_state l.hap l.lik l.post) l.changed l.v-index
