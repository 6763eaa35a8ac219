-- The sweeps that are left give the whole run. Assumes nothing.
use Rattle.sweeps.specs.Sweeps.{SweepCase}
use Rattle.call_genotypes.specs.Inner.Reads.{reads_of}
use Rattle.call_genotypes.specs.Inner.Scores.{sweep_state}
use Rattle.call_genotypes.specs.Inner.Runs.{order_of, plan_of, RunStart}
use Rattle.call_genotypes.proofs.Running.{Running}
use Rattle.call_genotypes.proofs.run.run_sweeps.Given as goal

abbrev pub invariant-loop-s : goal.invariant-loop-s
invariant-loop-s l =
    let before = sweep_state l.fn.hap l.fn.lik l.fn.post in
    (C : SweepCase) → RunStart C (reads_of l.reads) before l.fn.orders.entries.now (plan_of l.fn.orders l.fn.limit) → Running C (order_of l.fn.orders.entries.now l.fn.orders.n l.fn.orders.m) l.fn.limit before (sweep_state l.hap l.lik l.post) l.s
