-- A sweep settles the run, or goes on with it, or the limit is met. Assumes nothing.
use Rattle.std.proofs.Common.{arith, rules}
use Rattle.call_genotypes.proofs.Running.{running_start, running_sweep, running_step, run_settles, run_out}
use Rattle.call_genotypes.proofs.run.run_sweeps.Goals as goal

pub returns : goal.returns
returns c C R = run_out R (c.loop-s.invariant C R) _ (omega arith) (omega arith) (search rules)

pub returns-then-not-sweep : goal.returns-then-not-sweep
returns-then-not-sweep c C R =
    let i = c.loop-s.invariant C R in
    run_settles R i c.loop-s-test.true (rw c.of_sweep.ensures at (c.sweep.ensures C (rw c.of_sweep.ensures (running_sweep R i _)))) c.if-not-sweep.true

pub loop-s-init : goal.loop-s-init
loop-s-init c = λ C R. running_start R

pub of_sweep-requires : goal.of_sweep-requires
of_sweep-requires c = let R = c.requires.some.holds in (R.some_order, R.orders_long)

pub sweep-requires : goal.sweep-requires
sweep-requires c =
    let R = c.requires.some.holds in
    record { some = record { case = c.requires.some.case; holds = rw c.of_sweep.ensures (running_sweep R (c.loop-s.invariant _ R) _) } }

pub loop-s-preserved : goal.loop-s-preserved
loop-s-preserved c = λ C R.
    let i = c.loop-s.invariant C R in
    running_step R i c.loop-s-test.true (rw c.of_sweep.ensures at (c.sweep.ensures C (rw c.of_sweep.ensures (running_sweep R i _)))) c.if-not-sweep.false
