-- One more call is counted, until none is left.
use Rattle.std.proofs.Common.{refl, arith, to_z-of_z}
use Rattle.late_reads.proofs.CountRuns.{add_start, add_end, add_countable, add_on}
use Rattle.late_reads.proofs.counts.count.Goals as goal

pub loop-call-init : goal.loop-call-init
loop-call-init g c = rw (to_z-of_z c.ranges.d, c.into_iter-call-iterator.ensures.into_iter_gives) (add_start _ _ c.requires.rises c.requires.lent)

pub count_call-requires : goal.count_call-requires
count_call-requires g c =
    rw (to_z-of_z c.ranges.d)
    (add_countable (rw (to_z-of_z c.ranges.d) at c.loop-call.invariant) (g.met.C.Calls.gives_first _ _ _ c.in-Some.ensures.steps) c.counted.ensures (grind arith) refl c.requires.lent c.args.case.now.laid.sized.n_top)

pub loop-call-preserved : goal.loop-call-preserved
loop-call-preserved g c =
    rw (to_z-of_z c.ranges.d)
    (add_on (rw (to_z-of_z c.ranges.d) at c.loop-call.invariant) (g.met.C.Calls.gives_first _ _ _ c.in-Some.ensures.steps) c.counted.ensures (grind arith) refl _ (rw (to_z-of_z c.ranges.d) at c.count_call.ensures))

pub returns : goal.returns
returns g c = add_end (rw (to_z-of_z c.ranges.d) at c.loop-call.invariant) (g.met.C.Calls.gives_first _ _ _ c.in-None.ensures.steps).0
