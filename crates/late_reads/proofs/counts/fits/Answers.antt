-- One more call fits, until none is left.
use Rattle.std.proofs.Common.{refl, arith, ◌∙◌, sym, to_z-of_z}
use Rattle.late_reads.proofs.CountRuns.{fit_start, fit_end, fit_countable, fit_stop, fit_on}
use Rattle.late_reads.proofs.counts.fits.Goals as goal

pub loop-call-init : goal.loop-call-init
loop-call-init g c = rw (to_z-of_z c.ranges.d, c.into_iter-call-iterator.ensures.into_iter_gives) (fit_start _ _ c.requires.rises c.requires.lent)

pub call_fits-requires : goal.call_fits-requires
call_fits-requires g c =
    rw (to_z-of_z c.ranges.d)
    (fit_countable (rw (to_z-of_z c.ranges.d) at c.loop-call.invariant) (g.met.C.Calls.gives_first _ _ _ c.in-Some.ensures.steps) c.counted.ensures (grind arith) refl c.requires.lent c.args.case.now.laid.sized.n_top)

pub returns-then-not-call_fits : goal.returns-then-not-call_fits
returns-then-not-call_fits g c =
    fit_stop (rw (to_z-of_z c.ranges.d) at c.loop-call.invariant) (g.met.C.Calls.gives_first _ _ _ c.in-Some.ensures.steps) c.counted.ensures (grind arith) refl
    (sym (rw (to_z-of_z c.ranges.d) at c.call_fits.ensures) ∙ c.if-not-call_fits.true)

pub loop-call-preserved : goal.loop-call-preserved
loop-call-preserved g c =
    rw (to_z-of_z c.ranges.d)
    (fit_on (rw (to_z-of_z c.ranges.d) at c.loop-call.invariant) (g.met.C.Calls.gives_first _ _ _ c.in-Some.ensures.steps) c.counted.ensures (grind arith) refl
    (sym (rw (to_z-of_z c.ranges.d) at c.call_fits.ensures) ∙ c.if-not-call_fits.false))

pub returns : goal.returns
returns g c = fit_end (rw (to_z-of_z c.ranges.d) at c.loop-call.invariant) (g.met.C.Calls.gives_first _ _ _ c.in-None.ensures.steps).0
