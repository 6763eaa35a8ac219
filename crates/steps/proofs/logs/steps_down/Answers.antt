-- The search starts with a bound that is low enough, and ends at the least one.
use Rattle.std.proofs.Common.{◌≡◌, ◌+◌, ◌-◌, ◌/◌, false, ℤ, ap, ◌∙◌, subst, arith, to_z-of_z, w64, to_z, of_z}
use Rattle.steps.specs.OneMinus.{low}
use Rattle.steps.proofs.OneMinus.{Least, higher, lowest_of, of_below}
use Rattle.steps.proofs.logs.steps_down.Goals as goal

pub loop-lo-init : goal.loop-lo-init
loop-lo-init c =
    (omega arith, omega arith, rw (to_z-of_z c.ranges.p) (lowest_of c.args.p c.requires.1), λ k h. absurd (omega arith))

pub loop-lo-preserved : goal.loop-lo-preserved
loop-lo-preserved c =
    let v = c.loop-lo.invariant in
    let p = to_z w64 (of_z w64 c.args.p) in
    let mid = c.loop-lo.lo + (c.loop-lo.hi - c.loop-lo.lo) / 2 in
    let f : low p mid ≡ false = cc in (omega arith, omega arith, v.2, λ k h. higher p k mid (omega arith) f)

pub returns : goal.returns
returns c =
    let v = c.loop-lo.invariant in
    let e : c.loop-lo.lo ≡ c.loop-lo.hi = omega arith in
    let p = to_z w64 (of_z w64 c.args.p) in
    let w : Least (low p) c.loop-lo.lo = record { holds = ap (low p) e ∙ v.2; none = v.3 } in
    (omega arith, of_below c.args.p c.loop-lo.lo c.requires.1 (subst (λ (z : ℤ). Least (low z) c.loop-lo.lo) (to_z-of_z c.ranges.p) w))
