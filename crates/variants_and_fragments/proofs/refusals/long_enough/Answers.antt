-- One slice more is looked at; what is found is the smallest need.
use Rattle.std.proofs.Common.{◌≡◌, ap, sym, ◌∙◌, arith}
use Rattle.variants_and_fragments.specs.Refusals.{refused}
use Rattle.variants_and_fragments.proofs.Outcomes.{enough_on, enough_at}
use Rattle.variants_and_fragments.proofs.Short.{found_none, found_short, found_fits, found_end, need_of}
use Rattle.variants_and_fragments.proofs.refusals.long_enough.Goals as goal
use Rattle.variants_and_fragments.proofs.refusals.long_enough.Goals.{then-long-need, else-long-need}

pub loop-need-init : goal.loop-need-init
loop-need-init c = found_none _

pub loop-need-preserved : goal.loop-need-preserved
loop-need-preserved c = elim c.if-long-need.branch [
  | then-long-need w ↦ rw w.short-is (found_short _ _ _ _ c.loop-need-test.true c.loop-need.invariant w.if-long-need.true (rw w.unwrap_or.ensures at w.min.ensures))
  | else-long-need w ↦ rw w.short-is (found_fits _ _ _ c.loop-need-test.true c.loop-need.invariant w.if-long-need.false)
]

pub returns-in-Some : goal.returns-in-Some
unfolding need_of
returns-in-Some c =
    let e = found_end _ _ _ c.loop-need-test.false c.loop-need.invariant in
    let n : need_of c.loop-need.short ≡ c.in-Some.need = rw c.in-Some.is in
    let some = c.loop-need.invariant.some c.in-Some.need c.in-Some.is in
    ap (refused 10) (sym n ∙ e) ∙ enough_at _ _ (λ z. omega (arith, e, n, some, z))

pub returns-in-None : goal.returns-in-None
unfolding need_of
returns-in-None c =
    let e = found_end _ _ _ c.loop-need-test.false c.loop-need.invariant in
    let n : need_of c.loop-need.short ≡ 0 = rw c.in-None.is in
    enough_on _ _ (sym e ∙ n)
