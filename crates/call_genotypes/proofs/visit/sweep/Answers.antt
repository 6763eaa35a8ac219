-- The order is passed at the end, and each visit goes on with it. Assumes nothing.
use Rattle.std.proofs.Common.{◌≡◌, ◌<◌, true, length, arith, rules}
use Rattle.call_genotypes.proofs.Sweeping.{sweeping_visit, sweeping_changed, sweeping_same, sweeping_end}
use Rattle.call_genotypes.proofs.visit.sweep.Goals as goal
use Rattle.call_genotypes.proofs.visit.sweep.Goals.{then-visit, else-visit}

pub returns : goal.returns
returns c C S = sweeping_end S (c.loop-v.invariant C S) (omega arith)

pub visit-requires : goal.visit-requires
visit-requires c =
    let S = c.requires.some.holds in
    record { some = record { case = _; holds = sweeping_visit S (c.loop-v.invariant _ S) (omega arith) } }

pub loop-v-preserved : goal.loop-v-preserved
loop-v-preserved c = λ C S.
    let i = c.loop-v.invariant C S in
    let l : c.loop-v.v-index < length c.args.order.now = omega arith in
    let V = c.visit.ensures C (sweeping_visit S i l) in
    elim c.if-visit.branch [
      | then-visit w ↦ let e : c.if-visit.changed ≡ true = search rules in rw e (sweeping_changed S i l V w.if-visit.true)
      | else-visit w ↦ rw w.changed-is (sweeping_same S i l V w.if-visit.false)
    ]
