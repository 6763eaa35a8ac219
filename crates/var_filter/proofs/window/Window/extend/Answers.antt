-- One variant more is passed, strong or not.
use Rattle.std.proofs.Common.{◌+◌, ◌≤◌, refl, sym, ◌∙◌, arith}
use Rattle.var_filter.specs.Inner.FilterWindow.{position}
use Rattle.var_filter.proofs.Windows.{ahead_top, window_strong, window_weak}
use Rattle.var_filter.proofs.window.Window.extend.Goals as goal
use Rattle.var_filter.proofs.window.Window.extend.Goals.{then-is_strong, else-is_strong}

pub overflow_add-self-then-is_strong : goal.overflow_add-self-then-is_strong
overflow_add-self-then-is_strong c = omega (arith, c.args.scan.now.case.laid.sized.n_top, ahead_top c.loop-m.invariant.window)

pub loop-m-preserved : goal.loop-m-preserved
loop-m-preserved c =
    let at = c.loop-m.invariant in
    let near : position c.args.scan.now c.loop-m.m ≤ position c.args.scan.now c.args.v + c.args.scan.now.density.len = rw (← c.with_variants-variants.ensures) (omega (arith, c.pos0-in-loop-m.ensures, c.pos0.ensures)) in
    elim c.if-is_strong.branch [
      | then-is_strong w ↦ rw w.self-is (record { here = refl; window = window_strong at.window at.here c.loop-m-test.true near (sym c.is_strong.ensures ∙ w.if-is_strong.true); kept = at.kept })
      | else-is_strong w ↦ rw w.self-is (record { here = refl; window = window_weak at.window at.here c.loop-m-test.true near (sym c.is_strong.ensures ∙ w.if-is_strong.false); kept = at.kept })
    ]
