-- What is passed is a window before the visit of v.
use Rattle.std.proofs.Common.{◌≡◌}
use Rattle.var_filter.specs.Inner.FilterWindow.{WindowAt}
use Rattle.var_filter.proofs.window.Window.extend.Given as goal

abbrev pub invariant-loop-m : goal.invariant-loop-m
invariant-loop-m l = record { here : l.self.end ≡ l.m; window : WindowAt l.scan l.v l.self; kept : l.self.marked_end ≡ l.fn.self.marked_end }
