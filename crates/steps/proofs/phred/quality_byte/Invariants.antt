-- n is 33 and the count of those below w.
use Rattle.std.proofs.Common.{◌≡◌, ◌+◌, ◌-◌}
use Rattle.steps.specs.Phred.{count_up_to}
use Rattle.steps.proofs.phred.quality_byte.Given as goal

abbrev pub invariant-loop-w : goal.invariant-loop-w
invariant-loop-w l = l.n ≡ 33 + count_up_to (l.w - 1) l.x
