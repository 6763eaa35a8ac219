-- The first i calls are laid in the first i records of those to take, and the others are left.
use Rattle.std.proofs.Common.{◌≡◌}
use Rattle.late_reads.specs.Arriving.{whole_calls, taken, calls_laid}
use Rattle.late_reads.specs.Inner.Room.{left_at}
use Rattle.late_reads.proofs.words.lay_calls.Given as goal

abbrev pub invariant-loop-i : goal.invariant-loop-i
invariant-loop-i l =
    let w = l.fn.words in
    let m = whole_calls l.read.calls.now in
    record {
      left_is : l.left ≡ left_at w l.s l.i;
      laid : l.words ≡ calls_laid w l.s l.read.calls.now (taken w l.s m) l.i;
    }
