-- i counts the unused records and the free ones before r, and r stands in the free chain after them.
use Rattle.std.proofs.Common.{◌≡◌, ◌-◌, ◌≤◌, length, get_or}
use Rattle.variants_and_fragments.specs.Chain.{free_chain}
use Rattle.late_reads.specs.Arriving.{room}
use Rattle.late_reads.proofs.arriving.has_room.Given as goal

abbrev pub invariant-loop-i : goal.invariant-loop-i
invariant-loop-i l =
    let w = l.case.laid.words.now in
    let s = l.case.laid.sizes in
    (l.i ≤ length (room w s)) × (l.r ≡ get_or (free_chain w s) (l.i - (s.c - s.used)) 0)
