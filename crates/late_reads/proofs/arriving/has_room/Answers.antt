-- A record is counted for each call, while there is one.
use Rattle.std.proofs.Common.{◌≡◌, ◌+◌, ◌-◌, ◌<◌, suc, length, sym, ◌∙◌, arith}
use Rattle.std.proofs.lemmas.Bool.{lt-leb}
use Rattle.variants_and_fragments.specs.Chain.{free_chain}
use Rattle.variants_and_fragments.proofs.Free.{free_linked}
use Rattle.variants_and_fragments.proofs.Linked.{linked_first, linked_in, linked_next}
use Rattle.late_reads.specs.Arriving.{room}
use Rattle.late_reads.proofs.Room.{room_length, place_in, place_end}
use Rattle.late_reads.proofs.arriving.has_room.Goals as goal

pub loop-i-init : goal.loop-i-init
loop-i-init c =
    let case = c.args.case.now in
    let s = case.laid.sizes in
    let e : s.c - s.used - (s.c - s.used) ≡ 0 = omega arith in
    (omega (arith, room_length case.laid.words.now s), rw e (linked_first (free_linked case.case_in)))

pub returns-then-r-eq0 : goal.returns-then-r-eq0
returns-then-r-eq0 c =
    let case = c.args.case.now in
    let n = place_end (free_linked case.case_in) _ (sym c.loop-i.invariant.1 ∙ c.if-r-eq0.true) in
    let few : length (room case.laid.words.now case.laid.sizes) < c.args.m = omega (arith, n, c.loop-i.auto.i, c.loop-i-test.true, room_length case.laid.words.now case.laid.sizes) in
    sym (lt-leb _ _ few)

pub next_call-r-requires : goal.next_call-r-requires
next_call-r-requires c =
    let case = c.args.case.now in
    let s = case.laid.sizes in
    let p = place_in (free_chain case.laid.words.now s) (c.loop-i.i - (s.c - s.used)) (λ e. c.if-r-eq0.false (c.loop-i.invariant.1 ∙ e)) in
    let b = linked_in (free_linked case.case_in) _ p in
    (omega (arith, b.0, c.loop-i.invariant.1), omega (arith, b.1, c.loop-i.invariant.1, case.laid.sized.used_top))

pub loop-i-preserved : goal.loop-i-preserved
loop-i-preserved c =
    let case = c.args.case.now in
    let s = case.laid.sizes in
    let p = place_in (free_chain case.laid.words.now s) (c.loop-i.i - (s.c - s.used)) (λ e. c.if-r-eq0.false (c.loop-i.invariant.1 ∙ e)) in
    let e : c.loop-i.i + 1 - (s.c - s.used) ≡ suc (c.loop-i.i - (s.c - s.used)) = omega (arith, c.loop-i.auto.i) in (
      omega (arith, p, c.loop-i.auto.i, room_length case.laid.words.now s),
      c.next_call-r.ensures ∙ rw (c.loop-i.invariant.1, e) (linked_next (free_linked case.case_in) _ p),
    )
