-- The calls are laid, and then the fragment's first call and strand, the records used and the first free one are set.
use Rattle.std.proofs.Common.{◌≡◌, ◌+◌, ◌-◌, ◌≤◌, length, get_or, sym, ap, ◌∙◌, arith, rules, to_z-of_z, FitsSigned, w32}
use mir.Facts.{to_z_pos}
use Rattle.variants_and_fragments.specs.Chain.{free_chain}
use Rattle.late_reads.specs.declared.words.RoomLeft.{RoomLeft}
use Rattle.late_reads.specs.Arriving.{whole_calls, taken, arrived_words}
use Rattle.late_reads.specs.Inner.Room.{front_of, left_at}
use Rattle.late_reads.proofs.Room.{taken_past, taken_top, left_start, left_in, taken_front}
use Rattle.late_reads.proofs.words.lay_arrival.Goals as goal
use Rattle.late_reads.proofs.words.lay_arrival.Goals.{Joined-count-eq0, After-lay_calls-left, then-count-eq0, else-count-eq0}

-- the first call: the first record that is taken, or 0 for none
first_is : (c : Joined-count-eq0) → c.if-count-eq0.first ≡ get_or (taken c.args.words.now c.args.s (whole_calls c.args.read.now.calls.now)) 0 0
first_is c =
    let m = whole_calls c.args.read.now.calls.now in
    elim c.if-count-eq0.branch [
      | then-count-eq0 w ↦ w.first-is ∙ sym (taken_past c.args.words.now c.args.s m 0 (omega (arith, w.if-count-eq0.true, c.count.ensures)))
      | else-count-eq0 w ↦
          w.first-is ∙ w.front-first.ensures
          ∙ ap front_of (left_start c.requires.case_in _ c.all-room.ensures)
          ∙ taken_front c.requires.case_in m c.requires.arriving.fits 0 (omega (arith, w.if-count-eq0.false, c.count.ensures))
    ]

first_top : (c : Joined-count-eq0) → c.if-count-eq0.first ≤ 16384
first_top c =
    omega (arith, first_is c, taken_top c.requires.case_in (whole_calls c.args.read.now.calls.now) c.requires.arriving.fits 0, c.requires.case_in.sized.c_top)

-- what is left
used_is : (c : After-lay_calls-left) → c.lay_calls-left.result.used ≡ c.args.s.used + (whole_calls c.args.read.now.calls.now - length (free_chain c.args.words.now c.args.s))
unfolding left_at
used_is c = ap (λ (x : RoomLeft). x.used) c.lay_calls-left.ensures.value

free_is : (c : After-lay_calls-left) → c.lay_calls-left.result.free ≡ get_or (free_chain c.args.words.now c.args.s) (whole_calls c.args.read.now.calls.now) 0
unfolding left_at
free_is c = ap (λ (x : RoomLeft). x.free) c.lay_calls-left.ensures.value

left_top : (c : After-lay_calls-left) → (c.lay_calls-left.result.used ≤ 16384) × (c.lay_calls-left.result.free ≤ 16384)
unfolding left_at
left_top c =
    let z = c.requires.case_in.sized in
    let b = left_in c.requires.case_in (whole_calls c.args.read.now.calls.now) c.requires.arriving.fits in
    (omega (arith, used_is c, b.0, z.c_top), omega (arith, free_is c, b.1, z.used_top, z.c_top))

pub overflow_cast-first : goal.overflow_cast-first
overflow_cast-first c = record { sfits = omega (arith, first_top (goal.at.overflow_cast-first c).Joined-count-eq0) }

pub put_used-requires : goal.put_used-requires
put_used-requires c = (search rules, (left_top (goal.at.put_used-requires c).After-lay_calls-left).0)

pub put_free-requires : goal.put_free-requires
put_free-requires c = (search rules, (left_top (goal.at.put_free-requires c).After-lay_calls-left).1)

pub returns : goal.returns
unfolding arrived_words
returns c =
    let at = goal.at.returns c in
    let z : FitsSigned w32 c.args.read.now.strand = search rules in
    c.put_free.ensures
    ∙ rw (
      c.put_used.ensures,
      c.put_strand.ensures,
      c.put_first.ensures,
      c.lay_calls-left.ensures.words_after,
      to_z-of_z z,
      to_z_pos w32 {n = c.if-count-eq0.first} (omega (arith, first_top at.Joined-count-eq0)),
      first_is at.Joined-count-eq0,
      used_is at.After-lay_calls-left,
      free_is at.After-lay_calls-left,
    )
