-- One more call is laid, in the record at the front of those left.
use Rattle.std.proofs.Common.{◌≡◌, refl, sym, ap, subst, ◌∙◌, ℕ, suc, ◌≤◌, ◌<◌, ℤ, List, get_or, add-one, arith}
use Rattle.variants_and_fragments.specs.declared.CallWords.{CallWords}
use Rattle.variants_and_fragments.specs.declared.Sizes.{Sizes}
use Rattle.variants_and_fragments.specs.Layout.{call_put}
use Rattle.variants_and_fragments.specs.Inner.Layout.{Sized}
use Rattle.late_reads.specs.declared.words.RoomLeft.{RoomLeft}
use Rattle.late_reads.specs.Arriving.{whole_calls, taken, calls_laid}
use Rattle.late_reads.specs.Inner.Room.{front_of, rest_of, left_at}
use Rattle.late_reads.proofs.Room.{taken_past, taken_length, taken_in, taken_top, left_start, left_in, taken_front, taken_rest}
use Rattle.late_reads.proofs.WordsAfter.{sized_laid, laid_more}
use Rattle.late_reads.proofs.words.lay_calls.Goals as goal
use Rattle.late_reads.proofs.words.lay_calls.Goals.{In-loop-i, After-front-r, After-rest-left, Joined-i-m, then-i-m, else-i-m}

pub loop-i-init : goal.loop-i-init
unfolding calls_laid
loop-i-init c = record { left_is = left_start c.requires.case_in _ c.all-left.ensures; laid = refl }

more : (c : In-loop-i) → c.loop-i.i < whole_calls c.args.read.now.calls.now
more c = omega (arith, c.loop-i-test.true, c.count-m.ensures)

sized : (c : In-loop-i) → Sized c.loop-i.words c.args.s
sized c =
    let calls = c.args.read.now.calls.now in
    subst (λ (x : List ℤ). Sized x c.args.s) (sym c.loop-i.invariant.laid) (sized_laid c.args.words.now c.args.s calls (taken c.args.words.now c.args.s (whole_calls calls)) c.loop-i.i c.requires.case_in.sized)

left_top : (c : In-loop-i) → (c.loop-i.left.used ≤ 16384) × (c.loop-i.left.free ≤ c.args.s.c)
left_top c =
    let b = left_in c.requires.case_in c.loop-i.i (omega (arith, more c, c.requires.arriving.fits)) in
    let z = c.requires.case_in.sized in
    let used = ap (λ (x : RoomLeft). x.used) c.loop-i.invariant.left_is in
    let free = ap (λ (x : RoomLeft). x.free) c.loop-i.invariant.left_is in
    (omega (arith, b.0, z.c_top), omega (arith, b.1, z.used_top))

front_is : (c : After-front-r) → c.front-r.result ≡ get_or (taken c.args.words.now c.args.s (whole_calls c.args.read.now.calls.now)) c.loop-i.i 0
front_is c =
    c.front-r.ensures
    ∙ ap front_of c.loop-i.invariant.left_is
    ∙ taken_front c.requires.case_in (whole_calls c.args.read.now.calls.now) c.requires.arriving.fits c.loop-i.i (omega (arith, c.loop-i-test.true, c.count-m.ensures))

rest_is : (c : After-rest-left) → c.rest-left.result ≡ left_at c.args.words.now c.args.s (suc c.loop-i.i)
rest_is c =
    c.rest-left.ensures
    ∙ ap (rest_of c.loop-i.words c.args.s) c.loop-i.invariant.left_is
    ∙ ap (λ (x : List ℤ). rest_of x c.args.s (left_at c.args.words.now c.args.s c.loop-i.i)) c.loop-i.invariant.laid
    ∙ taken_rest c.requires.case_in (whole_calls c.args.read.now.calls.now) c.requires.arriving.fits c.loop-i.i (omega (arith, c.loop-i-test.true, c.count-m.ensures)) c.args.read.now.calls.now

next_is : (c : Joined-i-m) → c.rest-left.result ≡ left_at c.args.words.now c.args.s (suc c.loop-i.i) → c.if-i-m.next ≡ get_or (taken c.args.words.now c.args.s (whole_calls c.args.read.now.calls.now)) (suc c.loop-i.i) 0
next_is c rest =
    let m = whole_calls c.args.read.now.calls.now in
    elim c.if-i-m.branch [
      | then-i-m w ↦ w.next-is ∙ sym (taken_past c.args.words.now c.args.s m (suc c.loop-i.i) (omega (arith, w.if-i-m.true, c.count-m.ensures)))
      | else-i-m w ↦
          w.next-is ∙ w.front-next.ensures
          ∙ ap front_of rest
          ∙ taken_front c.requires.case_in m c.requires.arriving.fits (suc c.loop-i.i) (omega (arith, w.if-i-m.false, c.loop-i-test.true, c.count-m.ensures))
    ]

-- the same call put in the same record
same_put : (s : Sizes) {w w' : List ℤ} {r r' : ℕ} {call call' : CallWords} {n n' : ℕ} → w ≡ w' → r ≡ r' → call ≡ call' → n ≡ n' → call_put w s r call n ≡ call_put w' s r' call' n'
same_put s a b c d = rw (a, b, c, d)

pub front-r-requires : goal.front-r-requires
front-r-requires c = (left_top (goal.at.front-r-requires c).In-loop-i).0

pub rest-left-requires : goal.rest-left-requires
rest-left-requires c = left_top (goal.at.rest-left-requires c).In-loop-i

pub front-next-requires : goal.front-next-requires
front-next-requires c =
    let b = left_in c.requires.case_in (suc c.loop-i.i) (omega (arith, c.loop-i-test.true, c.count-m.ensures, c.requires.arriving.fits)) in
    omega (arith, b.0, c.requires.case_in.sized.c_top, ap (λ (x : RoomLeft). x.used) (rest_is (goal.at.front-next-requires c).After-rest-left))

pub put_call-requires : goal.put_call-requires
put_call-requires c =
    let at = goal.at.put_call-requires c in
    let k = c.requires.case_in in
    let m = whole_calls c.args.read.now.calls.now in
    let fits = c.requires.arriving.fits in
    let n = taken_length c.args.words.now c.args.s m fits in
    let b = taken_in k m fits c.loop-i.i (omega (arith, n, more at.In-loop-i)) in
    let e = front_is at.After-front-r in
    let top = taken_top k m fits (suc c.loop-i.i) in
    record { sized = sized at.In-loop-i; le_r = (omega (arith, e, b.0), omega (arith, e, b.1), omega (arith, next_is at.Joined-i-m (rest_is at.After-rest-left), top, k.sized.c_top)) }

pub loop-i-preserved : goal.loop-i-preserved
loop-i-preserved c =
    let at = goal.at.loop-i-preserved c in
    let calls = c.args.read.now.calls.now in
    record {
      left_is = rest_is at.After-rest-left ∙ ap (left_at c.args.words.now c.args.s) (sym (add-one c.loop-i.i));
      laid = c.put_call.ensures
          ∙ same_put c.args.s c.loop-i.invariant.laid (front_is at.After-front-r) c.call_words.ensures (next_is at.Joined-i-m (rest_is at.After-rest-left))
          ∙ laid_more c.args.words.now c.args.s calls (taken c.args.words.now c.args.s (whole_calls calls)) c.loop-i.i;
    }
