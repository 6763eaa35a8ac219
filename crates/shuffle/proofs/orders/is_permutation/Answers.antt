-- The marks are right at the start and after each entry; an entry that is too high or stands there twice, and the end, decide the test.
-- Assumes nothing.
use Rattle.std.proofs.Common.{◌≡◌, ◌≤◌, ◌+◌, ◌++◌, [], ◌∷◌, length, take, get_or, add-one, arith, take-suc, take_all}
use Rattle.std.proofs.lemmas.List.Elements.{All-set}
use Rattle.shuffle.proofs.Marks.{marking_start, marking_more, marking_high, marking_twice, marking_end}
use Rattle.shuffle.proofs.orders.is_permutation.Goals as goal
use Rattle.shuffle.proofs.orders.is_permutation.Goals.{then-marks-v-via-then-marks-v, then-marks-v-via-else-marks-v+then-marks-v-2}

pub loop-v-init : goal.loop-v-init
loop-v-init c = record {
  top = λ k d h. omega (arith, c.requires.earlier k d h);
  marking = marking_start _ _ c.requires.earlier;
}

pub loop-v-preserved : goal.loop-v-preserved
loop-v-preserved c =
    let l = c.loop-v in
    let next : take (l.v-index + 1) c.args.order.now ≡ take l.v-index c.args.order.now ++ (get_or c.args.order.now l.v-index 0 ∷ []) = rw add-one (take-suc c.args.order.now l.v-index 0 c.loop-v-test.true) in
    record {
      top = All-set (λ x. x ≤ c.args.mark) l.marks _ c.args.mark (omega arith) l.invariant.top;
      marking = rw next (marking_more _ _ _ l.marks l.invariant.marking c.if-marks-v.false c.if-marks-v-2.false);
    }

pub returns-then-marks-v-clause-answer : goal.returns-then-marks-v-clause-answer
returns-then-marks-v-clause-answer c =
    let l = c.loop-v in
    let long : length c.args.order.now ≡ length l.marks = omega arith in
    elim c.then-marks-v.branch [
      | then-marks-v-via-then-marks-v w ↦ marking_high _ _ _ _ l.invariant.marking long c.loop-v-test.true w.if-marks-v.true
      | then-marks-v-via-else-marks-v+then-marks-v-2 w ↦ marking_twice _ _ _ _ l.invariant.marking long c.loop-v-test.true w.if-marks-v.false w.if-marks-v-2.true
    ]

pub returns-clause-answer : goal.returns-clause-answer
returns-clause-answer c =
    let l = c.loop-v in
    let whole : take l.v-index c.args.order.now ≡ c.args.order.now = take_all l.v-index c.args.order.now c.loop-v-test.false in
    marking_end c.args.mark c.args.order.now l.marks (rw whole at l.invariant.marking) (omega arith)
