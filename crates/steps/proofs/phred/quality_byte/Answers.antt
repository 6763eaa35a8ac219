-- A count is at most its range, and one more w is counted where it is at most q.
use Rattle.std.proofs.Common.{◌≡◌, ℕ, ◌+◌, ◌-◌, Bool, cond, ap, ◌∙◌, arith}
use Rattle.steps.specs.Phred.{count_up_to, quality_byte}
use Rattle.steps.proofs.Counting.{count_le, count_more}
use Rattle.steps.proofs.phred.quality_byte.Goals as goal
use Rattle.steps.proofs.phred.quality_byte.Goals.{then-w-x, else-w-x}

pub overflow_add-n : goal.overflow_add-n
overflow_add-n c = omega (arith, count_le (c.loop-w.w - 1) c.args.q.0)

pub loop-w-preserved : goal.loop-w-preserved
loop-w-preserved c =
    let m = count_more c.loop-w.w c.args.q.0 (omega arith) in
    elim c.if-w-x.branch [
      | then-w-x w ↦ omega (arith, m, ap {B = ℕ} (λ (t : Bool). cond t 1 0) w.if-w-x.true)
      | else-w-x w ↦ omega (arith, m, ap {B = ℕ} (λ (t : Bool). cond t 1 0) w.if-w-x.false)
    ]

pub returns : goal.returns
unfolding quality_byte
returns c =
    let e : c.loop-w.w - 1 ≡ 93 = omega arith in
    c.loop-w.invariant ∙ ap (λ (k : ℕ). 33 + count_up_to k c.args.q.0) e
