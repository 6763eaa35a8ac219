-- One more element on the way, and none left at the end.
use Rattle.std.proofs.Common.{◌≡◌, ℕ, ◌+◌, ◌*◌, ◌^◌, map, length, get_or, drop, pos, sym, refl, ap, ◌∙◌, arith, to_z-of_z, w64, to_z, of_z}
use Rattle.steps.specs.Logs.{ln_add_exp, ln_sum_from, ln_sum_exp}
use Rattle.steps.specs.Inner.Logs.{log_of, size}
use Rattle.steps.proofs.Marks.{size_fits, log_size}
use Rattle.steps.proofs.Sums.{sum_next, sum_end}
use Rattle.steps.proofs.LogProb.ln_sum_exp.Goals as goal

pub loop-x-init : goal.loop-x-init
unfolding size ln_sum_exp
loop-x-init c = rw c.ln_zero-sum.ensures (omega arith, refl)

pub loop-x-preserved : goal.loop-x-preserved
loop-x-preserved c =
    let s = c.args.s.now in
    let i = c.loop-x.x-index in
    let a = log_of c.loop-x.sum.0 in
    let z = get_or s i (pos 0) in
    let small = c.requires.1 i c.loop-x-test.true in
    let r : to_z w64 (of_z w64 z) ≡ z = to_z-of_z (size_fits z (omega arith)) in
    let e : log_of c.ln_add_exp-sum.result.0 ≡ ln_add_exp a (log_of z) = cc in
    rw e
    (omega (arith, log_size a (log_of z) (2 ^ 60 + 4096 * i) c.loop-x.invariant.0 (omega arith)), sym (sum_next a s i c.loop-x-test.true) ∙ c.loop-x.invariant.1)

pub returns : goal.returns
returns c =
    let s = c.args.s.now in
    let a = log_of c.loop-x.sum.0 in
    let e : c.loop-x.x-index ≡ length s = omega arith in
    sym (sum_end a s) ∙ sym (ap (λ (n : ℕ). ln_sum_from a (map log_of (drop n s))) e) ∙ c.loop-x.invariant.1
