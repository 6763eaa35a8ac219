-- The larger has one of their sizes, and A is at most 4096, so the sum does not wrap.
use Rattle.std.proofs.Common.{◌≡◌, pos, ◌∙◌, arith, to_z-of_z, w64}
use Rattle.steps.specs.Logs.{add_exp, difference, larger}
use Rattle.steps.proofs.Addends.{at_most}
use Rattle.steps.proofs.AddExp.{max_is, sum_small}
use Rattle.steps.proofs.Signed.{plus_fits, plus_read}
use Rattle.steps.proofs.logs.add_exp.Goals as goal

pub overflow_cast-result : goal.overflow_cast-result
overflow_cast-result c = let h = at_most c.abs_diff.result in record { sfits = omega arith }

pub overflow_add-result : goal.overflow_add-result
overflow_add-result c =
    let m : c.max.result ≡ larger c.args.a c.args.b = cc (max_is c.args.a c.args.b, c.max.ensures.value, to_z-of_z c.ranges.a, to_z-of_z c.ranges.b) in
    plus_fits w64 c.max.result (pos c.addend.result)
    (sum_small c.args.a c.args.b c.max.result c.abs_diff.result c.addend.result m c.addend.ensures c.requires.0 c.requires.1)

pub returns : goal.returns
unfolding add_exp difference
returns c =
    let m : c.max.result ≡ larger c.args.a c.args.b = cc (max_is c.args.a c.args.b, c.max.ensures.value, to_z-of_z c.ranges.a, to_z-of_z c.ranges.b) in
    plus_read w64 c.max.result (pos c.addend.result)
    (sum_small c.args.a c.args.b c.max.result c.abs_diff.result c.addend.result m c.addend.ensures c.requires.0 c.requires.1)
    ∙ cc (m, c.addend.ensures, c.abs_diff.ensures, to_z-of_z c.ranges.a, to_z-of_z c.ranges.b)
