-- A prior and two sums do not wrap. Assumes nothing.
use Rattle.std.proofs.Common.{get_or, pos, ◌+ℤ◌, w64, arith}
use Rattle.steps.proofs.Signed.{add_abs, plus_read, read_small, sfits}
use Rattle.call_genotypes.specs.Inner.Scores.{pair_rise}
use Rattle.call_genotypes.proofs.Sizes.{pair_size}
use Rattle.call_genotypes.proofs.score.Sums.pair_score.Goals as goal

pub overflow_add-result-2 : goal.overflow_add-result-2
overflow_add-result-2 c =
    let p = get_or c.args.pri.now c.args.at (pos 0) in
    let r = pair_rise c.args.self.now.of c.args.i c.args.j in
    let R = c.requires in
    let s = pair_size c.args.self.now.of c.args.self.now.within c.args.i c.args.j in
    rw (plus_read w64 p c.args.base (omega (arith, R.1, R.2)), c.pair_rise.ensures, read_small w64 r (omega (arith, s)))
    (sfits w64 ((p +ℤ c.args.base) +ℤ r) (omega (arith, add_abs (p +ℤ c.args.base) r, add_abs p c.args.base, R.1, R.2, s)))

pub returns : goal.returns
returns c =
    let p = get_or c.args.pri.now c.args.at (pos 0) in
    let r = pair_rise c.args.self.now.of c.args.i c.args.j in
    let R = c.requires in
    let s = pair_size c.args.self.now.of c.args.self.now.within c.args.i c.args.j in
    rw (plus_read w64 p c.args.base (omega (arith, R.1, R.2)), c.pair_rise.ensures, read_small w64 r (omega (arith, s)))
    (read_small w64 ((p +ℤ c.args.base) +ℤ r) (omega (arith, add_abs (p +ℤ c.args.base) r, add_abs p c.args.base, R.1, R.2, s)))
