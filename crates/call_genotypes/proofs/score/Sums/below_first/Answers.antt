-- The sum of a prior and a gap does not wrap, nor its negation. Assumes nothing.
use Rattle.std.proofs.Common.{get_or, ◌*◌, pos, ◌+ℤ◌, ◌-ℤ◌, refl, w64, arith}
use Rattle.steps.proofs.Signed.{add_abs, plus_fits, plus_read, minus_abs, sfits, read_small}
use Rattle.call_genotypes.specs.Inner.Scores.{value_of, sums_at}
use Rattle.call_genotypes.proofs.score.Sums.below_first.Goals as goal

pub overflow_add-result : goal.overflow_add-result
unfolding value_of
overflow_add-result c =
    let s = c.args.self.now in
    plus_fits w64 (get_or c.args.pri.now (9 * c.args.v) (pos 0)) (sums_at s.of 0 2) (omega (arith, c.requires.2, s.within 0 2))

pub overflow_sub-result : goal.overflow_sub-result
unfolding value_of
overflow_sub-result c =
    let s = c.args.self.now in
    let p = get_or c.args.pri.now (9 * c.args.v) (pos 0) in
    let z = p +ℤ sums_at s.of 0 2 in
    rw (plus_read w64 p (sums_at s.of 0 2) (omega (arith, c.requires.2, s.within 0 2)))
    (sfits w64 (pos 0 -ℤ z) (omega (arith, minus_abs (pos 0) z, add_abs p (sums_at s.of 0 2), c.requires.2, s.within 0 2)))

pub returns : goal.returns
unfolding value_of
returns c =
    let s = c.args.self.now in
    let p = get_or c.args.pri.now (9 * c.args.v) (pos 0) in
    let z = p +ℤ sums_at s.of 0 2 in
    rw (
      plus_read w64 p (sums_at s.of 0 2) (omega (arith, c.requires.2, s.within 0 2)),
      read_small w64 (pos 0 -ℤ z) (omega (arith, minus_abs (pos 0) z, add_abs p (sums_at s.of 0 2), c.requires.2, s.within 0 2)),
    )
    (refl, omega (arith, minus_abs (pos 0) z, add_abs p (sums_at s.of 0 2), c.requires.2, s.within 0 2))
