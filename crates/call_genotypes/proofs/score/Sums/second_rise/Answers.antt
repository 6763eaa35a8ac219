-- Neither the difference of two sums nor a third one more wraps. Assumes nothing.
use Rattle.std.proofs.Common.{refl, ◌+ℤ◌, ◌-ℤ◌, w64, arith}
use Rattle.steps.proofs.Signed.{add_abs, minus_abs, minus_fits, minus_read, read_small, sfits}
use Rattle.call_genotypes.specs.Inner.Scores.{value_of, rise_of, sums_at}
use Rattle.call_genotypes.proofs.Sizes.{second_rise_size}
use Rattle.call_genotypes.proofs.score.Sums.second_rise.Goals as goal

pub overflow_sub-result : goal.overflow_sub-result
unfolding value_of
overflow_sub-result c =
    let s = c.args.self.now in
    let x = c.args.x in
    minus_fits w64 (sums_at s.of x 1) (sums_at s.of x 3) (omega (arith, s.within x 1, s.within x 3))

pub overflow_add-result : goal.overflow_add-result
unfolding value_of
overflow_add-result c =
    let s = c.args.self.now in
    let x = c.args.x in
    let d = sums_at s.of x 1 -ℤ sums_at s.of x 3 in
    let m = minus_abs (sums_at s.of x 1) (sums_at s.of x 3) in
    rw (minus_read w64 (sums_at s.of x 1) (sums_at s.of x 3) (omega (arith, s.within x 1, s.within x 3)), read_small w64 (sums_at s.of x 2) (omega (arith, s.within x 2)))
    (sfits w64 (d +ℤ sums_at s.of x 2) (omega (arith, add_abs d (sums_at s.of x 2), m, s.within x 1, s.within x 2, s.within x 3)))

pub returns : goal.returns
unfolding value_of rise_of
returns c =
    let s = c.args.self.now in
    let x = c.args.x in
    let d = sums_at s.of x 1 -ℤ sums_at s.of x 3 in
    let size = second_rise_size s.of s.within x in
    rw (minus_read w64 (sums_at s.of x 1) (sums_at s.of x 3) (omega (arith, s.within x 1, s.within x 3)), read_small w64 (sums_at s.of x 2) (omega (arith, s.within x 2)), read_small w64 (d +ℤ sums_at s.of x 2) (omega (arith, size)))
    (refl, size)
