-- The difference of two sums does not wrap. Assumes nothing.
use Rattle.std.proofs.Common.{refl, w64, arith}
use Rattle.steps.proofs.Signed.{minus_fits, minus_read}
use Rattle.call_genotypes.specs.Inner.Scores.{value_of, rise_of, sums_at}
use Rattle.call_genotypes.proofs.Sizes.{first_rise_size}
use Rattle.call_genotypes.proofs.score.Sums.first_rise.Goals as goal

pub overflow_sub-result : goal.overflow_sub-result
unfolding value_of
overflow_sub-result c =
    let s = c.args.self.now in
    let x = c.args.x in
    minus_fits w64 (sums_at s.of x 0) (sums_at s.of x 3) (omega (arith, s.within x 0, s.within x 3))

pub returns : goal.returns
unfolding value_of rise_of
returns c =
    let s = c.args.self.now in
    let x = c.args.x in
    rw (minus_read w64 (sums_at s.of x 0) (sums_at s.of x 3) (omega (arith, s.within x 0, s.within x 3))) (refl, first_rise_size s.of s.within x)
