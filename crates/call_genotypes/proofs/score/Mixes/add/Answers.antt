-- No sum of two numbers wraps. Assumes nothing.
use Rattle.std.proofs.Common.{w64, arith}
use Rattle.steps.proofs.Signed.{plus_fits, plus_read}
use Rattle.call_genotypes.specs.Inner.Scores.{value_of}
use Rattle.call_genotypes.proofs.Sizes.{mixes_added}
use Rattle.call_genotypes.proofs.score.Mixes.add.Goals as goal

pub overflow_add-self : goal.overflow_add-self
unfolding value_of
overflow_add-self c = let s = c.requires 0 in plus_fits w64 c.args.self.now.first c.args.call.first (omega (arith, s.0, s.1))

pub overflow_add-self-2 : goal.overflow_add-self-2
unfolding value_of
overflow_add-self-2 c = let s = c.requires 1 in plus_fits w64 c.args.self.now.second c.args.call.second (omega (arith, s.0, s.1))

pub overflow_add-self-3 : goal.overflow_add-self-3
unfolding value_of
overflow_add-self-3 c = let s = c.requires 2 in plus_fits w64 c.args.self.now.gap c.args.call.gap (omega (arith, s.0, s.1))

pub overflow_add-self-4 : goal.overflow_add-self-4
unfolding value_of
overflow_add-self-4 c = let s = c.requires 3 in plus_fits w64 c.args.self.now.neither c.args.call.neither (omega (arith, s.0, s.1))

pub returns : goal.returns
unfolding value_of
returns c =
    let s = c.requires in
    mixes_added c.args.self.now c.args.call _
    (plus_read w64 c.args.self.now.first c.args.call.first (let k = s 0 in omega (arith, k.0, k.1)))
    (plus_read w64 c.args.self.now.second c.args.call.second (let k = s 1 in omega (arith, k.0, k.1)))
    (plus_read w64 c.args.self.now.gap c.args.call.gap (let k = s 2 in omega (arith, k.0, k.1)))
    (plus_read w64 c.args.self.now.neither c.args.call.neither (let k = s 3 in omega (arith, k.0, k.1)))
