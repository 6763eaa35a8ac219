-- One more read is added: at most 262144 steps for each of its rows, and 8192. Assumes nothing.
use Rattle.std.proofs.Common.{arith, w64}
use Rattle.steps.proofs.Signed.{plus_fits}
use Rattle.likelihoods.proofs.RunningSums.{running_start, running_more}
use Rattle.likelihoods.proofs.CallShares.{start_next, read_rises, read_few}
use Rattle.likelihoods.proofs.TotalParts.{fragment_is}
use Rattle.likelihoods.proofs.totals.fragments_total.Goals as goal

pub loop-f-init : goal.loop-f-init
loop-f-init c = running_start _ _

pub mixed-requires : goal.mixed-requires
mixed-requires c =
    let s = c.args.reads.now in
    let few = read_few s.calls_in s.ends_in c.loop-f.f c.loop-f-test.true in
    let r = c.read_likelihoods.ensures in
    (omega (arith, r.first_small), omega (arith, r.second_small))

pub overflow_add-sum : goal.overflow_add-sum
overflow_add-sum c =
    let s = c.args.reads.now in
    let few = read_few s.calls_in s.ends_in c.loop-f.f c.loop-f-test.true in
    let rise = read_rises s.calls_in s.ends_in c.loop-f.f c.loop-f-test.true in
    let k = fragment_is s.rows.words.now s.rows.ends.now s.on.hap.now s.on.mask.now c.loop-f.f _ _ c.read_likelihoods.ensures c.mixed.ensures in
    plus_fits w64 c.loop-f.sum.0 c.mixed.result.0 (omega (arith, k.1, c.loop-f.invariant.small, c.requires))

pub loop-f-preserved : goal.loop-f-preserved
loop-f-preserved c =
    let s = c.args.reads.now in
    let few = read_few s.calls_in s.ends_in c.loop-f.f c.loop-f-test.true in
    let rise = read_rises s.calls_in s.ends_in c.loop-f.f c.loop-f-test.true in
    let k = fragment_is s.rows.words.now s.rows.ends.now s.on.hap.now s.on.mask.now c.loop-f.f _ _ c.read_likelihoods.ensures c.mixed.ensures in
    running_more _ _ _ _ _ c.loop-f.invariant k.0 (omega (arith, k.1, start_next s.rows.ends.now c.loop-f.f)) (omega (arith, start_next s.rows.ends.now c.loop-f.f, c.requires))
