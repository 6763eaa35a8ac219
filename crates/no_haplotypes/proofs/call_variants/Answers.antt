-- One variant more is called.
use Rattle.std.proofs.Common.{◌∙◌, arith}
use Rattle.no_haplotypes.proofs.CallRuns.{calling_start, nine_priors, calling_on}
use Rattle.no_haplotypes.proofs.call_variants.Goals as goal

pub loop-v-init : goal.loop-v-init
loop-v-init c = calling_start

pub loop-v-preserved : goal.loop-v-preserved
loop-v-preserved c =
    let priors = nine_priors c.loop-v.invariant c.requires.priors_in c.loop-v-test.true in
    rw c.copy_from_slice.ensures.after
    (calling_on c.loop-v.invariant c.answer-answer.new.post c.loop-v-test.true
    (omega (arith, c.loop-v.auto.post, c.requires.priors_in.room))
    (omega (arith, c.loop-v.auto.variants, c.requires.n_in_bounds.0))
    (c.answer-answer.auto.post ∙ priors.size)
    (rw (c.calls.ensures.0, c.calls.ensures.1) at c.answer-answer.ensures.called))
