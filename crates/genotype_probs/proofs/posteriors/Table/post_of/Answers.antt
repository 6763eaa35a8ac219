-- Each arm is one of the definition; entries are small, so ln_add_exp takes them.
use Rattle.std.proofs.Common.{ℤ, ◌^◌, ◌≤◌, nat_abs, arith}
use Rattle.steps.specs.Inner.Logs.{log_of, size}
use Rattle.steps.proofs.Marks.{size_small, add_is}
use Rattle.genotype_probs.specs.Posteriors.{post_of, post_at}
use Rattle.genotype_probs.proofs.posteriors.Table.post_of.Goals as goal

pub returns-then-phased-i : goal.returns-then-phased-i
unfolding post_at post_of
returns-then-phased-i c = rw c.if-phased-i.true c.entry-x.ensures.0

entry_size : (z : ℤ) → nat_abs z ≤ 2 ^ 40 → size (log_of z) ≤ 2 ^ 61
entry_size z h = omega (arith, size_small z (omega arith))

pub ln_add_exp-requires : goal.ln_add_exp-requires
ln_add_exp-requires c = (entry_size c.entry-x.result.0 c.entry-x.ensures.1, entry_size c.entry.result.0 c.entry.ensures.1)

pub returns : goal.returns
unfolding post_at post_of
returns c =
    let x = c.entry-x.ensures.1 in
    let y = c.entry.ensures.1 in
    let e = add_is c.entry-x.result.0 c.entry.result.0 c.ln_add_exp.result.0 (omega arith) (omega arith) c.ln_add_exp.ensures in
    rw c.if-phased-i.false (cc (e, c.entry-x.ensures.0, c.entry.ensures.0))
