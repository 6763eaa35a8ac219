-- One place more is scored.
use Rattle.std.proofs.Common.{◌<◌, get_or, pos, nat_abs, ap, ◌∙◌, arith, w64}
use Rattle.std.proofs.lemmas.List.{get_or-set_same, get_or-set_other}
use native.Mathlib.Decide.{ℕ_discrete}
use Rattle.steps.proofs.Signed.{plus_fits, plus_read}
use Rattle.genotype_probs.proofs.AlleleLaws.{nine}
use Rattle.no_haplotypes.proofs.tally.Tally.score.Goals as goal

pub overflow_add-post : goal.overflow_add-post
overflow_add-post c =
    let p = c.loop-p.p in
    let old = c.loop-p.invariant.1 p (omega arith) in
    plus_fits w64 (get_or c.loop-p.post p (pos 0)) c.pair_gain.result.0
    (omega (arith, ap nat_abs old, c.requires.priors_in.small p (omega (arith, nine c.args.k c.requires.k_in.1)), c.pair_gain.ensures.1))

pub loop-p-preserved : goal.loop-p-preserved
loop-p-preserved c =
    let p = c.loop-p.p in
    let post = c.loop-p.post in
    let i = c.loop-p.invariant in
    let h : p < 9 = omega (arith, nine c.args.k c.requires.k_in.1) in
    let old = i.1 p (omega arith) in
    let gain = c.pair_gain.result.0 in
    let e = plus_read w64 (get_or post p (pos 0)) gain (omega (arith, ap nat_abs old, c.requires.priors_in.small p h, c.pair_gain.ensures.1)) in (
      λ q l. elim (ℕ_discrete q p) [
        | yes z ↦ rw z (get_or-set_same post p _ (pos 0) (omega (arith, c.loop-p.auto.post, c.requires.priors_in.size)) ∙ e ∙ rw (old, c.pair_gain.ensures.0))
        | no z ↦ get_or-set_other post p q _ (pos 0) z ∙ i.0 q (omega arith)
      ],
      λ q l. get_or-set_other post p q _ (pos 0) (λ z. omega arith) ∙ i.1 q (omega arith),
    )
