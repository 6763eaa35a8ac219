-- The record after r is past those used, or a record whose variant decides.
use Rattle.std.proofs.Common.{arith, ◌∙◌}
use Rattle.variants_and_fragments.proofs.Chain.{link_over, link_in}
use Rattle.variants_and_fragments.proofs.chains.after_ok.Goals as goal

pub returns-then-laid-after : goal.returns-then-laid-after
returns-then-laid-after c = link_over _ _ _ c.args.laid.now.sized (omega (arith, c.requires, c.if-laid-after.true))

pub returns : goal.returns
returns c =
    cc (c.call_variant.ensures, c.call_variant-2.ensures, c.requires.2)
    ∙ link_in _ _ _ c.args.laid.now.sized (λ z. omega (arith, z, c.requires)) (omega (arith, c.requires, c.if-laid-after.false))
