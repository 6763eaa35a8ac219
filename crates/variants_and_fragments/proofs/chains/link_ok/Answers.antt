-- A next that is zero, past those used, or a record.
use Rattle.variants_and_fragments.proofs.Chain.{link_end, link_over, link_in}
use Rattle.variants_and_fragments.proofs.chains.link_ok.Goals as goal

pub returns-then-t-eq0 : goal.returns-then-t-eq0
returns-then-t-eq0 c = link_end _ _ _ c.args.laid.now.sized (rw c.next_call-t.ensures at c.if-t-eq0.true)

pub returns-then-laid-t : goal.returns-then-laid-t
returns-then-laid-t c = link_over _ _ _ c.args.laid.now.sized (rw c.next_call-t.ensures at c.if-laid-t.true)

pub returns : goal.returns
returns c =
    rw (c.call_variant.ensures, c.call_variant-2.ensures, c.next_call-t.ensures)
    (link_in _ _ _ c.args.laid.now.sized (rw c.next_call-t.ensures at c.if-t-eq0.false) (rw c.next_call-t.ensures at c.if-laid-t.false))
