-- Each step of the walk, by the laws of walks.
use Rattle.std.proofs.Common.{arith, ◌∙◌, le-leb, refl}
use Rattle.std.proofs.lemmas.Bool.{lt-leb}
use Rattle.variants_and_fragments.specs.Chain.{free_chain}
use Rattle.variants_and_fragments.proofs.Chain.{next_in}
use Rattle.variants_and_fragments.proofs.Walks.{walk_start, walk_end, walk_out, walk_hit, walk_link, walk_on}
use Rattle.variants_and_fragments.proofs.chains.walk_free.Goals as goal

pub loop-k-init : goal.loop-k-init
unfolding free_chain
loop-k-init c = walk_start _ _ _ _ _ _ _ _ c.args.laid.now.sized.free_top refl c.requires

pub returns-then-t-eq0 : goal.returns-then-t-eq0
returns-then-t-eq0 c = walk_end c.args.laid.now.sized c.loop-k.invariant c.if-t-eq0.true

pub returns-then-met : goal.returns-then-met
returns-then-met c = walk_hit c.args.laid.now.sized c.loop-k.invariant (omega arith) c.if-t-eq0.false (grind arith)

pub returns-then-laid-next : goal.returns-then-laid-next
returns-then-laid-next c =
    walk_link c.args.laid.now.sized c.loop-k.invariant (omega arith) c.if-t-eq0.false c.if-met.false
    (next_in _ _ _ c.args.laid.now.sized ∙ lt-leb _ _ (rw c.next_call-next.ensures at c.if-laid-next.true))

pub loop-k-preserved : goal.loop-k-preserved
loop-k-preserved c =
    let top = rw c.next_call-next.ensures at c.if-laid-next.false in
    walk_on c.args.laid.now.sized c.loop-k.invariant (omega arith) c.if-t-eq0.false c.if-met.false (next_in _ _ _ c.args.laid.now.sized ∙ le-leb _ _ top) top _ c.next_call-next.ensures

pub returns-else-laid-next : goal.returns-else-laid-next
returns-else-laid-next c =
    let top = rw c.next_call-next.ensures at c.if-laid-next.false in
    walk_out c.args.laid.now.sized
    (walk_on c.args.laid.now.sized c.loop-k.invariant (omega arith) c.if-t-eq0.false c.if-met.false (next_in _ _ _ c.args.laid.now.sized ∙ le-leb _ _ top) top _ c.next_call-next.ensures)
    (omega arith)
