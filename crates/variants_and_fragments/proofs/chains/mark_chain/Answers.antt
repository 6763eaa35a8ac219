-- Each step of the walk, by the laws of what is reached.
use Rattle.variants_and_fragments.proofs.Reach.{reach_start, reach_end, reach_hit, reach_out, reach_on}
use Rattle.variants_and_fragments.proofs.chains.mark_chain.Goals as goal
use Rattle.variants_and_fragments.proofs.chains.mark_chain.Goals.{then-r-eq0-via-then-r-eq0, then-r-eq0-via-else-r-eq0+then-seen-r}

pub loop-k-init : goal.loop-k-init
loop-k-init c = reach_start _ _ _ _ _ c.first_call-r.ensures c.requires.reach_marked

pub returns-then-r-eq0 : goal.returns-then-r-eq0
returns-then-r-eq0 c = elim c.then-r-eq0.branch [
  | then-r-eq0-via-then-r-eq0 w ↦ reach_end c.args.laid.now.sized c.loop-k.invariant w.if-r-eq0.true
  | then-r-eq0-via-else-r-eq0+then-seen-r w ↦ reach_hit c.args.laid.now.sized c.loop-k.invariant w.if-seen-r.true
]

pub loop-k-preserved : goal.loop-k-preserved
loop-k-preserved c = reach_on c.args.laid.now.sized c.loop-k.invariant c.loop-k-test.true c.if-r-eq0.false c.if-seen-r.false _ c.next_record-r.ensures

pub returns : goal.returns
returns c = reach_out c.args.laid.now.sized c.loop-k.invariant c.loop-k-test.false
