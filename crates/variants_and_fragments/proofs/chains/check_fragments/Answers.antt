-- The fragments passed are right; the first that is not is the place.
use Rattle.std.proofs.Common.{arith, ◌∙◌, sym, below_none, below_more, add-one}
use Rattle.variants_and_fragments.specs.Chain.{reached}
use Rattle.variants_and_fragments.proofs.Outcomes.{each_fails, each_holds, not_done}
use Rattle.variants_and_fragments.proofs.Walks.{reached_at}
use Rattle.variants_and_fragments.proofs.chains.check_fragments.Goals as goal

pub loop-f-init : goal.loop-f-init
unfolding reached
loop-f-init c = record { right = below_none _; marked = c.requires }

pub loop-f-preserved : goal.loop-f-preserved
loop-f-preserved c = record {
  right = below_more _ _ c.loop-f.invariant.right (sym c.fragment_ok.ensures.ok ∙ c.if-not-fragment_ok.false);
  marked = rw add-one (c.fragment_ok.ensures.marked c.if-not-fragment_ok.false);
}

pub returns-then-not-fragment_ok : goal.returns-then-not-fragment_ok
returns-then-not-fragment_ok c = record {
  ok = each_fails 5 _ 0 _ _ c.loop-f.f (omega arith) (omega arith) (λ j _ l. c.loop-f.invariant.right j l) (sym c.fragment_ok.ensures.ok ∙ c.if-not-fragment_ok.true);
  marked = λ e. absurd (not_done e);
}

pub returns : goal.returns
returns c = record {
  ok = each_holds 5 _ 0 _ _ (λ j _ l. c.loop-f.invariant.right j (omega arith));
  marked = λ _. reached_at _ _ _ _ _ (omega arith) c.loop-f.invariant.marked;
}
