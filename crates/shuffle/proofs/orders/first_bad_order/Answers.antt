-- Each turn tests order o, and leaves no mark above its own; where the loop ends early, order o is the first that fails. Assumes nothing.
use Rattle.std.proofs.Common.{◌+◌, ◌≤◌, refl, sym, ◌∙◌, arith, below_none, below_more}
use Rattle.std.proofs.lemmas.List.Elements.{All-replicate, All-append, All-drop, All-weaker}
use Rattle.variants_and_fragments.proofs.First.{first_at, first_end}
use Rattle.shuffle.specs.Inner.Answers.{first_bad_order}
use Rattle.shuffle.proofs.Slices.{lent_permutes}
use Rattle.shuffle.proofs.orders.first_bad_order.Goals as goal

pub loop-o-init : goal.loop-o-init
loop-o-init c = record { top = All-replicate (λ x. x ≤ 0) 1024 0 (omega arith); good = below_none _ }

pub loop-o-preserved : goal.loop-o-preserved
loop-o-preserved c =
    let l = c.loop-o in
    let here = lent_permutes c.args.n c.args.m l.o c.args.orders.now c.requires.n_value c.loop-o-test.true in
    record {
      top = All-append (λ x. x ≤ l.o + 1) c.is_permutation.new.marks _ c.is_permutation.ensures.marked
          (All-drop (λ x. x ≤ l.o + 1) c.args.n l.marks (All-weaker (λ x. x ≤ l.o) (λ x. x ≤ l.o + 1) (λ x h. omega arith) l.marks l.invariant.top));
      good = below_more _ l.o l.invariant.good (sym (c.if-not-is_permutation.ensures.answer ∙ here));
    }

pub returns-then-not-is_permutation : goal.returns-then-not-is_permutation
unfolding first_bad_order
returns-then-not-is_permutation c =
    let l = c.loop-o in
    let here = lent_permutes c.args.n c.args.m l.o c.args.orders.now c.requires.n_value c.loop-o-test.true in
    (c.loop-o-test.true, first_at _ _ _ l.invariant.good c.loop-o-test.true (sym (c.if-not-is_permutation.ensures.answer ∙ here)))

pub returns : goal.returns
unfolding first_bad_order
returns c = let all = c.loop-o.invariant.good in sym (first_end _ c.args.m c.args.m (λ k h. all k (omega arith)) refl)
