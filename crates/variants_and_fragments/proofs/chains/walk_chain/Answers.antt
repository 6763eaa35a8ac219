-- Each step of the walk, by the laws of walks; both arms go on at the record's next.
use Rattle.std.proofs.Common.{◌≡◌, ℕ, true, refl, sym, ◌∙◌, arith}
use Rattle.variants_and_fragments.specs.Chain.{link_ok}
use Rattle.variants_and_fragments.proofs.Chain.{link_top}
use Rattle.variants_and_fragments.proofs.Walks.{walk_fragment, walk_end, walk_out, walk_hit, walk_link, walk_on}
use Rattle.variants_and_fragments.proofs.chains.walk_chain.Goals as goal
use Rattle.variants_and_fragments.proofs.chains.walk_chain.Goals.{then-next-after+else-not-after_ok, else-next-after+else-not-link_ok}

pub loop-k-init : goal.loop-k-init
loop-k-init c = walk_fragment _ _ _ _ _ _ c.first_call-r.ensures c.requires.marked

pub returns-then-r-eq0 : goal.returns-then-r-eq0
returns-then-r-eq0 c = walk_end c.args.laid.now.sized c.loop-k.invariant c.if-r-eq0.true

pub returns-then-met : goal.returns-then-met
returns-then-met c = walk_hit c.args.laid.now.sized c.loop-k.invariant c.loop-k-test.true c.if-r-eq0.false (grind arith)

pub returns-then-not-after_ok : goal.returns-then-not-after_ok
returns-then-not-after_ok c =
    walk_link c.args.laid.now.sized c.loop-k.invariant c.loop-k-test.true c.if-r-eq0.false c.if-met.false (sym c.after_ok.ensures ∙ c.if-not-after_ok.true)

pub returns-then-not-link_ok : goal.returns-then-not-link_ok
returns-then-not-link_ok c =
    walk_link c.args.laid.now.sized c.loop-k.invariant c.loop-k-test.true c.if-r-eq0.false c.if-met.false (sym c.link_ok.ensures ∙ c.if-not-link_ok.true)

pub loop-k-preserved : goal.loop-k-preserved
loop-k-preserved c =
    let go = λ (t : ℕ) (e : t ≡ c.next_call-next.result) (h : link_ok c.args.laid.now.words.now c.args.laid.now.sizes c.loop-k.r ≡ true).
    walk_on c.args.laid.now.sized c.loop-k.invariant c.loop-k-test.true c.if-r-eq0.false c.if-met.false h (link_top _ _ _ h) t (e ∙ c.next_call-next.ensures) in
    elim c.if-next-after.branch [
      | then-next-after+else-not-after_ok w ↦ rw (w.seen-is, w.r-is) (go _ (sym w.if-next-after.true) (sym w.after_ok.ensures ∙ w.if-not-after_ok.false))
      | else-next-after+else-not-link_ok w ↦ rw (w.seen-is, w.r-is) (go _ refl (sym w.link_ok.ensures ∙ w.if-not-link_ok.false))
    ]

pub returns : goal.returns
returns c = walk_out c.args.laid.now.sized c.loop-k.invariant c.loop-k-test.false
