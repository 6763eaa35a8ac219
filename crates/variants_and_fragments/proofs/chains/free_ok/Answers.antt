-- The walk of the free chain, then a flag for each used record.
use Rattle.std.proofs.Common.{ℕ, suc, false, get_or, sym, ap, arith, ◌∙◌, refl}
use Rattle.variants_and_fragments.specs.Chain.{free_ok}
use Rattle.variants_and_fragments.proofs.First.{part_decides}
use Rattle.variants_and_fragments.proofs.Free.{marked_chains}
use Rattle.variants_and_fragments.proofs.chains.free_ok.Goals as goal

pub returns-then-walk_free : goal.returns-then-walk_free
unfolding free_ok
returns-then-walk_free c =
    let m = c.walk_free.ensures.marked c.if-walk_free.true in
    let z = c.args.laid.now.sized in
    part_decides (λ i. get_or c.walk_free.new.seen (suc i) false) (λ b. b) false c.walk_free.new.seen 1 c.args.laid.now.sizes.used _ c.all_marked.result (omega arith) (omega (arith, z.used_top, z.c_top, m.long)) (λ i l. ap (λ (x : ℕ). get_or c.walk_free.new.seen x false) (omega arith)) c.all_marked.ensures
    ∙ marked_chains c.args.laid.now.words.now c.args.laid.now.sizes _ (omega (arith, z.used_top, z.c_top)) m
    ∙ rw (sym c.walk_free.ensures.ok ∙ c.if-walk_free.true) refl

pub returns-else-walk_free : goal.returns-else-walk_free
unfolding free_ok
returns-else-walk_free c = let e = sym c.walk_free.ensures.ok ∙ c.if-walk_free.false in simp (e, c.if-walk_free.false)
