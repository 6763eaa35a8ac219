-- One more value looked at, which is greater or not.
use Rattle.std.proofs.Common.{◌≡◌, ◌*◌, ap, ◌∙◌, arith}
use Rattle.std.proofs.lemmas.Grind.{common_steps}
use Rattle.genotype_probs.specs.Posteriors.{first_maximum, post_at, max_genotype}
use Rattle.genotype_probs.proofs.TableSizes.{first_in}
use Rattle.genotype_probs.proofs.Maxima.{maximum_one, maximum_more, maximum_kept, genotype_maximum, lt_test}
use Rattle.genotype_probs.proofs.posteriors.Table.max_genotype.Goals as goal

pub loop-p-init : goal.loop-p-init
loop-p-init c = let t = c.args.self.now in (maximum_one (post_at c.args.phased t.post.now t.k), c.post_of-top.ensures)

pub loop-p-preserved : goal.loop-p-preserved
loop-p-preserved c = grind (arith, common_steps, maximum_more, maximum_kept, lt_test)

pub returns-clause-value : goal.returns-clause-value
unfolding max_genotype
returns-clause-value c =
    let t = c.args.self.now in
    let f = first_in t.table_in in
    let e : c.loop-p.p ≡ t.k * t.k = omega arith in
    c.loop-p.invariant.0 ∙ ap (first_maximum (post_at c.args.phased t.post.now t.k)) e

pub returns-clause-inside : goal.returns-clause-inside
unfolding max_genotype
returns-clause-inside c =
    let t = c.args.self.now in
    let f = first_in t.table_in in
    let e : c.loop-p.p ≡ t.k * t.k = omega arith in
    omega (arith, c.loop-p.invariant.0 ∙ ap (first_maximum (post_at c.args.phased t.post.now t.k)) e, (genotype_maximum c.args.phased t.post.now t.k t.table_in.k_low).inside)
