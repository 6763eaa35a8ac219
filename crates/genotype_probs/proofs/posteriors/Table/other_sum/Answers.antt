-- Each pair is added or is not, as the test says.
use Rattle.std.proofs.Common.{get_or, pos, sym, ap, ◌∙◌, arith}
use Rattle.steps.specs.Inner.Logs.{log_of, size}
use Rattle.steps.proofs.Marks.{size_steps}
use Rattle.genotype_probs.specs.Posteriors.{mirror}
use Rattle.genotype_probs.proofs.AlleleLaws.{nine}
use Rattle.genotype_probs.proofs.TableSizes.{read_finite}
use Rattle.genotype_probs.proofs.OtherSums.{adding_start, adding_more, adding_end}
use Rattle.genotype_probs.proofs.posteriors.Table.other_sum.Goals as goal
use Rattle.genotype_probs.proofs.posteriors.Table.other_sum.Goals.{then-is_other, else-is_other}

pub loop-q-init : goal.loop-q-init
loop-q-init c = rw c.ln_zero-sum.ensures (adding_start c.args.self.now.post.now c.args.self.now.k c.args.p)

pub ln_add_exp-sum-requires : goal.ln_add_exp-sum-requires
ln_add_exp-sum-requires c =
    let t = c.args.self.now in
    let z = get_or t.post.now c.loop-q.q (pos 0) in
    let h = t.table_in.small c.loop-q.q c.loop-q-test.true in
    (omega (arith, c.loop-q.invariant.small, c.loop-q.invariant.inside, nine t.k t.table_in.k_high), omega (arith, ap size (read_finite z h), size_steps z))

pub loop-q-preserved : goal.loop-q-preserved
unfolding mirror
loop-q-preserved c =
    let t = c.args.self.now in
    let q = c.loop-q.q in
    let z = get_or t.post.now q (pos 0) in
    let h = t.table_in.small q c.loop-q-test.true in
    let a = c.loop-q.invariant in
    adding_more t.post.now t.k c.args.p (log_of c.loop-q.sum.0) q a (log_of c.if-is_other.sum.0) c.loop-q-test.true h
    (elim c.if-is_other.branch [
      | then-is_other w ↦ let f = read_finite z h in rw (sym c.is_other.ensures ∙ w.if-is_other.true) (let u = w.sum-is in let v = w.ln_add_exp-sum.ensures in cc)
      | else-is_other w ↦ rw (sym c.is_other.ensures ∙ w.if-is_other.false) (let u = w.sum-is in cc)
    ])

pub returns : goal.returns
returns c =
    let t = c.args.self.now in
    (adding_end t.post.now t.k c.args.p (log_of c.loop-q.sum.0) c.loop-q.q c.loop-q.invariant c.loop-q-test.false, omega (arith, c.loop-q.invariant.small, c.loop-q.invariant.inside, nine t.k t.table_in.k_high))
