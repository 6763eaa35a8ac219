-- One more score is written. Assumes nothing.
use Rattle.std.proofs.Common.{◌≡◌, ◌+◌, ◌*◌, ap, ◌∙◌, ℤ, to_z, of_z, to_z-of_z, w64, arith, rules}
use lib.Seq.{sets}
use Rattle.call_genotypes.specs.Inner.Scores.{scores_of}
use lib.Arith.{digits_div, digits_mod}
use Rattle.genotype_probs.proofs.TableSums.{place_in}
use Rattle.call_genotypes.proofs.Written.{writing_start, writing_more, writing_end}
use Rattle.call_genotypes.proofs.score.Sums.write_scores.Goals as goal

pub loop-i-init : goal.loop-i-init
loop-i-init c = let z : 0 * c.args.k ≡ 0 = omega arith in rw z (writing_start _ _ _ _)

pub loop-j-init : goal.loop-j-init
loop-j-init c = let z : c.loop-i.i * c.args.k + 0 ≡ c.loop-i.i * c.args.k = omega arith in rw z c.loop-i.invariant

pub loop-j-preserved : goal.loop-j-preserved
loop-j-preserved c =
    let l = c.loop-j in
    let p = c.loop-i.i * c.args.k + l.j in
    let e : to_z w64 (of_z w64 c.pair_score-score.result.0) ≡ c.pair_score-score.result.0 = search rules in
    let q : c.loop-i.i * c.args.k + (l.j + 1) ≡ p + 1 = omega arith in
    writing_more _ _ _ _ l.post p _ _ l.invariant (place_in c.loop-i.i l.j c.args.k c.loop-i-test.true c.loop-j-test.true) q
    (cc (e, c.pair_score-score.ensures, digits_div c.loop-i.i c.loop-j-test.true, digits_mod c.loop-i.i c.loop-j-test.true))

pub loop-i-preserved : goal.loop-i-preserved
loop-i-preserved c =
    let e : c.loop-j.j ≡ c.args.k = omega arith in
    let z : c.loop-i.i * c.args.k + c.loop-j.j ≡ (c.loop-i.i + 1) * c.args.k = omega arith in
    rw z at c.loop-j.invariant

pub returns : goal.returns
returns c =
    let e : c.loop-i.i ≡ c.args.k = omega arith in
    writing_end _ _ _ _ _ _ c.loop-i.invariant (rw e (omega arith))
    ∙ ap (λ (base : ℤ). sets c.args.post.now (9 * c.args.v) (scores_of c.args.pri.now c.args.self.now.of base c.args.v c.args.k)) (to_z-of_z c.ranges.base)
