-- One more genotype is written; past them zeros are.
use Rattle.std.proofs.Common.{◌≡◌, ◌+◌, ◌-◌, ◌*◌, ◌<◌, length, take, drop, pos, refl, ◌∙◌, arith, rules, length-take, length-drop, w64, to_z, of_z}
use lib.Seq.{get_or-set_same, get_or-set_other}
use native.Mathlib.Decide.{ℕ_discrete}
use Rattle.variants_and_fragments.specs.Decode.{variant_from}
use Rattle.genotype_probs.specs.Inner.PriorTable.{table_priors}
use Rattle.genotype_probs.proofs.AlleleLaws.{nine, prior_is, place_is, past_places}
use Rattle.genotype_probs.proofs.TableSums.{place_in}
use Rattle.genotype_probs.proofs.NinePlaces.{then_zeros}
use Rattle.genotype_probs.proofs.priors.get_all_priors.Goals as goal

pub loop-j-preserved : goal.loop-j-preserved
loop-j-preserved c =
    let x = c.args.variant.now in
    let k = c.count-k.result in
    let i = c.loop-i.i in
    let j = c.loop-j.j in
    let l = place_in i j k c.loop-i-test.true c.loop-j-test.true in
    let long : i * k + j < length c.loop-j.priors = omega (arith, c.loop-j.auto.priors, c.requires, nine k c.count-k.ensures.1) in
    let r : to_z w64 (of_z w64 c.get_prior.result.0) ≡ c.get_prior.result.0 = search rules in
    let table = c.args.table.now.bases in
    let w = x.alleles.now.known.laid.words.now in
    let b = x.alleles.now.bases.now in
    let low = (x.alleles.now.known.variants_in.each x.v x.inside).k_low in
    let n = c.count-k.ensures.0 in
    let v = r
    ∙ c.get_prior.ensures
    ∙ prior_is table w b x.v i j c.allele-reference.result.bases.now c.allele-first.result.bases.now c.allele.result.bases.now (omega (arith, low)) (omega (arith, n, c.loop-i-test.true)) (omega (arith, n, c.loop-j-test.true)) c.allele-reference.ensures c.allele-first.ensures c.allele.ensures
    ∙ place_is table w b x.v k n i j c.loop-j-test.true l in
    λ p h. elim (ℕ_discrete p (i * k + j)) [
      | yes q ↦ rw q (get_or-set_same c.loop-j.priors (i * k + j) _ (pos 0) long ∙ v)
      | no q ↦ get_or-set_other c.loop-j.priors (i * k + j) p (to_z w64 (of_z w64 c.get_prior.result.0)) (pos 0) (λ e. q (omega arith)) ∙ c.loop-j.invariant p (omega arith)
    ]

pub returns : goal.returns
returns c =
    let x = c.args.variant.now in
    let k = c.count-k.result in
    let m = k * k in
    let top = nine k c.count-k.ensures.1 in
    let long : length c.loop-i.priors ≡ 9 = c.loop-i.auto.priors ∙ c.requires in
    let rest : length (take (9 - m) (drop m c.loop-i.priors)) ≡ 9 - m = simp (length-take, length-drop) (omega arith) in
    let e : c.loop-i.i ≡ k = omega arith in
    then_zeros (table_priors c.args.table.now.bases (variant_from x.alleles.now.known.laid.words.now x.alleles.now.bases.now x.v)) m c.loop-i.priors c.fill.new.self top long (c.fill.ensures.len ∙ rest)
    (λ p h. c.loop-i.invariant p (rw e h))
    (λ p h. c.fill.ensures.clones p (pos 0) (omega arith) refl)
    (λ p h. past_places c.args.table.now.bases x.alleles.now.known.laid.words.now x.alleles.now.bases.now x.v k c.count-k.ensures.0 p h)
