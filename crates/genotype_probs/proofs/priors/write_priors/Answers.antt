-- One more variant's places are written.
use Rattle.std.proofs.Common.{◌≡◌, ℕ, ◌+◌, ◌-◌, ◌*◌, ◌<◌, ◌≤◌, length, refl, ap, ◌∙◌, arith, add-one}
use Rattle.variants_and_fragments.specs.declared.Sizes.{Sizes}
use Rattle.variants_and_fragments.specs.Layout.{sizes_of}
use Rattle.variants_and_fragments.specs.Alleles.{alleles_start}
use Rattle.variants_and_fragments.specs.Decode.{variant_from, decode}
use Rattle.variants_and_fragments.specs.Written.{written}
use Rattle.variants_and_fragments.specs.Inner.Written.{written_from}
use Rattle.variants_and_fragments.proofs.Written.{from_after}
use Rattle.genotype_probs.specs.Inner.PriorTable.{table_priors, table_prior_at}
use Rattle.genotype_probs.proofs.AlleleLaws.{start_top, element_is}
use Rattle.genotype_probs.proofs.NinePlaces.{lent_written}
use Rattle.genotype_probs.proofs.priors.write_priors.Goals as goal

pub loop-v-init : goal.loop-v-init
unfolding written alleles_start
loop-v-init c = (refl, refl)

pub overflow_add-at : goal.overflow_add-at
overflow_add-at c =
    let y = c.args.alleles.now in omega (arith, c.loop-v.invariant.0, start_top y.known.variants_in c.loop-v.v y.known.laid.sized.n_top (omega arith), c.alleles_length-at.ensures.1)

pub loop-v-preserved : goal.loop-v-preserved
unfolding alleles_start
loop-v-preserved c =
    let y = c.args.alleles.now in
    let w = y.known.laid.words.now in
    let b = y.bases.now in
    let t = c.args.table.now.bases in
    let v = c.loop-v.v in
    let h : v < (sizes_of w).n = omega (arith, ap (λ (z : Sizes). z.n) c.requires.0, c.loop-v-test.true) in
    let n : 9 * v + 9 - 9 * v ≡ 9 = omega arith in
    let m : 9 * v + 9 ≡ 9 * (v + 1) = omega arith in
    let l : 9 * v + 9 ≤ length c.loop-v.priors = omega (arith, c.loop-v.auto.priors, c.requires.1, c.loop-v-test.true) in (
      rw (add-one, ← c.loop-v.invariant.0) (ap (λ n. c.loop-v.at + n) c.alleles_length-at.ensures.0),
      rw n (lent_written (table_priors t (variant_from w b v)) (9 * v) 9 c.loop-v.priors c.get_all_priors.new.priors l c.get_all_priors.ensures)
          ∙ ap (written_from (table_priors t (variant_from w b v)) (9 * v) 9) c.loop-v.invariant.1
          ∙ from_after (table_prior_at t (decode w b)) (table_priors t (variant_from w b v)) (9 * v) 9 c.args.priors.now (λ p k. element_is t w b v p h k)
          ∙ ap (λ (k : ℕ). written (table_prior_at t (decode w b)) k c.args.priors.now) m,
    )
