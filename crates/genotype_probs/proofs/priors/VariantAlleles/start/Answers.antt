-- One more allele's length on the way.
use Rattle.std.proofs.Common.{arith, add-one}
use Rattle.variants_and_fragments.specs.Decode.{allele_start}
use Rattle.genotype_probs.proofs.AlleleLaws.{length_high, start_top}
use Rattle.genotype_probs.proofs.priors.VariantAlleles.start.Goals as goal

pub loop-i-init : goal.loop-i-init
unfolding allele_start
loop-i-init c =
    let x = c.args.self.now in
    let h = x.inside in
    (x.starts, omega (arith, x.starts, start_top x.alleles.now.known.variants_in x.v x.alleles.now.known.laid.sized.n_top (omega arith)))

pub overflow_add-start : goal.overflow_add-start
overflow_add-start c =
    let x = c.args.self.now in
    omega (arith, c.loop-i.invariant.1, c.allele_length-start.ensures, length_high x.alleles.now.known.variants_in x.v c.loop-i.i x.inside (omega arith))

pub loop-i-preserved : goal.loop-i-preserved
unfolding allele_start
loop-i-preserved c =
    let x = c.args.self.now in
    rw add-one
    (omega (arith, c.loop-i.invariant.0, c.allele_length-start.ensures), omega (arith, c.loop-i.invariant.1, c.allele_length-start.ensures, length_high x.alleles.now.known.variants_in x.v c.loop-i.i x.inside (omega arith)))
