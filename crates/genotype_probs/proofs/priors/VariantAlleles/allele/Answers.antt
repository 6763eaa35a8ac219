-- The allele ends within the bases, and has one.
use Rattle.std.proofs.Common.{ℕ, ◌+◌, ◌<◌, ◌≤◌, length, ap, arith}
use Rattle.variants_and_fragments.specs.Layout.{allele_count_at, length_at}
use Rattle.variants_and_fragments.specs.Decode.{allele_start}
use Rattle.genotype_probs.specs.declared.priors.VariantAlleles.{VariantAlleles}
use Rattle.genotype_probs.proofs.AlleleLaws.{start_top, allele_part, allele_end, allele_there}
use Rattle.genotype_probs.proofs.priors.VariantAlleles.allele.Goals as goal

-- where an allele ends
ends : (x : VariantAlleles) (j : ℕ) → j < allele_count_at x.alleles.now.known.laid.words.now x.v → allele_start x.alleles.now.known.laid.words.now x.v j + length_at x.alleles.now.known.laid.words.now x.v j ≤ length x.alleles.now.bases.now
ends x j h =
    let y = x.alleles.now in
    allele_end y.known.variants_in y.bases.now y.long x.v j x.inside (omega (arith, (y.known.variants_in.each x.v x.inside).k_high))

pub overflow_add-end : goal.overflow_add-end
overflow_add-end c =
    let x = c.args.self.now in
    let y = x.alleles.now in
    omega (arith, ends x c.args.j c.requires, y.long, start_top y.known.variants_in y.known.laid.sizes.n y.known.laid.sized.n_top (omega arith), c.start-start.ensures, c.allele_length.ensures)

pub slice_bounds-result-end : goal.slice_bounds-result-end
slice_bounds-result-end c = omega (arith, ends c.args.self.now c.args.j c.requires, c.start-start.ensures, c.allele_length.ensures)

-- the bytes that are taken are the allele's
pub invariant_of-result : goal.invariant_of-result
invariant_of-result c =
    let x = c.args.self.now in
    let y = x.alleles.now in
    let e = allele_part y.known.laid.words.now y.bases.now x.v c.args.j c.start-start.result _ c.start-start.ensures (ap (λ n. c.start-start.result + n) c.allele_length.ensures) in
    record { present = rw e (allele_there y.known.variants_in y.bases.now y.long x.v c.args.j x.inside c.requires) }

pub returns : goal.returns
returns c =
    let x = c.args.self.now in
    let y = x.alleles.now in
    allele_part y.known.laid.words.now y.bases.now x.v c.args.j c.start-start.result _ c.start-start.ensures (ap (λ n. c.start-start.result + n) c.allele_length.ensures)
