-- −z is a whole number below 2^53, so the cast is exact, and the product is rounded once.
use Rattle.std.proofs.Common.{◌≡◌, true, false, ℤ, neg_ℤ, sym, refl, ap, ◌∙◌, arith, w64, to_z, of_z, rules}
use lib.Ieee.{binary64, mul, of_int, of_bits, div}
use Rattle.steps.specs.Logs.{mark, steps}
use Rattle.steps.specs.Inner.Logs.{is_mark}
use Rattle.steps.specs.Phred.{phred_of, scale, max_vcf_qual}
use Rattle.steps.proofs.Casts.{neg_fits, neg_float, neg_read}
use Rattle.steps.proofs.Marks.{of_mark, of_steps, size_of}
use Rattle.steps.proofs.phred.phred.Goals as goal

of_the_mark : max_vcf_qual ≡ phred_of mark
unfolding phred_of
of_the_mark = refl

of_finite : (z : ℤ) → mul binary64 (of_int binary64 (neg_ℤ z)) scale ≡ phred_of (steps z)
unfolding phred_of
of_finite z = refl

pub returns-then-is_mark : goal.returns-then-is_mark
unfolding max_vcf_qual
returns-then-is_mark c =
    let e : to_z w64 (of_z w64 c.args.p.0) ≡ c.args.p.0 = search rules in
    let m : is_mark c.args.p.0 ≡ true = cc in of_the_mark ∙ sym (ap phred_of (of_mark c.args.p.0 m))

pub overflow_sub-result : goal.overflow_sub-result
overflow_sub-result c =
    let e : to_z w64 (of_z w64 c.args.p.0) ≡ c.args.p.0 = search rules in
    let f : is_mark c.args.p.0 ≡ false = cc in neg_fits c.args.p.0 (omega (arith, size_of c.args.p.0 f))

pub int_to_float-result : goal.int_to_float-result
int_to_float-result c =
    let e : to_z w64 (of_z w64 c.args.p.0) ≡ c.args.p.0 = search rules in
    let f : is_mark c.args.p.0 ≡ false = cc in neg_float c.args.p.0 (omega (arith, size_of c.args.p.0 f))

pub returns : goal.returns
unfolding scale mul div of_bits
returns c =
    let z = c.args.p.0 in
    let e : to_z w64 (of_z w64 z) ≡ z = search rules in
    let f : is_mark z ≡ false = cc in
    ap (λ (y : ℤ). mul binary64 (of_int binary64 y) scale) (neg_read z (omega (arith, size_of z f)))
    ∙ of_finite z
    ∙ sym (ap phred_of (of_steps z f))
