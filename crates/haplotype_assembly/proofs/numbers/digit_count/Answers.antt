-- 0 has one digit, as 1 has.
use Rattle.std.proofs.Common.{◌≡◌, ◌∙◌, sym, ap, arith, length}
use native.Mathlib.Decide.{dec_le}
use Rattle.haplotype_assembly.specs.Lines.{decimal}
use Rattle.haplotype_assembly.proofs.Decimals.{small_length, digits_are}
use Rattle.haplotype_assembly.proofs.numbers.digit_count.Goals as goal

pub returns : goal.returns
returns c =
    let is = digits_are c.ilog10.result c.max.result c.ilog10.ensures.power_le c.ilog10.ensures.next_power_gt in
    elim (dec_le 1 c.args.n) [
      | yes h ↦ let e : c.max.result ≡ c.args.n = omega (arith, c.max.ensures) in sym is ∙ ap (λ x. length (decimal x)) e
      | no h ↦ let e : c.max.result ≡ 1 = omega (arith, c.max.ensures) in sym is ∙ small_length c.max.result (omega arith) ∙ sym (small_length c.args.n (omega arith))
    ]
