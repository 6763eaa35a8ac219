-- Each arm is a kind of change; two rates are small, so their sum does not wrap.
use Rattle.std.proofs.Common.{◌≡◌, eqb, ℤ, ◌+ℤ◌, ap, ◌∙◌, arith, rules, w64}
use Rattle.steps.proofs.Signed.{plus_fits, plus_read}
use Rattle.genotype_probs.specs.Letters.{base_number, transition_of}
use Rattle.genotype_probs.proofs.RateLaws.{rates_in}
use Rattle.genotype_probs.proofs.PriorBounds.{change_down}
use Rattle.genotype_probs.proofs.Entries.{gap_value, same_value, other_value}
use Rattle.genotype_probs.proofs.table.letter_value.Goals as goal

pub returns-in-D : goal.returns-in-D
returns-in-D c = c.indel_value.ensures ∙ gap_value c.args.rates.rates c.args.same.0 c.args.snv.0 c.args.indel.0 c.args.base c.args.letter c.in-D.is

pub returns-then-eq : goal.returns-then-eq
returns-then-eq c =
    let e : c.in-Base.other ≡ c.args.base = search rules in
    rw c.in-Base.is (same_value c.args.rates.rates c.args.same.0 c.args.snv.0 c.args.indel.0 c.args.base c.in-Base.other e)

pub overflow_add-result : goal.overflow_add-result
overflow_add-result c =
    let r = c.args.rates in
    let d = change_down r.rates (rates_in r.rates r.accepted) (eqb (base_number c.in-Base.other) (base_number (transition_of c.args.base))) in
    plus_fits w64 c.args.snv.0 c.change.result.0 (rw c.change.ensures (omega (arith, d.most, c.requires.0)))

pub returns-else-eq : goal.returns-else-eq
returns-else-eq c =
    let r = c.args.rates in
    let d = change_down r.rates (rates_in r.rates r.accepted) (eqb (base_number c.in-Base.other) (base_number (transition_of c.args.base))) in
    let e : c.in-Base.other ≡ c.args.base → ⊥ = search rules in
    plus_read w64 c.args.snv.0 c.change.result.0 (rw c.change.ensures (omega (arith, d.most, c.requires.0)))
    ∙ ap (λ (z : ℤ). c.args.snv.0 +ℤ z) c.change.ensures
    ∙ rw c.in-Base.is (other_value r.rates c.args.same.0 c.args.snv.0 c.args.indel.0 c.args.base c.in-Base.other e)
