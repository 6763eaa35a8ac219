-- Two letters' values are small, so their sum does not wrap.
use Rattle.std.proofs.Common.{◌≡◌, ◌≤◌, ℤ, nat_abs, sym, ap, ◌∙◌, arith, rules, w64}
use Rattle.steps.proofs.Signed.{plus_fits, plus_read}
use Rattle.genotype_probs.specs.declared.table.Values.{Values}
use Rattle.genotype_probs.specs.Letters.{Letter, Base, change}
use Rattle.genotype_probs.specs.Rates.{het_snv_rate, het_indel_rate}
use Rattle.genotype_probs.specs.Priors.{haploid}
use Rattle.genotype_probs.specs.Inner.PriorTable.{letter_value}
use Rattle.genotype_probs.proofs.RateLaws.{rate_size, rates_in}
use Rattle.genotype_probs.proofs.PriorBounds.{haploid_down}
use Rattle.genotype_probs.proofs.Entries.{haploid_is, entry_same, entry_two}
use Rattle.genotype_probs.proofs.table.Values.entry.Goals as goal

pub letter_value-requires : goal.letter_value-requires
letter_value-requires c =
    let r = c.args.self.now.rates in
    let g = rates_in r.rates r.accepted in (rate_size _ g.hom_snv, rate_size _ g.hom_indel)

pub returns-then-eq : goal.returns-then-eq
returns-then-eq c =
    let v = c.args.self.now in
    let e : c.args.first ≡ c.args.second = search rules in
    c.letter_value.ensures ∙ cc (v.diploid_is, entry_same v.rates.rates c.args.base c.args.first c.args.second e)

pub letter_value-a-requires : goal.letter_value-a-requires
letter_value-a-requires c =
    let r = c.args.self.now.rates in
    let g = rates_in r.rates r.accepted in (rate_size _ g.het_snv, rate_size _ g.het_indel)

pub letter_value-b-requires : goal.letter_value-b-requires
letter_value-b-requires c =
    let r = c.args.self.now.rates in
    let g = rates_in r.rates r.accepted in (rate_size _ g.het_snv, rate_size _ g.het_indel)

-- a letter's haploid value, and its size
haploid_value : (v : Values) (ref : Base) (x : Letter) {z : ℤ} → z ≡ letter_value v.rates.rates v.haploid.0 (het_snv_rate v.rates.rates) (het_indel_rate v.rates.rates) (change ref x) → (z ≡ haploid v.rates.rates (change ref x)) × (nat_abs z ≤ 524288)
haploid_value v ref x e =
    let r = v.rates in
    let f = e ∙ ap (λ (h : ℤ). letter_value r.rates h (het_snv_rate r.rates) (het_indel_rate r.rates) (change ref x)) v.haploid_is ∙ sym (haploid_is r.rates (change ref x)) in
    (f, omega (arith, ap nat_abs f, (haploid_down r.rates (rates_in r.rates r.accepted) (change ref x)).most))

pub overflow_add-result : goal.overflow_add-result
overflow_add-result c =
    let v = c.args.self.now in
    let a = haploid_value v c.args.base c.args.first c.letter_value-a.ensures in
    let b = haploid_value v c.args.base c.args.second c.letter_value-b.ensures in
    plus_fits w64 c.letter_value-a.result.0 c.letter_value-b.result.0 (omega (arith, a.1, b.1))

pub returns : goal.returns
returns c =
    let v = c.args.self.now in
    let a = haploid_value v c.args.base c.args.first c.letter_value-a.ensures in
    let b = haploid_value v c.args.base c.args.second c.letter_value-b.ensures in
    let n : c.args.first ≡ c.args.second → ⊥ = search rules in
    plus_read w64 c.letter_value-a.result.0 c.letter_value-b.result.0 (omega (arith, a.1, b.1))
    ∙ cc (a.0, b.0, entry_two v.rates.rates c.args.base c.args.first c.args.second n)
