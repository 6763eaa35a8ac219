-- No transition.
use Rattle.std.proofs.Common.{◌≡◌, sym, ◌∙◌, rules, ne_eqb}
use Rattle.genotype_probs.specs.Letters.{base_number, transition_of}
use Rattle.genotype_probs.proofs.Numbers.{base_one}
use Rattle.genotype_probs.proofs.table.change.Goals as goal

pub returns : goal.returns
returns c =
    let e : c.args.other ≡ c.transition.result → ⊥ = search rules in
    rw (ne_eqb (base_number c.args.other) (base_number (transition_of c.args.base)) (λ q. e (base_one _ _ q ∙ sym c.transition.ensures)))
