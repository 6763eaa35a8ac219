-- The first base that differs, or the last.
use Rattle.std.proofs.Common.{ℕ, ◌-◌, ◌<◌, length, arith, eq-eqb, ne_eqb}
use Rattle.steps.proofs.Signed.{cases}
use Rattle.variants_and_fragments.proofs.First.{first_at, first_end}
use Rattle.genotype_probs.specs.Priors.{stop_at}
use Rattle.genotype_probs.proofs.letters.stop_at.Goals as goal

pub returns-then-reference-i : goal.returns-then-reference-i
unfolding stop_at
returns-then-reference-i c =
    let i = c.loop-i.i in
    let a = length c.args.allele.bases.now in
    let good = λ (j : ℕ) (l : j < i). eq-eqb _ _ (c.loop-i.invariant.1 j l) in
    (omega arith, cases i (a - 1) (λ h. first_at _ _ _ good h (ne_eqb _ _ c.if-reference-i.true)) (λ h. first_end _ _ _ good (omega arith)))

pub returns-then-i-allele : goal.returns-then-i-allele
unfolding stop_at
returns-then-i-allele c = (omega arith, first_end _ _ _ (λ j l. eq-eqb _ _ (c.loop-i.invariant.1 j l)) (omega arith))
