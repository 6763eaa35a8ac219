-- The rates are small, so their sum is finite.
use Rattle.std.proofs.Common.{◌≡◌, true, ℕ, ◌<◌, ◌≤◌, List, [], ◌∷◌, get_or, ℤ, pos, nat_abs, ap, arith, w64, to_z, of_z}
use Rattle.steps.proofs.Marks.{size_small}
use Rattle.genotype_probs.specs.declared.Rates.{Rates}
use Rattle.genotype_probs.specs.Rates.{hom_snv_rate, het_snv_rate, hom_indel_rate, het_indel_rate, rate_ok, rate_sum}
use Rattle.genotype_probs.specs.Posteriors.{sum_of}
use Rattle.genotype_probs.proofs.RateLaws.{rate_size, rate_read, four_small}
use Rattle.genotype_probs.proofs.TableSums.{sum_is}
use Rattle.genotype_probs.proofs.Rates.rate_sum.Goals as goal

-- what is summed, as the machine reads it
abbrev summed : Rates → List ℤ
summed r =
    to_z w64 (of_z w64 (hom_snv_rate r)) ∷ to_z w64 (of_z w64 (het_snv_rate r)) ∷ to_z w64 (of_z w64 (hom_indel_rate r)) ∷ to_z w64 (of_z w64 (het_indel_rate r)) ∷ []

-- a rate as the machine reads it is small
small : (z : ℤ) → rate_ok z ≡ true → nat_abs (to_z w64 (of_z w64 z)) ≤ 262144
small z h = omega (arith, ap nat_abs (rate_read z h), rate_size z h)

module _ (r : Rates) (good : (rate_ok (hom_snv_rate r) ≡ true) × (rate_ok (het_snv_rate r) ≡ true) × (rate_ok (hom_indel_rate r) ≡ true) × (rate_ok (het_indel_rate r) ≡ true)) where
  each : (k : ℕ) → k < 4 → nat_abs (get_or (summed r) k (pos 0)) ≤ 262144
  each = four_small 262144 _ _ _ _ (small _ good.0) (small _ good.1) (small _ good.2) (small _ good.3)

pub ln_sum_exp-requires : goal.ln_sum_exp-requires
ln_sum_exp-requires c =
    (omega arith, λ k h. let e = each c.args.self c.requires k h in omega (arith, size_small (get_or (summed c.args.self) k (pos 0)) (omega arith)))

pub returns : goal.returns
unfolding rate_sum sum_of
returns c =
    let r = c.requires in
    let s = sum_is 262144 (summed c.args.self) c.ln_sum_exp.result.0 (omega arith) (omega arith) (each c.args.self r) c.ln_sum_exp.ensures in
    rw (rate_read _ r.0, rate_read _ r.1, rate_read _ r.2, rate_read _ r.3) at s.0
