-- Below 0 the value is no mark, so its number is fixed.
use Rattle.std.proofs.Common.{◌≡◌, true, ℤ, pos, arith}
use lib.Signed.{le_z, lt_z}
use Rattle.steps.proofs.Marks.{size_small}
use Rattle.steps.proofs.Signed.{zlin}
use Rattle.genotype_probs.proofs.RateLaws.{one_minus_is}
use Rattle.genotype_probs.proofs.table.one_minus_exp.Goals as goal

not_above : (p : ℤ) → lt_z p (pos 0) ≡ true → le_z p (pos 0) ≡ true
not_above p t = omega zlin

pub ln_one_minus_exp-requires : goal.ln_one_minus_exp-requires
ln_one_minus_exp-requires c =
    let h = c.requires.0 in (omega (arith, size_small c.args.p.0 (omega arith)), not_above c.args.p.0 c.requires.1)

pub returns : goal.returns
returns c = let h = c.requires.0 in one_minus_is c.args.p.0 c.ln_one_minus_exp.result.0 (omega arith) c.requires.1 c.ln_one_minus_exp.ensures
