-- Neither difference wraps, nor their sum. Assumes nothing.
use Rattle.std.proofs.Common.{◌^◌, w64, arith}
use Rattle.steps.specs.Logs.{mix_of}
use Rattle.steps.proofs.Signed.{sfits, read_small}
use Rattle.steps.proofs.AddExp.{mix_small}
use Rattle.likelihoods.proofs.TotalParts.{mixed_read}
use Rattle.likelihoods.proofs.totals.mixed.Goals as goal

pub overflow_add-result : goal.overflow_add-result
overflow_add-result c =
    let r = c.args.r in
    let e = mixed_read r.first.0 r.second.0 _ c.requires.0 c.requires.1 c.ln_one_plus_exp-rise.type_inv c.ln_one_plus_exp-rise.ensures in
    rw e (sfits w64 (mix_of r.first.0 r.second.0) (omega (arith, mix_small r.first.0 r.second.0 (2 ^ 34) c.requires.0 c.requires.1)))

pub returns : goal.returns
returns c =
    let r = c.args.r in
    let e = mixed_read r.first.0 r.second.0 _ c.requires.0 c.requires.1 c.ln_one_plus_exp-rise.type_inv c.ln_one_plus_exp-rise.ensures in
    rw e (read_small w64 (mix_of r.first.0 r.second.0) (omega (arith, mix_small r.first.0 r.second.0 (2 ^ 34) c.requires.0 c.requires.1)))
