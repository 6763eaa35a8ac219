-- Neither the sum nor the difference of d and g wraps. Assumes nothing.
use Rattle.std.proofs.Common.{w64, arith, ◌∙◌}
use Rattle.steps.proofs.Signed.{plus_read, minus_read, read_back, read_small}
use Rattle.call_genotypes.proofs.Sizes.{mix_values}
use Rattle.call_genotypes.proofs.score.mixes_of.Goals as goal

pub returns : goal.returns
returns c =
    let d = c.args.d in
    let g = c.args.g in
    let here = read_small w64 d (omega (arith, c.requires.0)) in
    let above = plus_read w64 d g (omega (arith, c.requires.0, c.requires.1)) in
    let below = minus_read w64 d g (omega (arith, c.requires.0, c.requires.1)) in
    mix_values _ d g
    (read_back w64 _ c.ln_one_plus_exp-first.type_inv ∙ rw above at c.ln_one_plus_exp-first.ensures)
    (read_back w64 _ c.ln_one_plus_exp-second.type_inv ∙ rw below at c.ln_one_plus_exp-second.ensures)
    (read_small w64 g (omega (arith, c.requires.1)))
    (read_back w64 _ c.ln_one_plus_exp-neither.type_inv ∙ rw here at c.ln_one_plus_exp-neither.ensures)
