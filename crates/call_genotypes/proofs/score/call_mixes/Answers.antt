-- The distance is that of the likelihoods that stand, and its allele's turn more. Assumes nothing.
use Rattle.std.proofs.Common.{◌∙◌, w64}
use Rattle.steps.proofs.Signed.{read_back}
use Rattle.call_genotypes.specs.Inner.Scores.{row_mixes}
use Rattle.call_genotypes.proofs.score.call_mixes.Goals as goal

pub returns : goal.returns
unfolding row_mixes
returns c w =
    let g = read_back w64 _ c.gap-g.type_inv ∙ c.gap-g.ensures.0 in
    let t = read_back w64 _ c.turned.type_inv ∙ c.turned.ensures.0 in
    let d = read_back w64 _ c.distance-d.type_inv ∙ c.distance-d.ensures in
    c.mixes_of.ensures w ∙ rw (d, c.at-read.ensures.0, c.at-read.ensures.1, t, g)
