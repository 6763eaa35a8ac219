-- The calls are added up, their scores to the priors, and the sum of row sums taken off.
use Rattle.std.proofs.Common.{◌≤◌, ◌∙◌, rules}
use Rattle.no_haplotypes.proofs.PosteriorLaws.{scored_table, posteriors_small, posteriors_are}
use Rattle.no_haplotypes.proofs.TallyLaws.{sums_all}
use Rattle.no_haplotypes.proofs.tally.write_posteriors.Goals as goal

pub score-requires-clause-sums_in : goal.score-requires-clause-sums_in
score-requires-clause-sums_in c = sums_all c.requires.rows_in c.of-tally.ensures

pub normalize-requires : goal.normalize-requires
normalize-requires c =
    let low : 1 ≤ c.allele_count-k.result = search rules in
    let top : c.allele_count-k.result ≤ 3 = search rules in
    scored_table c.score.new.post low top c.requires.priors_in (sums_all c.requires.rows_in c.of-tally.ensures) (c.score.auto.post ∙ c.requires.priors_in.size) c.score.ensures

pub returns : goal.returns
returns c =
    let low : 1 ≤ c.allele_count-k.result = search rules in
    let top : c.allele_count-k.result ≤ 3 = search rules in
    let priors = c.requires.priors_in in
    let sums = sums_all c.requires.rows_in c.of-tally.ensures in
    let size = c.score.auto.post ∙ priors.size in
    record {
      here = cc (posteriors_are c.score.new.post low top priors sums size c.score.ensures c.normalize.ensures c.of-tally.ensures);
      small = posteriors_small c.score.new.post low top priors sums size c.score.ensures c.normalize.ensures;
      tallied = c.of-tally.ensures;
      sums_in = sums;
    }
