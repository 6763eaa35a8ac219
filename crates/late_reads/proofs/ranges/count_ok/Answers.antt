use Rattle.std.proofs.Common.{rules}
use Rattle.variants_and_fragments.specs.Words.{within}
use Rattle.late_reads.proofs.ranges.count_ok.Goals as goal

pub returns : goal.returns
unfolding within
returns c = search rules
