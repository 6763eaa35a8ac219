-- The sum is that of the first i rows' sums.
use Rattle.std.proofs.Common.{◌+◌, ◌^◌}
use Rattle.genotype_probs.specs.Posteriors.{row_sum}
use Rattle.genotype_probs.proofs.TableSums.{Summing}
use Rattle.genotype_probs.proofs.posteriors.Table.table_sum.Given as goal

abbrev pub invariant-loop-i : goal.invariant-loop-i
invariant-loop-i l = Summing (2 ^ 40 + 12288) (row_sum l.self.post.now l.self.k) l.self.k l.sum.0 l.i
