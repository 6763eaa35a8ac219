-- `first` and `second` are the sums over the rows so far. Assumes nothing.
use Rattle.std.proofs.Common.{◌*◌}
use Rattle.likelihoods.proofs.RunningSums.{Running}
use Rattle.likelihoods.proofs.CallShares.{row_share}
use Rattle.likelihoods.proofs.likelihoods.ReadCalls.likelihoods.Given as goal

abbrev pub invariant-loop-word : goal.invariant-loop-word
invariant-loop-word l = record {
  first : Running (row_share l.self.rows.now l.self.on.hap.now l.self.on.mask.now 0) l.word-index l.first.0 (262144 * l.word-index);
  second : Running (row_share l.self.rows.now l.self.on.hap.now l.self.on.mask.now 1) l.word-index l.second.0 (262144 * l.word-index);
}
