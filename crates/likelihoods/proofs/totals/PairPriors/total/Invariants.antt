-- `sum` is that of the first v variants. Assumes nothing.
use Rattle.likelihoods.specs.Inner.Totals.{prior_share}
use Rattle.std.proofs.Common.{◌*◌, ◌^◌}
use Rattle.likelihoods.proofs.RunningSums.{Running}
use Rattle.likelihoods.proofs.totals.PairPriors.total.Given as goal

abbrev pub invariant-loop-v : goal.invariant-loop-v
invariant-loop-v l = Running (prior_share l.self.ks.now l.self.pri.now l.self.on.hap.now l.self.on.mask.now) l.v l.sum.0 (2 ^ 21 * l.v)
