-- `sum` is that of the first f reads. Assumes nothing.
use Rattle.std.proofs.Common.{◌+◌, ◌*◌, ◌^◌}
use Rattle.likelihoods.specs.Inner.Totals.{standing_share}
use Rattle.likelihoods.proofs.RunningSums.{Running}
use Rattle.likelihoods.proofs.totals.mixes_total.Given as goal

abbrev pub invariant-loop-f : goal.invariant-loop-f
invariant-loop-f l = Running (standing_share l.standing.lik.now) l.f l.sum.0 ((2 ^ 32 + 8192) * l.f)
