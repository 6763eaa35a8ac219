-- `sum` is that of the first f reads, at most 262144 steps from 0 for each of their rows and 8192 for each of them. Assumes nothing.
use Rattle.std.proofs.Common.{◌+◌, ◌*◌}
use Rattle.pileup.specs.Inner.Packed.{group_start}
use Rattle.likelihoods.specs.Inner.Totals.{fragment_share}
use Rattle.likelihoods.proofs.RunningSums.{Running}
use Rattle.likelihoods.proofs.totals.fragments_total.Given as goal

abbrev pub invariant-loop-f : goal.invariant-loop-f
invariant-loop-f l = Running (fragment_share l.reads.rows.words.now l.reads.rows.ends.now l.reads.on.hap.now l.reads.on.mask.now) l.f l.sum.0 (262144 * group_start l.reads.rows.ends.now l.f + 8192 * l.f)
