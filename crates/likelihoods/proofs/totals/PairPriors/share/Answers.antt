-- The pair's prior is one of the variant's nine. Assumes nothing.
use Rattle.std.proofs.Common.{arith}
use Rattle.likelihoods.proofs.TotalParts.{share_read, share_left_out}
use Rattle.likelihoods.proofs.totals.PairPriors.share.Goals as goal

pub returns-then-counts : goal.returns-then-counts
returns-then-counts c = rw c.at-pair.ensures (share_read c.args.self.now.priors_in _ c.requires (omega arith))

pub returns : goal.returns
returns c = share_left_out c.args.self.now.priors_in _ c.requires (λ e. omega arith)
