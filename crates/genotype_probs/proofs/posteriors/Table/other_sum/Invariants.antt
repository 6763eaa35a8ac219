-- The sum is that of the other pairs before q.
use Rattle.steps.specs.Inner.Logs.{log_of}
use Rattle.genotype_probs.proofs.OtherSums.{Adding}
use Rattle.genotype_probs.proofs.posteriors.Table.other_sum.Given as goal

abbrev pub invariant-loop-q : goal.invariant-loop-q
invariant-loop-q l = Adding l.self.post.now l.self.k l.p (log_of l.sum.0) l.q
