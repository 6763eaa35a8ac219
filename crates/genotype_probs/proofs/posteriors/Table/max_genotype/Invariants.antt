-- `best` is the first maximum of the first p values, and `top` its value.
use Rattle.std.proofs.Common.{◌≡◌}
use Rattle.genotype_probs.specs.Posteriors.{first_maximum, post_at}
use Rattle.genotype_probs.proofs.posteriors.Table.max_genotype.Given as goal

abbrev pub invariant-loop-p : goal.invariant-loop-p
invariant-loop-p l =
    (l.best ≡ first_maximum (post_at l.phased l.self.post.now l.self.k) l.p) × (l.top.0 ≡ post_at l.phased l.self.post.now l.self.k l.best)
