-- The likelihoods of the first f reads are written. Assumes nothing.
use Rattle.std.proofs.Common.{◌≡◌, ◌*◌}
use Rattle.variants_and_fragments.specs.Written.{written}
use Rattle.likelihoods.specs.Inner.Likelihoods.{likelihood_at}
use Rattle.likelihoods.proofs.likelihoods.ReadRows.write_likelihoods.Given as goal

abbrev pub invariant-loop-f : goal.invariant-loop-f
invariant-loop-f l = l.lik ≡ written (likelihood_at l.self.rows.words.now l.self.rows.ends.now l.self.on.hap.now l.self.on.mask.now) (2 * l.f) l.fn.lik
