-- Both of its answers, by the test of the allele. Assumes nothing.
use Rattle.std.proofs.Common.{eq-eqb, ne_eqb}
use Rattle.sweeps.specs.Sweeps.{call_term}
use Rattle.likelihoods.proofs.likelihoods.call_term.Goals as goal

pub returns-then-row-own : goal.returns-then-row-own
unfolding call_term
returns-then-row-own c = rw (eq-eqb _ _ c.if-row-own.true)

pub returns-else-row-own : goal.returns-else-row-own
unfolding call_term
returns-else-row-own c = rw (ne_eqb _ _ c.if-row-own.false)
