-- The piles are those of the walk.
use Rattle.std.proofs.Common.{arith}
use Rattle.no_haplotypes.proofs.Calling.{piled}
use Rattle.no_haplotypes.proofs.pile_up.Goals as goal

pub returns : goal.returns
returns c = piled c.args.case.now.case_in c.pile_calls.ensures (omega (arith, c.requires.0, c.pile_calls.auto.ambiguous))
