-- One for each row that ends at b or before. Assumes nothing.
use Rattle.call_genotypes.proofs.Written.{row_tests}
use Rattle.call_genotypes.proofs.visit.row_of.Goals as goal

pub returns : goal.returns
returns c = rw (c.from.ensures, c.from-2.ensures) (row_tests c.args.b c.args.k c.requires.1)
