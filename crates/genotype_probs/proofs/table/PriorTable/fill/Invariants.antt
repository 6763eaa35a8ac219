-- The rows of the bases before the index are written.
use Rattle.genotype_probs.specs.Letters.{base_number}
use Rattle.genotype_probs.specs.Inner.PriorTable.{RowsMade, no_rows}
use Rattle.genotype_probs.proofs.Filled.{FilledTo}
use Rattle.genotype_probs.proofs.table.PriorTable.fill.Given as goal

abbrev pub invariant-loop-base : goal.invariant-loop-base
invariant-loop-base l = FilledTo base_number (RowsMade l.fn.rates.rates) no_rows l.base-index l.self.bases
