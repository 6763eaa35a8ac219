-- The rows of the letters before the index are written.
use Rattle.std.proofs.Common.{◌≡◌, length}
use Rattle.genotype_probs.specs.Letters.{letter_number}
use Rattle.genotype_probs.specs.Inner.PriorTable.{RowMade, no_row}
use Rattle.genotype_probs.proofs.Filled.{FilledTo}
use Rattle.genotype_probs.proofs.table.Values.fill.Given as goal

abbrev pub invariant-loop-first : goal.invariant-loop-first
invariant-loop-first l = (length l.rows.rows ≡ 6) × FilledTo letter_number (RowMade l.self.rates.rates l.base) no_row l.first-index l.rows.rows
