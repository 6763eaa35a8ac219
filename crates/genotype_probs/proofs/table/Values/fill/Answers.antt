-- One letter's row more is written.
use Rattle.std.proofs.Common.{◌∙◌, arith, length-set}
use Rattle.genotype_probs.specs.Letters.{letter_number}
use Rattle.genotype_probs.specs.Inner.PriorTable.{RowMade, no_row}
use Rattle.genotype_probs.proofs.Filled.{filled_on}
use Rattle.genotype_probs.proofs.Numbers.{letter_one, letter_listed, letter_low}
use Rattle.genotype_probs.proofs.table.Values.fill.Goals as goal

pub loop-first-preserved : goal.loop-first-preserved
loop-first-preserved c =
    let i = c.loop-first.first-index in
    let rows = c.loop-first.rows.rows in
    let listed = letter_listed i _ c.loop-first-test.true in
    rw (c.from.ensures.0 ∙ listed)
    (length-set rows i _ ∙ c.loop-first.invariant.0, filled_on letter_number (RowMade c.args.self.now.rates.rates c.args.base) no_row rows letter_one _ c.row.result listed (omega (arith, c.loop-first.invariant.0, c.loop-first-test.true)) c.row.ensures c.loop-first.invariant.1)

pub returns : goal.returns
returns c = record { rows_are = λ first. c.loop-first.invariant.1 first (omega (arith, letter_low first, c.loop-first-test.false)) }
