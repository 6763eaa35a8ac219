-- One letter's entry more is written.
use Rattle.std.proofs.Common.{◌≡◌, ◌∙◌, arith, length-set}
use Rattle.genotype_probs.specs.Letters.{letter_number}
use Rattle.genotype_probs.specs.Priors.{diploid}
use Rattle.genotype_probs.specs.Inner.PriorTable.{no_entry}
use Rattle.genotype_probs.proofs.Filled.{filled_on}
use Rattle.genotype_probs.proofs.Numbers.{letter_one, letter_listed, letter_low}
use Rattle.genotype_probs.proofs.table.Values.row.Goals as goal

pub loop-second-preserved : goal.loop-second-preserved
loop-second-preserved c =
    let i = c.loop-second.second-index in
    let row = c.loop-second.row.entries in
    let listed = letter_listed i _ c.loop-second-test.true in
    rw (c.from.ensures.0 ∙ listed)
    (length-set row i _ ∙ c.loop-second.invariant.0, filled_on letter_number (λ second entry. entry.0 ≡ diploid c.args.self.now.rates.rates c.args.base c.args.first second) no_entry row letter_one _ c.entry.result listed (omega (arith, c.loop-second.invariant.0, c.loop-second-test.true)) c.entry.ensures c.loop-second.invariant.1)

pub returns : goal.returns
returns c = record { entries_are = λ second. c.loop-second.invariant.1 second (omega (arith, letter_low second, c.loop-second-test.false)) }
