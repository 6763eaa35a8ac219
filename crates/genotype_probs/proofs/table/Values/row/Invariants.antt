-- The entries of the letters before the index are written.
use Rattle.std.proofs.Common.{◌≡◌, length}
use Rattle.genotype_probs.specs.Letters.{letter_number}
use Rattle.genotype_probs.specs.Priors.{diploid}
use Rattle.genotype_probs.specs.Inner.PriorTable.{no_entry}
use Rattle.genotype_probs.proofs.Filled.{FilledTo}
use Rattle.genotype_probs.proofs.table.Values.row.Given as goal

abbrev pub invariant-loop-second : goal.invariant-loop-second
invariant-loop-second l =
    (length l.row.entries ≡ 6) × FilledTo letter_number (λ second entry. entry.0 ≡ diploid l.self.rates.rates l.base l.first second) no_entry l.second-index l.row.entries
