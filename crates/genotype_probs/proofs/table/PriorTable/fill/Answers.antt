-- One base's rows more are written, which are small as those of accepted rates are; the others stay.
use Rattle.std.proofs.Common.{◌≡◌, List, ℕ, ◌+◌, ◌<◌, ◌≤◌, length, get_or, set, ◌∙◌, arith, rules}
use Rattle.genotype_probs.specs.declared.Rates.{Rates}
use Rattle.genotype_probs.specs.declared.table.Rows.{Rows}
use Rattle.genotype_probs.specs.Letters.{Base, base_number}
use Rattle.genotype_probs.specs.Inner.PriorTable.{RowsMade, TableMade, no_rows}
use Rattle.genotype_probs.proofs.Filled.{FilledTo, filled_on}
use Rattle.genotype_probs.proofs.HeldPriors.{small_on}
use Rattle.genotype_probs.proofs.Numbers.{base_one, base_listed, base_low}
use Rattle.genotype_probs.proofs.RateLaws.{rates_in}
use Rattle.genotype_probs.proofs.table.PriorTable.fill.Goals as goal

-- written at an index that is i
filled_at : (table : List Rows) (rows : Rows) {i q : ℕ} (P : Base → Rows → Type 0) → q ≡ i → FilledTo base_number P no_rows (i + 1) (set table i rows) → FilledTo base_number P no_rows (i + 1) (set table q rows)
filled_at table rows P e filled = rw e filled

pub invariant_of-self : goal.invariant_of-self
invariant_of-self c =
    let r = c.args.rates in
    let made = rw c.of-values.ensures at c.fill.ensures in
    record { small = small_on (rates_in r.rates r.accepted) c.loop-base.self.small _ made (search rules) }

pub loop-base-preserved : goal.loop-base-preserved
loop-base-preserved c =
    let i = c.loop-base.base-index in
    let listed = base_listed i _ c.loop-base-test.true in
    let e = c.from.ensures.0 ∙ listed in
    filled_at _ _ (RowsMade c.args.rates.rates) e (filled_on base_number (RowsMade c.args.rates.rates) no_rows c.loop-base.self.bases base_one _ c.fill.new.rows listed (search rules) (rw c.of-values.ensures at c.fill.ensures) c.loop-base.invariant)

-- past the last base all rows are written
all_made : {rates : Rates} {table : List Rows} {i : ℕ} → 4 ≤ i → FilledTo base_number (RowsMade rates) no_rows i table → TableMade rates table
all_made h filled = record { bases_are = λ ref. filled ref (omega (arith, base_low ref)) }

pub returns : goal.returns
returns c = all_made (omega (arith, c.loop-base-test.false)) c.loop-base.invariant
