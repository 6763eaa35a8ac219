-- How the code holds the priors: an entry for each reference base and pair of letters, in arrays by their numbers. Only contracts of inner
-- functions go by this file; `table_holds` (proofs/HeldPriors.antt) ties it to `get_prior`. Assumes nothing.
use Rattle.std.specs.Prelude.{◌≡◌, cond, List, [], ℕ, ◌*◌, ◌/◌, ◌%◌, ◌≤◌, ltb, ℤ, pos, nat_abs, ◌+ℤ◌, get_or}
use Rattle.steps.specs.declared.LogProb.{LogProb}
use Rattle.variants_and_fragments.specs.Case.{Case, Variant, allele_count, allele_of, variant_of}
use Rattle.genotype_probs.specs.declared.Rates.{Rates}
use Rattle.genotype_probs.specs.declared.table.Row.{Row}
use Rattle.genotype_probs.specs.declared.table.Rows.{Rows}
use Rattle.genotype_probs.specs.Rates.{ts_rate, tv_rate}
use Rattle.genotype_probs.specs.Letters.{Base, Letter, base_number, letter_number, same_letter, Change, same, transition, transversion, indel}
use Rattle.genotype_probs.specs.Priors.{ln_half, ln_quarter, diploid, base_at, compared}

-- the value of one letter, where that of the reference base, the rate of another base and the rate of an indel are given
unfoldable pub letter_value : Rates → ℤ → ℤ → ℤ → Change → ℤ
letter_value rates reference snv gap same = reference
letter_value rates reference snv gap transition = snv +ℤ ts_rate rates
letter_value rates reference snv gap transversion = snv +ℤ tv_rate rates
letter_value rates reference snv gap indel = gap +ℤ ln_half +ℤ ln_quarter

-- a table, by the numbers of the reference base, of the first letter and of the second
abbrev pub no_entry : LogProb
no_entry = record { 0 = pos 0 }

abbrev pub no_row : Row
no_row = record { entries = [] }

abbrev pub no_rows : Rows
no_rows = record { rows = [] }

pub record RowMade (rates : Rates) (ref : Base) (first : Letter) (row : Row) : Type 0 where
  pub entries_are : (second : Letter) → (get_or row.entries (letter_number second) no_entry).0 ≡ diploid rates ref first second

pub record RowsMade (rates : Rates) (ref : Base) (rows : Rows) : Type 0 where
  pub rows_are : (first : Letter) → RowMade rates ref first (get_or rows.rows (letter_number first) no_row)

pub record TableMade (rates : Rates) (bases : List Rows) : Type 0 where
  pub bases_are : (ref : Base) → RowsMade rates ref (get_or bases (base_number ref) no_rows)

-- the entry of a reference base and two letters
abbrev pub entry_of : List Rows → Base → Letter → Letter → ℤ
entry_of table ref first second =
    (get_or (get_or (get_or table (base_number ref) no_rows).rows (letter_number first) no_row).entries (letter_number second) no_entry).0

-- each entry is at most 2^20 steps from 0
pub record EntriesSmall (table : List Rows) : Type 0 where
  pub small : (ref : Base) (first second : Letter) → nat_abs (entry_of table ref first second) ≤ 1048576

-- that entry, with −4096 where the letters differ
unfoldable pub table_value : List Rows → Base → Letter → Letter → ℤ
table_value table ref first second = entry_of table ref first second +ℤ cond (same_letter first second) (pos 0) ln_half

-- that of two alleles beside the reference
unfoldable pub lookup : List Rows → List ℕ → List ℕ → List ℕ → ℤ
lookup table reference first second =
    let one = compared reference first (base_at reference 0) in
    let two = compared reference second one.base in
    table_value table two.base one.letter two.letter

-- `get_prior`, `all_priors` and `prior_at`, looked up
unfoldable pub table_prior : List Rows → Variant → ℕ → ℕ → ℤ
table_prior table variant i j = lookup table (allele_of variant 0) (allele_of variant i) (allele_of variant j)

unfoldable pub table_priors : List Rows → Variant → ℕ → ℤ
table_priors table variant p =
    let k = allele_count variant in cond (ltb p (k * k)) (table_prior table variant (p / k) (p % k)) (pos 0)

unfoldable pub table_prior_at : List Rows → Case → ℕ → ℤ
table_prior_at table case e = table_priors table (variant_of case (e / 9)) (e % 9)
