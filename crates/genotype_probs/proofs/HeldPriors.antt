-- A table that is made from rates gives each prior: the one law that ties specs/Inner/PriorTable.antt to `get_prior`.
-- Assumes nothing.
use mathlib.Core.Path.{◌≡◌}
use mathlib.Core.List.{List}
use native.Mathlib.Decide.{ℕ_discrete}
use lib.ListN.{length, get_or, set}
use lib.IntN.{nat_abs}
use Rattle.std.proofs.lemmas.List.{get_or-set_same, get_or-set_other}
use Prim.Native.Nat.{ℕ, ◌/◌, ◌%◌, ◌<◌, ◌≤◌}
use Rattle.variants_and_fragments.specs.Case.{Case, Variant, allele_count, variant_of}
use Rattle.genotype_probs.specs.declared.Rates.{Rates}
use Rattle.genotype_probs.specs.declared.table.Rows.{Rows}
use Rattle.genotype_probs.specs.Letters.{Base, Letter, base_number, letter_number}
use Rattle.genotype_probs.specs.Priors.{diploid, letters_prior, alleles_prior, get_prior, all_priors, prior_at}
use Rattle.genotype_probs.specs.Inner.PriorTable.{RowsMade, TableMade, no_entry, no_row, no_rows, entry_of, EntriesSmall, table_value, lookup, table_prior, table_priors, table_prior_at}
use Rattle.genotype_probs.proofs.PriorBounds.{diploid_down}
use Rattle.genotype_probs.proofs.RateLaws.{RatesIn}

module _ {rates : Rates} {table : List Rows} (made : TableMade rates table) where
  -- the entry of two letters
  entry_is : (ref : Base) (first second : Letter) → entry_of table ref first second ≡ diploid rates ref first second
  entry_is ref first second = ((made.bases_are ref).rows_are first).entries_are second

  pub entries_small : RatesIn rates → EntriesSmall table
  entries_small good = record { small = λ ref first second. rw (entry_is ref first second) (diploid_down rates good ref first second).most }

  value_is : (ref : Base) (first second : Letter) → table_value table ref first second ≡ letters_prior rates ref first second
  unfolding table_value letters_prior
  value_is ref first second = rw (entry_is ref first second)

  -- looked up in the table, a prior is the one that the rates give
  pub table_holds : (variant : Variant) (i j : ℕ) → table_prior table variant i j ≡ get_prior rates variant i j
  unfolding table_prior lookup get_prior alleles_prior
  table_holds variant i j = value_is _ _ _

  -- so in each place of a case
  pub places_hold : (case : Case) (e : ℕ) → table_prior_at table case e ≡ prior_at rates case e
  unfolding table_prior_at table_priors prior_at all_priors
  places_hold case e =
      let k = allele_count (variant_of case (e / 9)) in rw (table_holds (variant_of case (e / 9)) (e % 9 / k) (e % 9 % k))

-- the entry of two letters is small
abbrev Small : Letter → Letter → Rows → Type 0
Small first second rows = nat_abs (get_or (get_or rows.rows (letter_number first) no_row).entries (letter_number second) no_entry).0 ≤ 1048576

-- one element exchanged
exchanged : {X : Type 0} (P : X → Type 0) (xs : List X) (x d : X) (i n : ℕ) → i < length xs → P x → P (get_or xs n d) → P (get_or (set xs i x) n d)
exchanged P xs x d i n h p q = elim (ℕ_discrete n i) [
  | yes f ↦ rw (f, get_or-set_same xs i x d h) p
  | no m ↦ rw (get_or-set_other xs i n x d m) q
]

-- a base's rows of accepted rates in place of those that stood there: entries that were small are small
pub small_on : {rates : Rates} {table : List Rows} {rows : Rows} {i : ℕ} → RatesIn rates → EntriesSmall table → (base : Base) → RowsMade rates base rows → i < length table → EntriesSmall (set table i rows)
small_on {rates} {table} {rows} {i} good small base made h = record {
  small = λ ref first second.
      let now : Small first second rows = rw ((made.rows_are first).entries_are second) (diploid_down rates good base first second).most in
      exchanged (Small first second) table rows no_rows i (base_number ref) h now (small.small ref first second);
}
