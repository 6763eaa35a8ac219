-- Each entry is 0.
use Rattle.std.proofs.Common.{◌≡◌, ℕ, ◌≤◌, get_or, refl, ap, ◌∙◌, arith}
use lib.IntN.{ℤ, pos, nat_abs}
use lib.ListN.{replicate}
use Rattle.steps.specs.declared.LogProb.{LogProb}
use Rattle.genotype_probs.specs.declared.table.Row.{Row}
use Rattle.genotype_probs.specs.declared.table.Rows.{Rows}
use Rattle.genotype_probs.specs.Letters.{Base, A, C, G, T, Letter, base, D, I, base_number, letter_number}
use Rattle.genotype_probs.specs.Inner.PriorTable.{no_entry, no_row, no_rows, entry_of}
use Rattle.genotype_probs.proofs.table.PriorTable.zeros.Goals as goal

six : {X : Type 0} (x d : X) (letter : Letter) → get_or (replicate 6 x) (letter_number letter) d ≡ x
unfolding letter_number base_number
six x d (base A) = refl
six x d (base C) = refl
six x d (base G) = refl
six x d (base T) = refl
six x d D = refl
six x d I = refl

four : {X : Type 0} (x d : X) (ref : Base) → get_or (replicate 4 x) (base_number ref) d ≡ x
unfolding base_number
four x d A = refl
four x d C = refl
four x d G = refl
four x d T = refl

abbrev row : Row
row = record { entries = replicate 6 no_entry }

abbrev rows : Rows
rows = record { rows = replicate 6 row }

zero_entry : (ref : Base) (first second : Letter) → entry_of (replicate 4 rows) ref first second ≡ pos 0
zero_entry ref first second =
    ap (λ (x : Rows). (get_or (get_or x.rows (letter_number first) no_row).entries (letter_number second) no_entry).0) (four rows no_rows ref)
    ∙ ap (λ (x : Row). (get_or x.entries (letter_number second) no_entry).0) (six row no_row first)
    ∙ ap (λ (x : LogProb). x.0) (six no_entry no_entry second)

small : (z : ℤ) → z ≡ pos 0 → nat_abs z ≤ 1048576
small z e = rw e (omega arith)

pub invariant_of-result : goal.invariant_of-result
invariant_of-result c = record { small = record { small = λ ref first second. small _ (zero_entry ref first second) } }
