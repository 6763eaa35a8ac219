-- Laws of the comparisons: the first letter of an allele is the current reference base or is not, and a lookup by what two comparisons left.
-- Assumes nothing.
use mathlib.Core.Path.{◌≡◌, refl}
use mathlib.Core.List.{List}
use Prim.Native.Nat.{ℕ}
use borrow.Author.Tests.{eqb-true, eq-eqb, ne_eqb}
use lib.Dec.{eqb, ltb}
use lib.ListN.{length}
use Rattle.steps.proofs.Signed.{by_test}
use Rattle.genotype_probs.specs.declared.letters.Compared.{Compared}
use Rattle.genotype_probs.specs.declared.table.Rows.{Rows}
use Rattle.genotype_probs.specs.Letters.{Base, base, letter_number, same_letter}
use Rattle.genotype_probs.specs.Priors.{base_at, first_letter, stop_at, compared}
use Rattle.genotype_probs.specs.Inner.PriorTable.{table_value, lookup}
use Rattle.genotype_probs.proofs.Numbers.{letter_one}

module _ (reference allele : List ℕ) (current : Base) where
  -- D and I are no bases
  pub same_length : first_letter reference allele ≡ base current → length allele ≡ length reference
  unfolding first_letter
  same_length h =
      by_test (eqb (length allele) (length reference)) (λ t. eqb-true _ _ t)
      (λ t. by_test (ltb (length reference) (length allele)) (λ u. let e = rw (t, u) at h in absurd (cc)) (λ u. let e = rw (t, u) at h in absurd (cc)))

  -- the two cases of a comparison
  pub compared_other : (first_letter reference allele ≡ base current → ⊥) → record { base = current; letter = first_letter reference allele } ≡ compared reference allele current
  unfolding compared same_letter
  compared_other h =
      let first = first_letter reference allele in
      rw (ne_eqb (letter_number first) (letter_number (base current)) (λ q. h (letter_one first (base current) q)))

  pub compared_same : (stop : ℕ) → first_letter reference allele ≡ base current → stop ≡ stop_at reference allele → record { base = base_at reference stop; letter = base (base_at allele stop) } ≡ compared reference allele current
  unfolding compared same_letter
  compared_same stop h e = rw (h, eq-eqb (letter_number (base current)) (letter_number (base current)) refl, e)

-- a lookup, by what the two comparisons left
pub lookup_is : (table : List Rows) (reference first second : List ℕ) (current : Base) (one two : Compared) → current ≡ base_at reference 0 → one ≡ compared reference first current → two ≡ compared reference second one.base → table_value table two.base one.letter two.letter ≡ lookup table reference first second
unfolding lookup
lookup_is table reference first second current one two e p q = rw (q, p, e)
