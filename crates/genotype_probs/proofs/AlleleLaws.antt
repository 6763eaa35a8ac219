-- The alleles of a decoded variant, as parts of the bases, and the places of its priors.
-- Assumes nothing.
use mathlib.Core.Path.{◌≡◌}
use mathlib.Core.List.{List, []}
use Prim.Native.Nat.{ℕ, zero, suc, ◌+◌, ◌*◌, ◌-◌, ◌/◌, ◌%◌, ◌≤◌, ◌<◌}
use native.Mathlib.Omega.{arith}
use lib.Arith.{digits_div, digits_mod}
use borrow.Author.Tests.{lt-ltb, le-ltb}
use lib.IntN.{ℤ, pos}
use lib.ListN.{length, take, drop, length-take, length-drop}
use Rattle.variants_and_fragments.specs.declared.Sizes.{Sizes}
use Rattle.variants_and_fragments.specs.Case.{allele_count, allele_of}
use Rattle.variants_and_fragments.specs.Layout.{sizes_of, allele_count_at, length_at}
use Rattle.variants_and_fragments.specs.Alleles.{alleles_length, alleles_start}
use Rattle.variants_and_fragments.specs.Inner.Alleles.{VariantsIn}
use Rattle.variants_and_fragments.specs.Decode.{allele_start, allele_at, variant_from, decode}
use Rattle.variants_and_fragments.proofs.AlleleBytes.{off_on, off_le}
use Rattle.variants_and_fragments.proofs.Decoded.{tabulate_length, tabulate_at, variant_is}
use Rattle.genotype_probs.specs.declared.table.Rows.{Rows}
use Rattle.genotype_probs.specs.Inner.PriorTable.{lookup, table_prior, table_priors, table_prior_at}

module _ {w : List ℤ} {s : Sizes} (k : VariantsIn w s) where
  -- at most 64 bases per allele, 192 per variant
  pub length_high : (v j : ℕ) → v < s.n → j < 3 → length_at w v j ≤ 64
  length_high v zero h l = (k.each v h).len0
  length_high v (suc zero) h l = (k.each v h).len1
  length_high v (suc (suc zero)) h l = (k.each v h).len2
  length_high v (suc (suc (suc j))) h l = absurd (omega arith)

  start_high : (v : ℕ) → v ≤ s.n → alleles_start w v ≤ 192 * v
  unfolding alleles_start
  start_high zero h = omega arith
  start_high (suc v) h =
      let i = k.each v h in omega (arith, start_high v (omega arith), i.len0, i.len1, i.len2)

  pub start_top : (v : ℕ) → s.n ≤ 1024 → v ≤ s.n → alleles_start w v ≤ 196608
  start_top v top h = omega (arith, start_high v h)

-- an allele's bytes are among its variant's
allele_within : (w : List ℤ) (v j : ℕ) → j < 3 → allele_start w v j + length_at w v j ≤ alleles_start w v + alleles_length w v
unfolding allele_start
allele_within w v zero h = omega arith
allele_within w v (suc zero) h = omega arith
allele_within w v (suc (suc zero)) h = omega arith
allele_within w v (suc (suc (suc j))) h = absurd (omega arith)

-- an allele, as the part of the bases from a to e
pub allele_part : (w : List ℤ) (b : List ℕ) (v j a e : ℕ) → a ≡ allele_start w v j → e ≡ a + length_at w v j → take (e - a) (drop a b) ≡ allele_at w b v j
unfolding allele_at
allele_part w b v j a e p q = let d : e - a ≡ length_at w v j = omega arith in rw (d, p)

-- where the bases are as many as the alleles have, each allele ends within them, and has one where it is present
module _ {w : List ℤ} {s : Sizes} (k : VariantsIn w s) (b : List ℕ) (long : length b ≡ alleles_start w s.n) (v j : ℕ) (h : v < s.n) where
  pub allele_end : j < 3 → allele_start w v j + length_at w v j ≤ length b
  allele_end l = omega (arith, allele_within w v j l, off_on w v, off_le w (v + 1) s.n (omega arith))

  pub allele_length : j < 3 → length (allele_at w b v j) ≡ length_at w v j
  unfolding allele_at
  allele_length l = simp (length-take, length-drop) (omega (arith, allele_end l))

  pub allele_there : j < allele_count_at w v → 0 < length (allele_at w b v j)
  allele_there l = omega (arith, allele_length (omega (arith, (k.each v h).k_high)), (k.each v h).present j l)

-- ---- of the decoded variant
pub count_is : (w : List ℤ) (b : List ℕ) (v : ℕ) → allele_count (variant_from w b v) ≡ allele_count_at w v
unfolding variant_from
count_is w b v = tabulate_length _ _

pub allele_is : (w : List ℤ) (b : List ℕ) (v j : ℕ) → j < allele_count_at w v → allele_of (variant_from w b v) j ≡ allele_at w b v j
unfolding variant_from
allele_is w b v j h = tabulate_at _ _ j [] h

pub prior_is : (table : List Rows) (w : List ℤ) (b : List ℕ) (v i j : ℕ) (reference first second : List ℕ) → 0 < allele_count_at w v → i < allele_count_at w v → j < allele_count_at w v
    → reference ≡ allele_at w b v 0 → first ≡ allele_at w b v i → second ≡ allele_at w b v j → lookup table reference first second ≡ table_prior table (variant_from w b v) i j
unfolding table_prior
prior_is table w b v i j reference first second h k l p q r = rw (p, q, r, allele_is w b v 0 h, allele_is w b v i k, allele_is w b v j l)

-- at most nine places
pub nine : (k : ℕ) → k ≤ 3 → k * k ≤ 9
nine zero h = omega arith
nine (suc zero) h = omega arith
nine (suc (suc zero)) h = omega arith
nine (suc (suc (suc zero))) h = omega arith
nine (suc (suc (suc (suc k)))) h = absurd (omega arith)

-- place i × k + j of them, and those past the k × k
module _ (table : List Rows) (w : List ℤ) (b : List ℕ) (v k : ℕ) (e : k ≡ allele_count_at w v) where
  pub place_is : (i j : ℕ) → j < k → i * k + j < k * k → table_prior table (variant_from w b v) i j ≡ table_priors table (variant_from w b v) (i * k + j)
  unfolding table_priors
  place_is i j h l = rw (count_is w b v, ← e, lt-ltb (i * k + j) (k * k) l, digits_div i h, digits_mod i h)

  pub past_places : (p : ℕ) → k * k ≤ p → table_priors table (variant_from w b v) p ≡ pos 0
  unfolding table_priors
  past_places p h = rw (count_is w b v, ← e, le-ltb p (k * k) h)

-- element 9 v + p of a case's priors is place p of variant v
pub element_is : (table : List Rows) (w : List ℤ) (b : List ℕ) (v p : ℕ) → v < (sizes_of w).n → p < 9 → table_priors table (variant_from w b v) p ≡ table_prior_at table (decode w b) (9 * v + p)
unfolding table_prior_at
element_is table w b v p h k =
    let q : (9 * v + p) / 9 ≡ v = omega arith in let r : (9 * v + p) % 9 ≡ p = omega arith in rw (q, r, variant_is w b v h)
