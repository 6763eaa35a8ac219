-- The scores of all pairs from the sums of the calls' numbers per allele: "neither" of all rows, and what a pair rises above it. Assumes nothing.
use mathlib.Core.Path.{◌≡◌, refl, sym, ap, ◌∙◌}
use mathlib.Core.Bool.{Bool, true, false, cond}
use mathlib.Core.List.{List}
use Prim.Native.Nat.{ℕ, zero, suc, ◌+◌, ◌<◌}
use native.Mathlib.Omega.{arith}
use native.Mathlib.Decide.{ℕ_discrete}
use borrow.Author.Tests.{eq-eqb, ne_eqb, eqb-true}
use lib.Dec.{eqb}
use lib.ListN.{get_or}
use lib.IntN.{ℤ, pos, ◌+ℤ◌, ◌-ℤ◌, +ℤ_idl, +ℤ_idr}
use Rattle.steps.proofs.Signed.{zlin, parts_add, parts_minus}
use Rattle.variants_and_fragments.specs.Pileup.{Row}
use Rattle.variants_and_fragments.specs.Sums.{sum_over}
use Rattle.genotype_probs.proofs.ListLaws.{sum_plus}
use Rattle.sweeps.specs.Inner.Incremental.{which_value, allele_sum}
use Rattle.sweeps.proofs.Basics.{sum_over_cong}
use Rattle.call_genotypes.specs.declared.score.Mixes.{Mixes}
use Rattle.call_genotypes.specs.Inner.Scores.{row_mixes, turn, AlleleSums, sums_at, rise_of, pair_rise}
use Rattle.call_genotypes.proofs.RiseLaws.{row_four, value_is}

-- ---- sums of what some rows have
cond_plus : (b : Bool) (x y : ℤ) → cond b (x +ℤ y) (pos 0) ≡ cond b x (pos 0) +ℤ cond b y (pos 0)
cond_plus true x y = refl
cond_plus false x y = refl

both_sum : (rows : List Row) (has : Row → Bool) (f g : Row → ℤ) → sum_over rows (λ row. cond (has row) (f row +ℤ g row) (pos 0)) ≡ sum_over rows (λ row. cond (has row) (f row) (pos 0)) +ℤ sum_over rows (λ row. cond (has row) (g row) (pos 0))
both_sum rows has f g =
    sum_over_cong rows (λ row. cond (has row) (f row +ℤ g row) (pos 0)) (λ row. cond (has row) (f row) (pos 0) +ℤ cond (has row) (g row) (pos 0)) (λ row. cond_plus (has row) (f row) (g row))
    ∙ sum_plus rows (λ row. cond (has row) (f row) (pos 0)) (λ row. cond (has row) (g row) (pos 0))

back : (x y : ℤ) → x ≡ (x -ℤ y) +ℤ y
back x y = omega (zlin, parts_minus x y, parts_add (x -ℤ y) y)

away : (s x y : ℤ) → s ≡ x +ℤ y → x ≡ s -ℤ y
away s x y e = omega (zlin, parts_add x y, parts_minus s y)

less_sum : (rows : List Row) (has : Row → Bool) (f g : Row → ℤ) → sum_over rows (λ row. cond (has row) (f row -ℤ g row) (pos 0)) ≡ sum_over rows (λ row. cond (has row) (f row) (pos 0)) -ℤ sum_over rows (λ row. cond (has row) (g row) (pos 0))
less_sum rows has f g =
    away (sum_over rows (λ row. cond (has row) (f row) (pos 0))) (sum_over rows (λ row. cond (has row) (f row -ℤ g row) (pos 0))) (sum_over rows (λ row. cond (has row) (g row) (pos 0)))
    (sum_over_cong rows (λ row. cond (has row) (f row) (pos 0)) (λ row. cond (has row) ((f row -ℤ g row) +ℤ g row) (pos 0)) (λ row. ap (λ (z : ℤ). cond (has row) z (pos 0)) (back (f row) (g row)))
    ∙ both_sum rows has (λ row. f row -ℤ g row) g)

module _ (phased : Bool) (g0 g1 : ℕ) (turns lik : List ℤ) (turns-are : (x : ℕ) → get_or turns x (pos 0) ≡ turn phased g0 g1 x) where
  -- what (i, j) takes of a row over "neither": what its allele's numbers say
  row_pair : ℕ → ℕ → Row → ℤ
  row_pair i j row =
      cond (eqb i j) (cond (eqb row.call.allele i) (rise_of (row_mixes turns lik row) 2) (pos 0))
      (cond (eqb row.call.allele i) (rise_of (row_mixes turns lik row) 0) (pos 0) +ℤ cond (eqb row.call.allele j) (rise_of (row_mixes turns lik row) 1) (pos 0))

  taken_same : (row : Row) (t : Bool) → row_four phased g0 g1 lik row (cond t 1 0 + cond t 2 0) ≡ row_four phased g0 g1 lik row 0 +ℤ cond t (rise_of (row_mixes turns lik row) 2) (pos 0)
  taken_same row true = value_is phased g0 g1 turns lik turns-are row 2 (omega arith)
  taken_same row false = sym (+ℤ_idr _)

  taken_other : (row : Row) (s t : Bool) → (s ≡ true → t ≡ true → ⊥)
      → row_four phased g0 g1 lik row (cond s 1 0 + cond t 2 0) ≡ row_four phased g0 g1 lik row 0 +ℤ (cond s (rise_of (row_mixes turns lik row) 0) (pos 0) +ℤ cond t (rise_of (row_mixes turns lik row) 1) (pos 0))
  taken_other row true true f = absurd (f refl refl)
  taken_other row true false f = value_is phased g0 g1 turns lik turns-are row 0 (omega arith) ∙ ap (λ (z : ℤ). row_four phased g0 g1 lik row 0 +ℤ z) (sym (+ℤ_idr _))
  taken_other row false true f = value_is phased g0 g1 turns lik turns-are row 1 (omega arith) ∙ ap (λ (z : ℤ). row_four phased g0 g1 lik row 0 +ℤ z) (sym (+ℤ_idl _))
  taken_other row false false f = sym (+ℤ_idr _)

  taken_is : (i j : ℕ) (row : Row) → row_four phased g0 g1 lik row (which_value i j row.call.allele) ≡ row_four phased g0 g1 lik row 0 +ℤ row_pair i j row
  unfolding row_pair
  taken_is i j row = elim (ℕ_discrete i j) [
    | yes e ↦ rw (← e, eq-eqb i i refl) (taken_same row (eqb row.call.allele i))
    | no n ↦ rw (ne_eqb i j n) (taken_other row (eqb row.call.allele i) (eqb row.call.allele j) (λ s t. n (sym (eqb-true row.call.allele i s) ∙ eqb-true row.call.allele j t)))
  ]

  -- all rows
  module _ (rows : List Row) (of : List Mixes) (A : AlleleSums (row_mixes turns lik) rows of) where
    abbrev value : Row → ℕ → ℤ
    value = row_mixes turns lik

    -- the rises of one allele's rows are the rise of its sums
    rise_sum : (x w : ℕ) → x < 3 → sum_over rows (λ row. cond (eqb row.call.allele x) (rise_of (value row) w) (pos 0)) ≡ rise_of (sums_at of x) w
    unfolding rise_of allele_sum
    rise_sum x zero h =
        less_sum rows (λ row. eqb row.call.allele x) (λ row. value row 0) (λ row. value row 3)
        ∙ cc (A.sums x 0 h (omega arith), A.sums x 3 h (omega arith))
    rise_sum x (suc zero) h =
        both_sum rows (λ row. eqb row.call.allele x) (λ row. value row 1 -ℤ value row 3) (λ row. value row 2)
        ∙ cc (less_sum rows (λ row. eqb row.call.allele x) (λ row. value row 1) (λ row. value row 3), A.sums x 1 h (omega arith), A.sums x 2 h (omega arith), A.sums x 3 h (omega arith))
    rise_sum x (suc (suc w)) h = sym (A.sums x 2 h (omega arith))

    rises_sum : (i j : ℕ) → i < 3 → j < 3 → sum_over rows (row_pair i j) ≡ pair_rise of i j
    unfolding row_pair
    rises_sum i j h l = go (eqb i j)
      where
        go : (t : Bool) → sum_over rows (λ row. cond t (cond (eqb row.call.allele i) (rise_of (value row) 2) (pos 0)) (cond (eqb row.call.allele i) (rise_of (value row) 0) (pos 0) +ℤ cond (eqb row.call.allele j) (rise_of (value row) 1) (pos 0)))
            ≡ cond t (rise_of (sums_at of i) 2) (rise_of (sums_at of i) 0 +ℤ rise_of (sums_at of j) 1)
        go true = rise_sum i 2 h
        go false = sum_plus rows (λ row. cond (eqb row.call.allele i) (rise_of (value row) 0) (pos 0)) (λ row. cond (eqb row.call.allele j) (rise_of (value row) 1) (pos 0))
            ∙ cc (rise_sum i 0 h, rise_sum j 1 l)

    -- what the pair takes of all rows
    pub pairs_are : (i j : ℕ) → i < 3 → j < 3 → sum_over rows (λ row. row_four phased g0 g1 lik row (which_value i j row.call.allele)) ≡ sum_over rows (λ row. row_four phased g0 g1 lik row 0) +ℤ pair_rise of i j
    pairs_are i j h l =
        sum_over_cong rows (λ row. row_four phased g0 g1 lik row (which_value i j row.call.allele)) (λ row. row_four phased g0 g1 lik row 0 +ℤ row_pair i j row) (taken_is i j)
        ∙ sum_plus rows (λ row. row_four phased g0 g1 lik row 0) (row_pair i j)
        ∙ ap (λ (z : ℤ). sum_over rows (λ row. row_four phased g0 g1 lik row 0) +ℤ z) (rises_sum i j h l)
