-- A pair's score from the four values of each call summed per allele: one pass over the pile, whatever k.
-- Assumes nothing.
use mathlib.Core.Path.{◌≡◌, refl}
use mathlib.Core.Bool.{Bool, true, false, cond}
use mathlib.Core.List.{List, [], ◌∷◌}
use Prim.Native.Nat.{ℕ, zero, suc, ◌+◌, ◌<◌}
use native.Mathlib.Omega.{arith}
use lib.Dec.{eqb}
use lib.IntN.{ℤ, pos, ◌+ℤ◌, +ℤ_idl, +ℤ_idr}
use Rattle.steps.proofs.Signed.{parts_add, zlin}
use Rattle.variants_and_fragments.specs.Inner.Case.{All, end, also}
use Rattle.variants_and_fragments.specs.Pileup.{Row}
use Rattle.variants_and_fragments.specs.Sums.{sum_over}
use Rattle.sweeps.specs.Sweeps.{SweepCase, call_term, allele0, allele1}
use Rattle.sweeps.specs.Inner.Incremental.{without, share, four_value, which_value, row_value, allele_sum}

-- a call's share is one of its four values
pub share_value : (C : SweepCase) (v : ℕ) (h : List ℕ) (L0 L1 : ℕ → ℤ) (i j : ℕ) (row : Row)
    → share C v h L0 L1 i j row ≡ row_value C v h L0 L1 row (which_value i j row.call.allele)
unfolding call_term four_value row_value
share_value C v h L0 L1 i j row = go (eqb row.call.allele i) (eqb row.call.allele j)
  where
    b0 : ℤ
    b0 = without (C.phased v) (L0 row.fragment) row.call (allele0 h v)

    b1 : ℤ
    b1 = without (C.phased v) (L1 row.fragment) row.call (allele1 h v)

    go : (s t : Bool) → C.mix (b0 +ℤ cond s row.call.one_minus_qual row.call.qual) (b1 +ℤ cond t row.call.one_minus_qual row.call.qual)
        ≡ four_value C.mix b0 b1 row.call (cond s 1 0 + cond t 2 0)
    go true true = refl
    go true false = refl
    go false true = refl
    go false false = refl

-- the sums per allele, each at the value that its allele takes, together
pub allele_sums : (value : Row → ℕ → ℤ) (w : ℕ → ℕ) (rows : List Row) → All (λ row. row.call.allele < 3) rows
    → (allele_sum value rows 0 (w 0) +ℤ allele_sum value rows 1 (w 1)) +ℤ allele_sum value rows 2 (w 2)
    ≡ sum_over rows (λ row. value row (w row.call.allele))
unfolding allele_sum sum_over
allele_sums value w [] end = refl
allele_sums value w (row ∷ rows) (also small rest) = go row.call.allele small (allele_sums value w rows rest)
  where
    s : ℕ → ℤ
    s x = allele_sum value rows x (w x)

    all : ℤ
    all = sum_over rows (λ r. value r (w r.call.allele))

    add : (x y z d e f : ℤ) (t : ℤ) → (x +ℤ y) +ℤ z ≡ all → (d +ℤ e) +ℤ f ≡ t → ((d +ℤ x) +ℤ (e +ℤ y)) +ℤ (f +ℤ z) ≡ t +ℤ all
    add x y z d e f t p q =
        omega (zlin, parts_add x y, parts_add (x +ℤ y) z, parts_add d e, parts_add (d +ℤ e) f, parts_add d x, parts_add e y, parts_add f z, parts_add (d +ℤ x) (e +ℤ y), parts_add ((d +ℤ x) +ℤ (e +ℤ y)) (f +ℤ z), parts_add t all)

    go : (a : ℕ) → a < 3 → (s 0 +ℤ s 1) +ℤ s 2 ≡ all
        → ((cond (eqb a 0) (value row (w 0)) (pos 0) +ℤ s 0) +ℤ (cond (eqb a 1) (value row (w 1)) (pos 0) +ℤ s 1)) +ℤ (cond (eqb a 2) (value row (w 2)) (pos 0) +ℤ s 2)
        ≡ value row (w a) +ℤ all
    go zero l e = add (s 0) (s 1) (s 2) (value row (w 0)) (pos 0) (pos 0) (value row (w 0)) e (simp +ℤ_idr)
    go (suc zero) l e = add (s 0) (s 1) (s 2) (pos 0) (value row (w 1)) (pos 0) (value row (w 1)) e (simp (+ℤ_idr, +ℤ_idl))
    go (suc (suc zero)) l e = add (s 0) (s 1) (s 2) (pos 0) (pos 0) (value row (w 2)) (value row (w 2)) e (simp +ℤ_idl)
    go (suc (suc (suc a))) l e = absurd (omega arith)

-- one more row
pub allele_sum_on : (value : Row → ℕ → ℤ) (row : Row) (rows : List Row) (x w : ℕ)
    → allele_sum value (row ∷ rows) x w ≡ cond (eqb row.call.allele x) (value row w) (pos 0) +ℤ allele_sum value rows x w
unfolding allele_sum sum_over
allele_sum_on value row rows x w = refl
