-- Sums that a loop adds up one term at a time, each kept within a bound; a sum over a table as such a sum.
-- Assumes nothing.
use mathlib.Core.Path.{◌≡◌, refl, sym, ap, ◌∙◌}
use Prim.Native.Nat.{ℕ, zero, suc, ◌+◌, ◌^◌, ◌≤◌, ◌<◌}
use native.Mathlib.Omega.{arith}
use native.Mathlib.Nat.{add-zero, add-suc, suc-add}
use native.Mathlib.Numerals.{add-one}
use lib.IntN.{ℤ, pos, nat_abs, ◌+ℤ◌}
use mir.Syntax.{w64}
use mir.Val.{to_z, of_z}
use Rattle.steps.proofs.Signed.{add_abs, plus_read}
use Rattle.variants_and_fragments.specs.Sums.{sum_over, sum_to}
use Rattle.variants_and_fragments.specs.Decode.{tabulate_from}
use Rattle.variants_and_fragments.proofs.Sums.{sum_to_cong}
use Rattle.sweeps.proofs.Link.{sum_to_shift}

-- ---- a sum over a table
pub table_sum : {X : Type 0} (g : ℕ → X) (t : X → ℤ) (a n : ℕ) → sum_over (tabulate_from g a n) t ≡ sum_to n (λ j. t (g (a + j)))
unfolding tabulate_from sum_over sum_to
table_sum g t a zero = refl
table_sum g t a (suc n) =
    let e = sum_to_cong n (λ j. t (g (suc a + j))) (λ j. t (g (a + suc j))) (λ j h. ap (λ (k : ℕ). t (g k)) (suc-add a j ∙ sym (add-suc a j))) in
    ap (λ (z : ℤ). t (g a) +ℤ z) (table_sum g t (suc a) n ∙ e)
    ∙ ap (λ (k : ℕ). t (g k) +ℤ sum_to n (λ j. t (g (a + suc j)))) (sym (add-zero a))
    ∙ sym (sum_to_shift n (λ j. t (g (a + j))))

-- ---- a loop's sum of f 0, .., f (i − 1), at most `top` from 0
pub record Running (f : ℕ → ℤ) (i : ℕ) (sum : ℤ) (top : ℕ) : Type 0 where
  pub is : sum ≡ sum_to i f
  pub small : nat_abs sum ≤ top

pub running_start : (f : ℕ → ℤ) (top : ℕ) → Running f 0 (pos 0) top
unfolding sum_to
running_start f top = record { is = refl; small = omega arith }

-- one addition of the code: the sum so far and the next term, within the next bound
module _ (f : ℕ → ℤ) (i : ℕ) (sum term : ℤ) {top : ℕ} (top' : ℕ) (r : Running f i sum top) (e : term ≡ f i) (l : top + nat_abs term ≤ top') (h : top' < 2 ^ 63) where
  pub running_more : Running f (i + 1) (to_z w64 (of_z w64 (to_z w64 (of_z w64 sum) +ℤ to_z w64 (of_z w64 term)))) top'
  unfolding sum_to
  running_more = rw (plus_read w64 sum term (omega (arith, r.small))) (record {
    is = rw (add-one i, r.is, e);
    small = omega (arith, add_abs sum term, r.small);
  })
