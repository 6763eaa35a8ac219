-- A sum along the pileup is the sum per usable call. Assumes nothing.
use mathlib.Core.Path.{◌≡◌, refl, sym, ap, ◌∙◌}
use mathlib.Core.Bool.{Bool, true, false, cond}
use mathlib.Core.List.{List, [], ◌∷◌}
use Prim.Native.Nat.{ℕ, suc, ◌+◌, ◌<◌}
use native.Mathlib.Omega.{arith}
use native.Mathlib.Nat.{add-zero}
use lib.Dec.{eqb}
use lib.ListN.{length, get_or}
use lib.IntN.{ℤ, pos, ◌+ℤ◌, +ℤ_idl}
use Rattle.variants_and_fragments.specs.Case.{Call}
use Rattle.variants_and_fragments.specs.Sums.{sum_over}
use Rattle.variants_and_fragments.proofs.Sums.{sum_append}
use Rattle.sweeps.specs.Sweeps.{per_call}
use Rattle.sweeps.specs.Inner.Incremental.{rows_within, pileup_from}

calls_sum : (v i : ℕ) (cs : List Call) (X : ℕ → ℤ) → sum_over (rows_within v i cs) (λ p. X p.fragment) ≡ per_call v cs (X i)
unfolding sum_over rows_within per_call
calls_sum v i [] X = refl
calls_sum v i (c ∷ cs) X = go (eqb c.variant v) (calls_sum v i cs X)
  where
    go : (b : Bool) → sum_over (rows_within v i cs) (λ p. X p.fragment) ≡ per_call v cs (X i)
        → sum_over (cond b (record { fragment = i; call = c } ∷ rows_within v i cs) (rows_within v i cs)) (λ p. X p.fragment) ≡ cond b (X i) (pos 0) +ℤ per_call v cs (X i)
    go true e = ap (λ z. X i +ℤ z) e
    go false e = e ∙ sym (+ℤ_idl _)

pub pileup_sum : (v i : ℕ) (fs : List (List Call)) (X : ℕ → ℤ) (F : List Call → ℤ) → ((j : ℕ) → j < length fs → X (i + j) ≡ F (get_or fs j []))
    → sum_over (pileup_from v i fs) (λ p. X p.fragment) ≡ sum_over fs (λ cs. per_call v cs (F cs))
unfolding sum_over pileup_from
pileup_sum v i [] X F e = refl
pileup_sum v i (cs ∷ fs) X F e =
    sum_append (rows_within v i cs) (pileup_from v (suc i) fs) (λ p. X p.fragment)
    ∙ cc (calls_sum v i cs X, ap (per_call v cs) (rw add-zero at (e 0 (omega arith))), pileup_sum v (suc i) fs X F (λ j l. ap X (omega arith) ∙ e (suc j) (omega arith)))
