-- What an operation promises of the parameters that C hands over, where it was called with parameters equal to them.
-- Assumes nothing.
use mathlib.Core.Path.{◌≡◌}
use mathlib.Core.List.{List}
use Prim.Native.Nat.{ℕ}
use lib.IntN.{ℤ}
use lib.Ieee.{Float}
use Rattle.variants_and_fragments.specs.Refusals.{Outcome}
use Rattle.var_filter.specs.declared.DensityParameters.{DensityParameters}
use Rattle.var_filter.specs.Filter.{limits_of}
use Rattle.var_filter.specs.Filtered.{VarFiltered}
use Rattle.late_reads.specs.Values.{values}
use Rattle.late_reads.specs.LateReads.{late_input, LateAnswer, LateSlices, Arrives, Departs}

pub filtered_at : (w : List ℤ) (b : List ℕ) (quals : List Float) (taken given : DensityParameters) (depth : ℕ) (before : List ℕ) (o : Outcome Unit) (after : List ℕ) → taken ≡ given
    → VarFiltered w b quals (limits_of taken depth) before o after → VarFiltered w b quals (limits_of given depth) before o after
filtered_at w b quals taken given depth before o after e p = rw (← e) p

module _ (w : List ℤ) (b phase haps : List ℕ) (likelihoods counts : List ℤ) {taken given : ℤ} (same : taken ≡ given) (f : ℕ) {o : Outcome LateAnswer} {after : LateSlices} where
  pub arrived_at : {strand-taken strand-given : ℤ} (calls : List ℤ) → strand-taken ≡ strand-given
      → Arrives (late_input w b phase haps (values likelihoods counts taken)) f strand-taken calls o after → Arrives (late_input w b phase haps (values likelihoods counts given)) f strand-given calls o after
  arrived_at calls e p = rw (← same, ← e) p

  pub departed_at : Departs (late_input w b phase haps (values likelihoods counts taken)) f o after → Departs (late_input w b phase haps (values likelihoods counts given)) f o after
  departed_at p = rw (← same) p
