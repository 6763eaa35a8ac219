-- The loop that moves likelihoods: the rows before p have moved theirs, and at its end each likelihood has moved by what its rows add.
-- Assumes nothing.
use mathlib.Core.Path.{◌≡◌, refl, sym, ◌∙◌}
use mathlib.Core.List.{List}
use Prim.Native.Nat.{ℕ, ◌+◌, ◌-◌, ◌*◌, ◌^◌, ◌<◌, ◌≤◌}
use native.Mathlib.Omega.{arith}
use native.Mathlib.Decide.{ℕ_discrete}
use borrow.Author.Tests.{eq-eqb, ne_eqb}
use lib.ListN.{length, get_or, set, length-set}
use lib.Seq.{get_or-set_same, get_or-set_other}
use lib.IntN.{ℤ, pos, nat_abs, ◌+ℤ◌, ◌-ℤ◌, +ℤ_idr, +ℤ_assoc}
use Rattle.steps.proofs.Signed.{add_abs}
use Rattle.variants_and_fragments.specs.Pileup.{Row}
use Rattle.variants_and_fragments.specs.Decode.{tabulate_from}
use Rattle.variants_and_fragments.specs.Sums.{sum_over}
use Rattle.variants_and_fragments.proofs.Tabulated.{table_more, table_end}
use Rattle.sweeps.specs.Sweeps.{call_term}
use Rattle.likelihoods.specs.Inner.Held.{Within}
use Rattle.call_genotypes.specs.Inner.Visits.{move_of, Moved}

-- the rows before p have moved their likelihoods
pub record Moving (side old new : ℕ) (row : ℕ → Row) (a e p : ℕ) (lik₀ lik : List ℤ) : Type 0 where
  pub from : a ≤ p
  pub few : p ≤ a + 16384
  pub long : length lik ≡ length lik₀
  pub small : (n : ℕ) → Within n lik₀ → Within (n + (p - a) * 2 ^ 19) lik
  pub left : (i : ℕ) → i < length lik₀
      → get_or lik i (pos 0) +ℤ sum_over (tabulate_from row p (e - p)) (move_of side old new i) ≡ get_or lik₀ i (pos 0) +ℤ sum_over (tabulate_from row a (e - a)) (move_of side old new i)

module _ (side old new : ℕ) (row : ℕ → Row) (a e : ℕ) (lik₀ : List ℤ) where
  pub moving_start : Moving side old new row a e a lik₀ lik₀
  moving_start = record { from = omega arith; few = omega arith; long = refl; small = λ n W i. omega (arith, W i); left = λ i l. refl }

  module _ (p : ℕ) (lik lik' : List ℤ) (at : ℕ) (y : ℤ) (s : Moving side old new row a e p lik₀ lik) (l : p < e) (f : e ≤ a + 16384)
      (ea : at ≡ 2 * (row p).fragment + side) (ey : y ≡ call_term (row p).call new -ℤ call_term (row p).call old) (low : at < length lik) (size : nat_abs y ≤ 2 ^ 19)
      (q : lik' ≡ set lik at (get_or lik at (pos 0) +ℤ y)) where
    moved_at : (i : ℕ) → get_or lik' i (pos 0) ≡ get_or lik i (pos 0) +ℤ move_of side old new i (row p)
    unfolding move_of
    moved_at i = elim (ℕ_discrete at i) [
      | yes e ↦ rw (q, ← ea, eq-eqb at i e, ← ey, ← e) (get_or-set_same lik at (get_or lik at (pos 0) +ℤ y) (pos 0) low)
      | no e ↦ rw (q, ← ea, ne_eqb at i e, +ℤ_idr) (get_or-set_other lik at i (get_or lik at (pos 0) +ℤ y) (pos 0) (λ r. e (sym r)))
    ]

    small_on : (n : ℕ) → Within n lik₀ → Within (n + (p + 1 - a) * 2 ^ 19) lik'
    small_on n W i = elim (ℕ_discrete at i) [
      | yes e ↦ rw (q, ← e, get_or-set_same lik at (get_or lik at (pos 0) +ℤ y) (pos 0) low) (omega (arith, add_abs (get_or lik at (pos 0)) y, s.small n W at, s.from, size))
      | no e ↦ rw (q, get_or-set_other lik at i (get_or lik at (pos 0) +ℤ y) (pos 0) (λ r. e (sym r))) (omega (arith, s.small n W i, s.from))
    ]

    left_on : (i : ℕ) → i < length lik₀
        → get_or lik' i (pos 0) +ℤ sum_over (tabulate_from row (p + 1) (e - (p + 1))) (move_of side old new i) ≡ get_or lik₀ i (pos 0) +ℤ sum_over (tabulate_from row a (e - a)) (move_of side old new i)
    unfolding sum_over
    left_on i h =
        rw (moved_at i, +ℤ_assoc (get_or lik i (pos 0)) (move_of side old new i (row p)) (sum_over (tabulate_from row (p + 1) (e - (p + 1))) (move_of side old new i)))
        (rw (table_more row e p l) at (s.left i h))

    pub moving_step : Moving side old new row a e (p + 1) lik₀ lik'
    moving_step = record {
      from = omega (arith, s.from);
      few = omega arith;
      long = rw (q, length-set) s.long;
      small = small_on;
      left = left_on;
    }

  pub moving_end : (p : ℕ) (lik : List ℤ) → Moving side old new row a e p lik₀ lik → e ≤ p → Moved side old new (tabulate_from row a (e - a)) lik₀ lik
  unfolding sum_over
  moving_end p lik s h = record { long = s.long; grown = λ n W i. omega (arith, s.small n W i, s.few); moved = λ i l. sym (+ℤ_idr (get_or lik i (pos 0))) ∙ (rw (table_end row e p h) at (s.left i l)) }
