-- Demand 3 of document 01: what holds of a run over its whole list of orders, whatever they are and whatever the limit.
-- `proofs/Run.antt` proves it of every accepted run. Assumes nothing.
use Rattle.std.specs.Prelude.{◌≡◌, not, List, ℕ, zero, suc, ◌+◌, ◌*◌, ◌<◌, ◌≤◌, T, pos, ◌+ℤ◌, ◌-ℤ◌, ◌*ℤ◌, ◌≤ℤ◌, ◌<ℤ◌}
use Rattle.sweeps.specs.Sweeps.{SweepCase, RunResult, allele0, allele1, same_haps, score_with, sweep, phased_total, pair_number, phased_count}

-- the haplotypes after s sweeps, sweep s going by the order o s
unfoldable pub after : SweepCase → (ℕ → List ℕ) → List ℕ → ℕ → List ℕ
after C o h zero = h
after C o h (suc s) = sweep C (o s) (after C o h s)

-- v holds the FIRST pair in row-major order with the greatest score, worked out afresh from the calls and the haplotypes h
pub record Stands (C : SweepCase) (h : List ℕ) (v : ℕ) : Type 0 where
  -- no pair scores more than the one left
  pub most : (i j : ℕ) → i < C.k v → j < C.k v → score_with C v h i j ≤ℤ score_with C v h (allele0 h v) (allele1 h v)
  -- every earlier pair scores less
  pub first : (i j : ℕ) → i < C.k v → j < C.k v → i * C.k v + j < pair_number C h v
      → score_with C v h i j <ℤ score_with C v h (allele0 h v) (allele1 h v)

-- how the run ends; sweeps are numbered from 0, and `last` is the last one
pub record Ends (C : SweepCase) (o : ℕ → List ℕ) (limit : ℕ) (h : List ℕ) (r : RunResult) : Type 0 where
  pub last : ℕ
  -- the sweep count includes the last sweep
  pub counted : r.sweeps ≡ suc last
  -- the first sweep starts from h, each later one from what the last left
  pub reached : r.haps ≡ after C o h (suc last)
  -- settled exactly when the last sweep changed nothing
  pub quiet : r.settled ≡ same_haps (after C o h last) (after C o h (suc last))
  -- every earlier sweep changed something
  pub earlier : (q : ℕ) → q < last → T (not (same_haps (after C o h q) (after C o h (suc q))))
  pub within : r.sweeps ≤ limit
  -- unsettled only at the limit
  pub used_up : T (not r.settled) → r.sweeps ≡ limit

-- demand 3, whole
pub record Demand3 (C : SweepCase) (o : ℕ → List ℕ) (limit : ℕ) (h : List ℕ) (r : RunResult) : Type 0 where
  -- the phased total never falls
  pub gains : phased_total C h ≤ℤ phased_total C r.haps
  -- sweeps ≤ 9 × gain + 8 × phased variants + 2
  pub bounded : pos r.sweeps ≤ℤ (pos 9 *ℤ (phased_total C r.haps -ℤ phased_total C h) +ℤ pos (8 * phased_count C + 2))
  pub ends : Ends C o limit h r
  -- of a settled run every variant, phased or not, holds the first pair with the greatest score
  pub stands : T r.settled → (v : ℕ) → v < C.n → Stands C r.haps v
