-- Where the allele bytes of a variant start, and that each byte is a base.
-- Assumes nothing.
use mathlib.Core.Path.{◌≡◌, subst}
use mathlib.Core.Bool.{true}
use mathlib.Core.List.{List}
use Prim.Native.Nat.{ℕ, zero, suc, ◌+◌, ◌-◌, ◌≤◌, ◌<◌}
use native.Mathlib.Nat.{le_refl}
use native.Mathlib.Omega.{arith}
use native.Mathlib.Numerals.{add-one}
use native.Mathlib.Decide.{dec_lt}
use lib.ListN.{get_or}
use lib.IntN.{ℤ}
use Rattle.variants_and_fragments.specs.Alleles.{alleles_length, alleles_start, is_base, base_ok_at, alleles_ok}
use Rattle.variants_and_fragments.proofs.First.{all_below}

pub off_on : (w : List ℤ) (v : ℕ) → alleles_start w v + alleles_length w v ≡ alleles_start w (v + 1)
unfolding alleles_start
off_on w v = rw (add-one v)

off_add : (w : List ℤ) (v d : ℕ) → alleles_start w v ≤ alleles_start w (v + d)
unfolding alleles_start
off_add w v zero = let e : v + 0 ≡ v = omega arith in rw e (le_refl _)
off_add w v (suc d) = let e : v + suc d ≡ suc (v + d) = omega arith in rw e (omega (arith, off_add w v d))

pub off_le : (w : List ℤ) (v n : ℕ) → v ≤ n → alleles_start w v ≤ alleles_start w n
off_le w v n h = let e : v + (n - v) ≡ n = omega arith in rw e at (off_add w v (n - v))

-- where each variant's bytes are bases, each byte is one
pub base_at : (w : List ℤ) (b : List ℕ) (n : ℕ) → ((v : ℕ) → v < n → alleles_ok w b v ≡ true) → (i : ℕ) → i < alleles_start w n → is_base (get_or b i 0) ≡ true
unfolding alleles_start alleles_ok
base_at w b zero h i l = absurd (omega arith)
base_at w b (suc n) h i l = elim (dec_lt i (alleles_start w n)) [
  | yes m ↦ base_at w b n (λ v k. h v (omega arith)) i m
  | no m ↦
      let q : alleles_start w n + (i - alleles_start w n) ≡ i = omega arith in
      subst (λ (x : ℕ). is_base (get_or b x 0) ≡ true) q (all_below (base_ok_at b (alleles_start w n)) (alleles_length w n) (h n (omega arith)) (i - alleles_start w n) (omega arith))
]
