-- A number times 1 or −1: no larger, itself, or its negative. Assumes nothing.
use mathlib.Core.Path.{◌≡◌, ap, ◌∙◌}
use Prim.Native.Nat.{ℕ, zero, suc, ◌^◌, ◌≤◌}
use native.Mathlib.Nat.{one-mul}
use native.Mathlib.Omega.{arith}
use lib.IntN.{ℤ, pos, negsuc, neg_ℤ, nat_abs, ◌+ℤ◌, ◌-ℤ◌, ◌*ℤ◌}
use mir.Syntax.{w64}
use mir.Val.{SFits, to_z, of_z}
use Rattle.steps.specs.Logs.{mix_of}
use Rattle.steps.proofs.Signed.{neg_abs, times_abs, read_small, sfits, plus_fits, plus_read}

pub times_one : (z : ℤ) → pos 1 *ℤ z ≡ z
times_one (pos n) = ap pos (one-mul n)
times_one (negsuc n) = ap (λ (m : ℕ). neg_ℤ (pos m)) (one-mul (suc n))

pub times_less : (z : ℤ) → negsuc 0 *ℤ z ≡ neg_ℤ z
times_less (pos n) = ap (λ (m : ℕ). neg_ℤ (pos m)) (one-mul n)
times_less (negsuc n) = ap pos (one-mul (suc n))

times_small : (d z : ℤ) → nat_abs d ≤ 1 → nat_abs (d *ℤ z) ≤ nat_abs z
times_small (pos zero) z h = omega (arith, times_abs 0 z)
times_small (pos (suc zero)) z h = omega (arith, ap nat_abs (times_one z))
times_small (pos (suc (suc n))) z h = absurd (omega arith)
times_small (negsuc zero) z h = omega (arith, ap nat_abs (times_less z), neg_abs z)
times_small (negsuc (suc n)) z h = absurd (omega arith)

-- the machine's total with d times a share more
module _ (total share d : ℤ) (t : nat_abs total ≤ 2 ^ 40) (h : nat_abs share ≤ 2 ^ 41) (one : nat_abs d ≤ 1) where
  d_read : to_z w64 (of_z w64 d) ≡ d
  d_read = read_small w64 d (omega arith)

  share_read : to_z w64 (of_z w64 share) ≡ share
  share_read = read_small w64 share (omega arith)

  low : nat_abs (d *ℤ share) ≤ 2 ^ 41
  low = omega (arith, times_small d share one)

  pub product_fits : SFits w64 (to_z w64 (of_z w64 d) *ℤ to_z w64 (of_z w64 share))
  product_fits = rw (d_read, share_read) (sfits w64 (d *ℤ share) (omega (arith, low)))

  product_read : to_z w64 (of_z w64 d) *ℤ to_z w64 (of_z w64 share) ≡ d *ℤ share
  product_read = rw (d_read, share_read)

  pub moved_fits : SFits w64 (to_z w64 (of_z w64 total) +ℤ to_z w64 (of_z w64 (to_z w64 (of_z w64 d) *ℤ to_z w64 (of_z w64 share))))
  moved_fits = rw product_read (plus_fits w64 total (d *ℤ share) (omega (arith, low)))

  pub moved_read : to_z w64 (of_z w64 (to_z w64 (of_z w64 total) +ℤ to_z w64 (of_z w64 (to_z w64 (of_z w64 d) *ℤ to_z w64 (of_z w64 share))))) ≡ total +ℤ (d *ℤ share)
  moved_read = rw product_read (plus_read w64 total (d *ℤ share) (omega (arith, low)))

-- the new total, where a read's share comes and where it goes
module _ (total : ℤ) {sum share a b x y : ℤ} (m : share ≡ mix_of a b) (p : a ≡ x) (q : b ≡ y) where
  pub total_more : sum ≡ total +ℤ (pos 1 *ℤ share) → sum ≡ total +ℤ mix_of x y
  total_more e = e ∙ ap (λ (z : ℤ). total +ℤ z) (times_one share ∙ m ∙ cc (p, q))

  pub total_less : sum ≡ total +ℤ (negsuc 0 *ℤ share) → sum ≡ total -ℤ mix_of x y
  total_less e = e ∙ ap (λ (z : ℤ). total +ℤ z) (times_less share ∙ ap neg_ℤ (m ∙ cc (p, q)))
