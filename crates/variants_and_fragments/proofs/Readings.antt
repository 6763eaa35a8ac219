-- An i32 as its number: what its range says of the number, and a number taken from 0.
-- Assumes nothing.
use mathlib.Core.Path.{◌≡◌, refl}
use mathlib.Core.Bool.{true, false}
use Prim.Native.Nat.{ℕ, zero, suc, ◌≤◌, ◌<◌, ◌^◌}
use native.Mathlib.Omega.{arith}
use borrow.Author.Tests.{le-leb, leb-true}
use lib.IntN.{ℤ, pos, negsuc, neg_ℤ, ◌-ℤ◌, +ℤ_idl}
use lib.Dec.{lit<}
use lib.Signed.{mag, le_z}
use mir.Syntax.{w32, w64}
use mir.Val.{SFits, to_z}
use mir.Facts.{to_z_pos}
use Rattle.variants_and_fragments.specs.Words.{within, none, nat_of}
use Rattle.variants_and_fragments.specs.Layout.{lowest_quality}
use Rattle.variants_and_fragments.specs.Inner.Sums.{DownTo}
use Rattle.variants_and_fragments.proofs.Bools.{both, true_false}

-- ---- what a signed range says in ℕ
-- numbers keep the order of words that are not negative, and an i32 keeps them below 2^31
pub nat_le : (y z : ℤ) → le_z (pos 0) y ≡ true → le_z y z ≡ true → nat_of y ≤ nat_of z
nat_le (pos m) (pos n) h l = leb-true m n l
nat_le (pos m) (negsuc n) h l = let z : ◌≡◌ {A = ℕ} 0 1 = cc in absurd (omega arith)
nat_le (negsuc m) z h l = let z : ◌≡◌ {A = ℕ} 0 1 = cc in absurd (omega arith)

pub nat_top : (z : ℤ) → SFits w32 z → le_z (pos 0) z ≡ true → nat_of z < 2147483648
nat_top (pos n) f h = f.sfits
nat_top (negsuc n) f h = let z : ◌≡◌ {A = ℕ} 0 1 = cc in absurd (omega arith)

-- a quality, and the cutoff, lie in −262144..0
pub quality_down : (z : ℤ) → within lowest_quality (pos 0) z ≡ true → DownTo 262144 z
unfolding within
quality_down z h = let b = both (le_z lowest_quality z) (le_z z (pos 0)) h in record { low = b.0; high = b.1 }

-- ---- a number taken from 0, at 64 bits
module _ (x : ℕ) (h : x ≤ 4294967296) where
  pub minus_is : pos 0 -ℤ to_z w64 x ≡ neg_ℤ (pos x)
  minus_is = rw (to_z_pos w64 {n = x} (omega arith)) (+ℤ_idl (neg_ℤ (pos x)))

  neg_mag : (n : ℕ) → n ≤ 4294967296 → mag (neg_ℤ (pos n)) < 2 ^ 63
  neg_mag zero l = lit< tt
  neg_mag (suc n) l = omega arith

  pub minus_fits : SFits w64 (pos 0 -ℤ to_z w64 x)
  minus_fits = rw minus_is (record { sfits = neg_mag x h })

-- a negative word is no number of a record
pub absent_none : (z : ℤ) → le_z (pos 0) z ≡ false → nat_of z ≡ none
absent_none (pos n) h = true_false (le-leb 0 n (omega arith)) h
absent_none (negsuc n) h = refl
