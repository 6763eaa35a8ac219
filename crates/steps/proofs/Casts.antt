-- A signed number's negation at 64 bits, and its exact cast to an f64, for numbers of size below 2^53.
-- Assumes nothing.
use Rattle.std.proofs.Common.{◌≡◌, ◌^◌, ◌<◌, T, ℤ, pos, negsuc, ◌-ℤ◌, neg_ℤ, nat_abs, ◌∙◌, le_of_lt, arith, w64, SFits, to_z, of_z}
use lib.IntN.{+ℤ_idl}
use lib.Ieee.{binary64, in_float}
use mir.Facts.{yes_ltb, yes_leb}
use Rattle.steps.proofs.Signed.{minus_fits, minus_read, neg_abs}

pub small_float : (z : ℤ) → nat_abs z < 2 ^ 53 → T (in_float binary64 z)
unfolding in_float
small_float (pos n) h = yes_leb (le_of_lt h)
small_float (negsuc n) h = let l : n < 2 ^ 53 = omega arith in yes_ltb l

-- what `-z` is, at z's own bits
module _ (z : ℤ) (small : nat_abs z < 2 ^ 53) where
  pub neg_fits : SFits w64 (pos 0 -ℤ to_z w64 (of_z w64 z))
  neg_fits = minus_fits w64 (pos 0) z (omega arith)

  pub neg_read : to_z w64 (of_z w64 (pos 0 -ℤ to_z w64 (of_z w64 z))) ≡ neg_ℤ z
  neg_read = minus_read w64 (pos 0) z (omega arith) ∙ +ℤ_idl (neg_ℤ z)

  pub neg_float : T (in_float binary64 (to_z w64 (of_z w64 (pos 0 -ℤ to_z w64 (of_z w64 z)))))
  neg_float = rw neg_read (small_float (neg_ℤ z) (omega (arith, neg_abs z)))
