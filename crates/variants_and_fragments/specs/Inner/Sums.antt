-- Numbers in −n..0. Assumes nothing.
use Rattle.std.specs.Prelude.{◌≡◌, true, ℕ, ℤ, pos, neg_ℤ}
use Rattle.std.specs.Int.Signed.{le_z}

-- z lies in −n..0
pub record DownTo (n : ℕ) (z : ℤ) : Type 0 where
  pub low : le_z (neg_ℤ (pos n)) z ≡ true
  pub high : le_z z (pos 0) ≡ true
