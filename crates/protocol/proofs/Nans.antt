-- The one float that is a NaN. Assumes nothing.
use Rattle.std.proofs.Common.{◌≡◌, true, refl}
use mathlib.Core.Bool.{false≢true}
use lib.Ieee.{Float, nan, inf, fin, is_nan}

pub is_nan_lem : (x : Float) → is_nan x ≡ true → nan ≡ x
unfolding is_nan
is_nan_lem nan h = refl
is_nan_lem (inf s) h = absurd (false≢true h)
is_nan_lem (fin s m e) h = absurd (false≢true h)
