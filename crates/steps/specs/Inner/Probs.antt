-- 01, section 1: ln(0.5) is −4,096, ln(0.25) is −8,192.
-- Assumes nothing.
use Rattle.std.specs.Prelude.{◌≡◌, cond, ◌⊎◌, ℤ, negsuc, from_bits, Float}
use Rattle.std.specs.Float.{binary64}
use Rattle.std.specs.Float.Ieee.{eq}

-- 0.5
unfoldable pub half : Float
half = from_bits binary64 0x3fe0000000000000

-- 0.25
unfoldable pub quarter : Float
quarter = from_bits binary64 0x3fd0000000000000

-- the two probabilities that the core takes the logarithm of
abbrev pub Known : Float → Type 0
Known p = (p ≡ half) ⊎ (p ≡ quarter)

-- ln of one of the two
unfoldable pub ln_of : Float → ℤ
ln_of p = cond (eq p half) (negsuc 4095) (negsuc 8191)
