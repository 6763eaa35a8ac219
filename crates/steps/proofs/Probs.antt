-- The two logarithms of document 01, section 1, computed.
-- Assumes nothing.
use Rattle.std.proofs.Common.{◌≡◌, negsuc, refl}
use lib.Ieee.{eq, of_bits}
use Rattle.steps.specs.Inner.Probs.{half, quarter, ln_of}

pub ln_half_lem : ln_of half ≡ negsuc 4095
unfolding ln_of half eq of_bits
ln_half_lem = refl

pub ln_quarter_lem : ln_of quarter ≡ negsuc 8191
unfolding ln_of half quarter eq of_bits
ln_quarter_lem = refl
