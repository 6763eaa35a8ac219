-- `float::is_nan` meets its contract: a NaN's pattern is above an infinity's. Assumes nothing.
use Rattle.std.proofs.Common.{sym}
use lib.Ieee.{binary64, to_bits, of_bits}
use lib.Ieee.Bits.{nan_bits_above}
use Rattle.protocol.proofs.float.is_nan.Goals as goal

pub returns : goal.returns
unfolding to_bits of_bits
returns c = sym (nan_bits_above binary64 c.args.bits)
