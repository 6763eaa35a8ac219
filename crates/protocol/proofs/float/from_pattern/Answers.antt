-- `float::from_pattern` meets its contract: a NaN's pattern stands for the one NaN, which 0.0 / 0.0 is. Assumes nothing.
use Rattle.std.proofs.Common.{sym, ◌∙◌}
use lib.Ieee.{binary64, div, of_bits}
use lib.Ieee.Bits.{nan_bits_is}
use Rattle.protocol.proofs.Nans.{is_nan_lem}
use Rattle.protocol.proofs.float.from_pattern.Goals as goal

pub returns-then-is_nan : goal.returns-then-is_nan
unfolding div of_bits
returns-then-is_nan c =
    is_nan_lem (of_bits binary64 c.args.bits)
    (sym (nan_bits_is binary64 c.args.bits) ∙ sym c.is_nan.ensures ∙ c.if-is_nan.true)
