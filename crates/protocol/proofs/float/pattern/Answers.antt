-- `float::pattern` meets its contract: the NaN has the one pattern. Assumes nothing.
use Rattle.std.proofs.Common.{◌≡◌, true, sym, refl, ◌∙◌}
use lib.Ieee.{to_bits, is_nan}
use Rattle.protocol.proofs.Nans.{is_nan_lem}
use Rattle.protocol.proofs.float.pattern.Goals as goal

pub returns-then-is_nan : goal.returns-then-is_nan
unfolding to_bits
returns-then-is_nan c =
    let nan : is_nan c.args.x ≡ true = sym c.is_nan.ensures.value ∙ c.if-is_nan.true in
    rw (← is_nan_lem c.args.x nan) refl
