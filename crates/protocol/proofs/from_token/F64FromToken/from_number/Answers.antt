-- The f64 of a pattern meets the contract. Assumes nothing.
use Rattle.std.proofs.Common.{◌^◌, Some, arith}
use lib.Ieee.{binary64, of_bits}
use Rattle.protocol.specs.Inner.State.{u64_in, f64_in}
use Rattle.protocol.proofs.Conversions.{narrow_none, narrow_some, natural_fits}
use Rattle.protocol.proofs.from_token.F64FromToken.from_number.Goals as goal

pub returns-in_err-natural : goal.returns-in_err-natural
unfolding u64_in f64_in
returns-in_err-natural c = rw c.from_residual.ensures (narrow_none (2 ^ 64) (of_bits binary64) c.args.number (omega arith) c.in_err-natural.ensures)

pub returns : goal.returns
unfolding u64_in f64_in
returns c =
    narrow_some (2 ^ 64) (of_bits binary64) c.args.number (omega arith) c.in_ok-natural.field-0 c.in_ok-natural.ensures (Some c.from_pattern.result) (natural_fits c.args.number c.in_ok-natural.field-0 c.in_ok-natural.ensures, c.from_pattern.ensures)
