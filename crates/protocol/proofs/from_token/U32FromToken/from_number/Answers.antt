-- The conversion from a u64 meets the contract. Assumes nothing.
use Rattle.std.proofs.Common.{◌^◌, arith}
use Rattle.protocol.specs.Inner.State.{u64_in, u32_in}
use Rattle.protocol.proofs.Conversions.{converted, converted_none}
use Rattle.protocol.proofs.from_token.U32FromToken.from_number.Goals as goal

pub returns-in_err-natural : goal.returns-in_err-natural
unfolding u64_in u32_in
returns-in_err-natural c = converted_none (2 ^ 32) c.args.number (omega arith) c.in_err-natural.ensures c.from_residual.ensures

pub returns : goal.returns
unfolding u64_in u32_in
returns c = converted (2 ^ 32) c.args.number (omega arith) _ c.in_ok-natural.ensures _ c.try_from.ensures c.ok.ensures.value
