-- `Number::natural` meets its contract: a sign is allowed in front of zeros alone. Assumes nothing.
use Rattle.std.proofs.Common.{◌^◌, ◌<◌, rules}
use Rattle.protocol.specs.Inner.State.{u64_in, natural, is_natural}
use Rattle.protocol.proofs.Conversions.{natural_is}
use Rattle.protocol.proofs.number.Number.natural.Goals as goal

pub returns-in_err-value : goal.returns-in_err-value
unfolding u64_in natural is_natural
returns-in_err-value c = search rules

pub returns : goal.returns
unfolding u64_in
returns c =
    let fits : c.in_ok-value.value < 2 ^ 64 = search rules in
    natural_is c.args.self c.in_ok-value.value c.in_ok-value.was fits _ c.then_some.ensures
