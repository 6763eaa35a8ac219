-- `Number::grow` meets its contract: the two tests are one, that the grown number is below 2^64. Assumes nothing.
use Rattle.std.proofs.Common.{◌≡◌, ◌+◌, ◌-◌, ◌*◌, arith}
use Rattle.protocol.proofs.Digits.{digit_low}
use Rattle.protocol.specs.Inner.State.{size}
use Rattle.protocol.specs.Inner.Tokens.{grown_large, grown_value}
use Rattle.protocol.proofs.number.Number.grow.Goals as goal

pub returns-in_err-tens : goal.returns-in_err-tens
returns-in_err-tens c =
    rw c.from_residual.ensures (grown_large c.args.self (size c.args.self * 10 + (c.args.b - 48)) (grind (arith, c.in_err-tens.ensures)))

pub overflow_sub-b : goal.overflow_sub-b
overflow_sub-b c = digit_low c.args.b c.requires

pub returns-in_err-value : goal.returns-in_err-value
returns-in_err-value c =
    rw c.from_residual-in_err-value.ensures
    (grown_large c.args.self (size c.args.self * 10 + (c.args.b - 48)) (grind (arith, c.in_err-value.ensures, c.in_ok-tens.ensures)))

pub returns : goal.returns
returns c =
    (let e : c.in_ok-value.value ≡ size c.args.self * 10 + (c.args.b - 48) = omega (arith, c.in_ok-value.ensures, c.in_ok-tens.ensures) in
    rw e (grown_value c.args.self (size c.args.self * 10 + (c.args.b - 48)) (omega (arith, c.in_ok-value.ensures, c.in_ok-tens.ensures))))
