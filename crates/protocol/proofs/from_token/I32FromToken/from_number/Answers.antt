-- The conversion from an i64 meets the contract. Assumes nothing.
use Rattle.std.proofs.Common.{◌≡◌, arith, to_z, of_z, to_z-of_z, w64}
use Rattle.protocol.specs.Inner.State.{i64_in, i32_in}
use Rattle.protocol.proofs.Conversions.{shorten_none, shorten_some, integral_fits, ok_some}
use Rattle.protocol.proofs.from_token.I32FromToken.from_number.Goals as goal

pub returns-in_err-integer : goal.returns-in_err-integer
unfolding i64_in i32_in
returns-in_err-integer c =
    rw c.from_residual.ensures
    (shorten_none 9223372036854775807 2147483647 (omega arith) c.args.number c.in_err-integer.ensures)

pub returns : goal.returns
unfolding i64_in i32_in
returns c =
    let z = c.in_ok-integer.field-0 in
    let back : to_z w64 (of_z w64 z) ≡ z = to_z-of_z {w = w64} (record { sfits = integral_fits 9223372036854775807 c.args.number z c.in_ok-integer.ensures }) in
    rw c.ok.ensures.value
    (shorten_some 9223372036854775807 2147483647 (omega arith) c.args.number z c.in_ok-integer.ensures _
    (λ f. f.sfits) (λ m. record { sfits = m }) _ (ok_some _ _ _ (rw back at c.try_from.ensures)))
