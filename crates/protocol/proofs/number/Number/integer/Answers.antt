-- `Number::integer` meets its contract: a size fits by its sign. Assumes nothing.
use Rattle.std.proofs.Common.{◌≡◌, Some, is_some, pos, neg_ℤ, ◌-ℤ◌, sym, ◌∙◌, ap, refl, rules}
use lib.IntN.{+ℤ_idl}
use Rattle.protocol.specs.Inner.State.{i64_in, integral, with_sign, size}
use Rattle.protocol.proofs.Conversions.{integral_is, ok_some}
use Rattle.protocol.proofs.number.Number.integer.Goals as goal

pub returns-in_err-value : goal.returns-in_err-value
unfolding i64_in integral
returns-in_err-value c = search rules

pub returns-then-self : goal.returns-then-self
unfolding i64_in with_sign
returns-then-self c =
    let some : c.args.self.value ≡ Some c.in_ok-value.value = c.in_ok-value.was in
    let sign : with_sign c.args.self.negative (size c.args.self) ≡ neg_ℤ (pos c.in_ok-value.value) = rw (some, c.if-self.true) refl in
    integral_is 9223372036854775807 c.args.self (ap is_some some) (pos 0 -ℤ pos c.in_ok-value.value) (+ℤ_idl (neg_ℤ (pos c.in_ok-value.value)) ∙ sym sign) _
    (λ f. f.sfits) (λ m. record { sfits = m }) c.checked_sub_unsigned.result c.checked_sub_unsigned.ensures

pub returns-else-self : goal.returns-else-self
unfolding i64_in with_sign
returns-else-self c =
    let some : c.args.self.value ≡ Some c.in_ok-value.value = c.in_ok-value.was in
    let sign : with_sign c.args.self.negative (size c.args.self) ≡ pos c.in_ok-value.value = rw (some, c.if-self.false) refl in
    rw c.ok.ensures.value
    (integral_is 9223372036854775807 c.args.self (ap is_some some) (pos c.in_ok-value.value) (sym sign) _
    (λ f. f.sfits) (λ m. record { sfits = m }) _ (ok_some _ _ _ c.try_from.ensures))
