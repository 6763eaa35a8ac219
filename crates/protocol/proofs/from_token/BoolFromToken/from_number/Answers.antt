-- A flag meets the contract: 0 or 1, and nothing else. Assumes nothing.
use Rattle.std.proofs.Common.{true, false, eqb, Some, None, sym, arith, ap, rules}
use Rattle.protocol.specs.Inner.State.{u64_in, bool_in}
use Rattle.protocol.proofs.Conversions.{narrow_none, narrow_some}
use Rattle.protocol.proofs.from_token.BoolFromToken.from_number.Goals as goal

pub returns-in_err-natural : goal.returns-in_err-natural
unfolding u64_in bool_in
returns-in_err-natural c = rw c.from_residual.ensures (narrow_none 2 (λ n. eqb n 1) c.args.number (omega arith) c.in_err-natural.ensures)

pub returns-in-0 : goal.returns-in-0
unfolding u64_in bool_in
returns-in-0 c =
    narrow_some 2 (λ n. eqb n 1) c.args.number (omega arith) c.in_ok-natural.field-0 c.in_ok-natural.ensures (Some false)
    (omega (arith, c.in-0.is), sym (ap (λ n. eqb n 1) c.in-0.is))

pub returns-in-1 : goal.returns-in-1
unfolding u64_in bool_in
returns-in-1 c =
    narrow_some 2 (λ n. eqb n 1) c.args.number (omega arith) c.in_ok-natural.field-0 c.in_ok-natural.ensures (Some true)
    (omega (arith, c.in-1.is), sym (ap (λ n. eqb n 1) c.in-1.is))

pub returns-in_default : goal.returns-in_default
unfolding u64_in bool_in
returns-in_default c =
    narrow_some 2 (λ n. eqb n 1) c.args.number (omega arith) c.in_ok-natural.field-0 c.in_ok-natural.ensures None (search rules)
