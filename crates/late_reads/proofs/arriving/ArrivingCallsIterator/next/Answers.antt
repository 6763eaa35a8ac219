-- The next call is the first of those left, where there are four words.
use Rattle.std.proofs.Common.{sym, ap, ◌∙◌, length, arith}
use Rattle.late_reads.proofs.ReadCalls.{arriving_more, arriving_out}
use Rattle.late_reads.proofs.arriving.ArrivingCallsIterator.next.Goals as goal

pub returns-in_err-rest-clause-steps : goal.returns-in_err-rest-clause-steps
returns-in_err-rest-clause-steps c = let e = sym c.self.view_is ∙ arriving_out _ c.in_err-rest.ensures.cases in rw c.from_residual.ensures (e, e)

pub returns-clause-steps : goal.returns-clause-steps
returns-clause-steps c = rw (c.call-call.ensures, c.in_ok-rest.ensures.cases.1) (sym c.self.view_is ∙ arriving_more _ (omega (arith, c.in_ok-rest.ensures.cases.2)))

pub returns-clause-goes : goal.returns-clause-goes
returns-clause-goes c =
    let step = returns-clause-steps c in
    record { on = λ _. (tt, tt, omega (arith, ap length step)); keeps = tt; rests = λ _. tt }
