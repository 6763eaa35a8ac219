-- What the tests pass is an arrival that is right.
use Rattle.std.proofs.Common.{sym}
use Rattle.variants_and_fragments.proofs.Outcomes.{exit_is}
use Rattle.late_reads.proofs.ArrivalTests.{tests_past}
use Rattle.late_reads.proofs.arriving.test_arrival.Goals as goal

pub returns-in_err-arriving_fault-clause-outcome : goal.returns-in_err-arriving_fault-clause-outcome
returns-in_err-arriving_fault-clause-outcome c = rw (exit_is c.from_residual.ensures.1) c.in_err-arriving_fault.ensures

pub invariant_of-result : goal.invariant_of-result
invariant_of-result c = record { arriving = (tests_past _ _ _ _ _ _ (sym c.in_ok-arriving_fault.ensures)).1 }
