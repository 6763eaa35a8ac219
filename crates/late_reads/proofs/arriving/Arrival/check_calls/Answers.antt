-- The first call that is not right is the place.
use Rattle.std.proofs.Common.{arith, rules, tests}
use Rattle.variants_and_fragments.proofs.Outcomes.{FirstFault, first_is, fault_found, no_fault}
use Rattle.late_reads.specs.Arriving.{arriving_ok}
use Rattle.late_reads.proofs.arriving.Arrival.check_calls.Goals as goal
use Rattle.late_reads.proofs.arriving.Arrival.check_calls.Goals.{After-first_fault}

first : (c : After-first_fault) → FirstFault (arriving_ok c.args.case.now.laid.words.now c.args.case.now.laid.sizes c.args.self.now.calls.now) 0 c.count.result c.first_fault.result
unfolding arriving_ok
first c = first_is _ _ _ _ _ _ c.first_fault.ensures (λ i called. search (rules, tests)) (λ i called. search (rules, tests))

pub returns-in-Some : goal.returns-in-Some
returns-in-Some c = fault_found 4 _ 0 _ _ _ (omega (arith, c.count.ensures)) _ (first (goal.at.returns-in-Some c).After-first_fault) c.in-Some.i c.in-Some.is

pub returns-in-None : goal.returns-in-None
returns-in-None c = no_fault 4 _ 0 _ _ _ (omega (arith, c.count.ensures)) _ (first (goal.at.returns-in-None c).After-first_fault) c.in-None.is
