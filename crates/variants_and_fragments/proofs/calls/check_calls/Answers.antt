-- A record that is marked is tested, and no other; the first that is not right is the place.
use Rattle.std.proofs.Common.{◌+◌, arith, rules, tests}
use Rattle.variants_and_fragments.specs.Chain.{reached_call_ok}
use Rattle.variants_and_fragments.proofs.Outcomes.{FirstFault, first_is, first_same, fault_found, no_fault}
use Rattle.variants_and_fragments.proofs.Reach.{call_tested}
use Rattle.variants_and_fragments.proofs.calls.check_calls.Goals as goal
use Rattle.variants_and_fragments.proofs.calls.check_calls.Goals.{After-first_fault}

first : (c : After-first_fault) → FirstFault (reached_call_ok c.args.known.now.laid.words.now c.args.known.now.laid.sizes) 1 (c.args.known.now.laid.sizes.used + 1) c.first_fault.result
first c =
    let z = c.args.known.now.laid.sized in
    first_same _ _ _ _ _ (first_is _ _ _ _ _ _ c.first_fault.ensures (λ r called. search (rules, tests)) (λ r called. search (rules, tests)))
    (λ r lo hi. call_tested _ _ _ c.requires r (omega (arith, z.used_top, z.c_top)))

pub returns-in-Some : goal.returns-in-Some
returns-in-Some c = fault_found 4 _ 1 _ _ _ (omega arith) _ (first (goal.at.returns-in-Some c).After-first_fault) c.in-Some.r c.in-Some.is

pub returns-in-None : goal.returns-in-None
returns-in-None c = no_fault 4 _ 1 _ _ _ (omega arith) _ (first (goal.at.returns-in-None c).After-first_fault) c.in-None.is
