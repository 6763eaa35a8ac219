-- The first variant that is not right is the place.
use Rattle.std.proofs.Common.{arith, rules, tests}
use Rattle.std.proofs.lemmas.Option.{MatchOption-at_none}
use Rattle.variants_and_fragments.proofs.Outcomes.{FirstFault, first_is, fault_found, no_fault}
use Rattle.variants_and_fragments.specs.First.{first_fail}
use Rattle.variants_and_fragments.specs.Layout.{variant_ok}
use Rattle.variants_and_fragments.proofs.First.{all_from}
use Rattle.variants_and_fragments.proofs.Records.{variants_in}
use Rattle.variants_and_fragments.proofs.variants.check_variants.Goals as goal
use Rattle.variants_and_fragments.proofs.variants.check_variants.Goals.{After-first_fault}

first : (c : After-first_fault) → FirstFault (variant_ok c.args.laid.now.words.now c.args.haplotypes.now) 0 c.args.laid.now.sizes.n c.first_fault.result
first c = first_is _ _ _ _ _ _ c.first_fault.ensures (λ v called. search (rules, tests)) (λ v called. search (rules, tests))

pub returns-in-Some-clause-outcome : goal.returns-in-Some-clause-outcome
returns-in-Some-clause-outcome c = fault_found 2 _ 0 _ _ _ (omega arith) _ (first (goal.at.returns-in-Some-clause-outcome c).After-first_fault) c.in-Some.v c.in-Some.is

pub invariant_of-result : goal.invariant_of-result
unfolding first_fail
invariant_of-result c =
    let right = variant_ok c.args.laid.now.words.now c.args.haplotypes.now in
    let all = MatchOption-at_none _ _ c.in-None.is (first (goal.at.invariant_of-result c).After-first_fault) in
    record { variants_in = variants_in _ c.args.haplotypes.now _ (omega (arith, all_from right 0 c.args.laid.now.sizes.n (λ j lo l. all j lo (omega arith)))) }

pub returns-in-None-clause-outcome : goal.returns-in-None-clause-outcome
returns-in-None-clause-outcome c = no_fault 2 _ 0 _ _ _ (omega arith) _ (first (goal.at.returns-in-None-clause-outcome c).After-first_fault) c.in-None.is
