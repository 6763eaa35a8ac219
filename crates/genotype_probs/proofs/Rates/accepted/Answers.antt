-- The first rate that is out of its range, or the sum.
use Rattle.std.proofs.Common.{◌≡◌, ℕ, ◌<◌, true, false, pos, ◌∙◌, arith, rules, tests}
use Rattle.std.specs.Prelude.{Option, None, Some, MatchOption}
use Rattle.std.specs.List.{AllWithin, HoldsAt}
use Rattle.std.proofs.lemmas.Iterator.{IsFirst-from_position, YieldsList-from_slice}
use Rattle.std.proofs.lemmas.Option.{MatchOption-at_some, MatchOption-at_none}
use native.Mathlib.Decide.{ℕ_discrete}
use lib.Signed.{lt_z}
use Rattle.steps.specs.declared.LogProb.{LogProb}
use Rattle.variants_and_fragments.proofs.Outcomes.{FirstFault, each_fails, each_holds}
use Rattle.genotype_probs.specs.declared.Rates.{Rates}
use Rattle.genotype_probs.specs.Rates.{rate_ok, rate_sum, rate_tests, rate_test}
use Rattle.genotype_probs.proofs.Maxima.{lt_test}
use Rattle.genotype_probs.proofs.RateLaws.{six_rates, six_tests, last_test, all_accepted}
use Rattle.genotype_probs.proofs.Rates.accepted.Goals as goal
use Rattle.genotype_probs.proofs.Rates.accepted.Goals.{After-position}

-- the first fault of the six, from what is said of their list
of_list : (rates : Rates) (found : Option ℕ)
    → MatchOption found (AllWithin (λ r. rate_ok r.0 ≡ true) (six_rates rates) 0 6) (λ p. (p < 6) × HoldsAt (λ r. rate_ok r.0 ≡ false) (six_rates rates) p × AllWithin (λ r. rate_ok r.0 ≡ true) (six_rates rates) 0 p)
    → FirstFault (rate_test rates) 0 6 found
of_list rates None h = λ j lo hi. six_tests rates j rates.ts hi ∙ h j rates.ts lo hi
of_list rates (Some p) h = (omega arith, h.0, six_tests rates p rates.ts h.0 ∙ h.1 rates.ts, λ j lo hi. six_tests rates j rates.ts (omega (arith, h.0)) ∙ h.2 j rates.ts lo hi)

first : (c : After-position) → FirstFault (rate_test c.args.self) 0 6 c.position.result
first c =
    of_list c.args.self c.position.result
    (IsFirst-from_position _ _ c.position.result (λ (r : LogProb). rate_ok r.0 ≡ false) (λ (r : LogProb). rate_ok r.0 ≡ true) c.position.ensures.ran (YieldsList-from_slice _ c.iter.ensures.rest)
    (λ x q called. search (rules, tests)) (λ x q called. search (rules, tests)))

-- where there is none, six tests hold
six : (c : After-position) → c.position.result ≡ None → (p : ℕ) → p < 6 → rate_test c.args.self p ≡ true
six c none p m = MatchOption-at_none _ _ none (first c) p (omega arith) m

pub rate_sum-requires : goal.rate_sum-requires
unfolding rate_test rate_tests
rate_sum-requires c =
    let h = six (goal.at.rate_sum-requires c).After-position c.in_default.is in
    (h 0 (omega arith), h 1 (omega arith), h 2 (omega arith), h 3 (omega arith))

pub returns-in-Some-clause-outcome : goal.returns-in-Some-clause-outcome
returns-in-Some-clause-outcome c =
    let f = MatchOption-at_some _ _ _ c.in-Some.is (first (goal.at.returns-in-Some-clause-outcome c).After-position) in
    each_fails 6 (rate_test c.args.self) 0 7 _ c.in-Some.place f.0 (omega (arith, f.1)) f.3 f.2

-- six tests and the seventh
seven : (rates : Rates) → ((p : ℕ) → p < 6 → rate_test rates p ≡ true) → lt_z (rate_sum rates) (pos 0) ≡ true → (p : ℕ) → p < 7 → rate_test rates p ≡ true
seven rates h t p m = elim (ℕ_discrete p 6) [ yes e ↦ rw e (last_test rates ∙ t) | no e ↦ h p (omega arith) ]

pub invariant_of-result : goal.invariant_of-result
invariant_of-result c =
    let t : lt_z (rate_sum c.args.self) (pos 0) ≡ true = cc (lt_test (rate_sum c.args.self) (pos 0)) in
    record { accepted = all_accepted c.args.self (seven c.args.self (six (goal.at.invariant_of-result c).After-position c.in_default.is) t) }

pub returns-then-below-clause-outcome : goal.returns-then-below-clause-outcome
returns-then-below-clause-outcome c =
    let t : lt_z (rate_sum c.args.self) (pos 0) ≡ true = cc (lt_test (rate_sum c.args.self) (pos 0)) in
    each_holds 6 (rate_test c.args.self) 0 7 _ (λ j _ l. seven c.args.self (six (goal.at.returns-then-below-clause-outcome c).After-position c.in_default.is) t j l)

pub returns-clause-outcome : goal.returns-clause-outcome
returns-clause-outcome c =
    let t : lt_z (rate_sum c.args.self) (pos 0) ≡ false = cc (lt_test (rate_sum c.args.self) (pos 0)) in
    each_fails 6 (rate_test c.args.self) 0 7 _ 6 (omega arith) (omega arith) (λ j _ l. six (goal.at.returns-clause-outcome c).After-position c.in_default.is j l) (last_test c.args.self ∙ t)
