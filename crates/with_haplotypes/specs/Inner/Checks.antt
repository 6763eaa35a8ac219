-- The checks of a round past its case: what they answer, given what a lent slice is short of. Assumes nothing.
use Rattle.std.specs.Prelude.{◌&&◌, List, ℕ, eqb, leb, ℤ}
use Rattle.variants_and_fragments.specs.Refusals.{Outcome, done, unless, each, and_then}
use Rattle.genotype_probs.specs.declared.Rates.{Rates}
use Rattle.genotype_probs.specs.Rates.{rate_test}
use Rattle.haplotype_assembly.specs.GivenPhase.{phase_tests}
use Rattle.shuffle.specs.Answers.{orders_outcome}
use Rattle.with_haplotypes.specs.Promise.{max_limit}

-- 9 of the limit, 10 of the lent slices; else done with the number of orders
unfoldable pub limit_checks : ℕ → ℕ → ℕ → Outcome ℕ
limit_checks m limit short = unless (leb 1 limit && leb limit max_limit) 9 limit (unless (eqb short 0) 10 short (done m))

-- 6 of the rates, 7 of the phase bytes and sets, 8 of the orders, and these
unfoldable pub round_checks : ℕ → Rates → List ℕ → List ℤ → List ℕ → ℕ → ℕ → Outcome ℕ
round_checks n rates phase sets orders limit short =
    each 6 (rate_test rates) 0 7 (phase_tests n phase sets (and_then (orders_outcome n orders) (λ m. limit_checks m limit short)))
