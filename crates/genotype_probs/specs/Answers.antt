-- The answer of the operation that writes the priors: 01, "Refusals by number and place", and section 3.
-- Assumes nothing.
use Rattle.std.specs.Prelude.{List, [], ◌∷◌, ℕ, ◌*◌, ℤ, length}
use Rattle.variants_and_fragments.specs.Case.{Case}
use Rattle.variants_and_fragments.specs.Refusals.{Outcome, done, and_then, each, long_enough, Promise}
use Rattle.variants_and_fragments.specs.Check.{check_case_outcome}
use Rattle.variants_and_fragments.specs.Decode.{decode}
use Rattle.variants_and_fragments.specs.Written.{written}
use Rattle.genotype_probs.specs.declared.Rates.{Rates}
use Rattle.genotype_probs.specs.Rates.{rate_test}
use Rattle.genotype_probs.specs.Priors.{prior_at}

-- 1 to 5, the case; 6, the rates; 10, nine places per variant
unfoldable pub genotype_priors_outcome : List ℤ → List ℕ → Rates → List ℤ → Outcome Unit
genotype_priors_outcome w b rates before =
    and_then (check_case_outcome w b) (λ s.
    each 6 (rate_test rates) 0 7
    (long_enough ((9 * s.n, length before) ∷ [])
    (done tt)))

-- each variant's nine places
unfoldable pub genotype_priors_written : Rates → Case → List ℤ → List ℤ
genotype_priors_written rates case before = written (prior_at rates case) (9 * length case.variants) before

-- the promise, of the slice lent
abbrev pub GenotypePriors : List ℤ → List ℕ → Rates → List ℤ → Outcome Unit → List ℤ → Type 0
GenotypePriors w b rates before answer after =
    Promise (genotype_priors_outcome w b rates before) (genotype_priors_written rates (decode w b) before) before answer after
