-- Number 12 is never given: the sum of row sums of a normalised table is 0.
-- Assumes nothing.
use mathlib.Core.Path.{◌≡◌, refl, ap}
use mathlib.Core.List.{List}
use Prim.Native.Nat.{ℕ, ◌*◌, ◌≤◌, ◌<◌}
use lib.IntN.{ℤ, pos}
use lib.ListN.{get_or}
use native.Mathlib.Omega.{arith}
use Rattle.variants_and_fragments.specs.First.{first_fail}
use Rattle.variants_and_fragments.specs.Refusals.{Outcome, each}
use Rattle.variants_and_fragments.proofs.First.{first_end}
use Rattle.variants_and_fragments.proofs.Outcomes.{each_on}
use Rattle.genotype_probs.specs.Posteriors.{normalized}
use Rattle.genotype_probs.proofs.TableSums.{normal_sum}
use Rattle.genotype_probs.specs.Normalized.{is_zero, is_normal}

-- of n variants, each with an allele and in its k × k places a normalised table, number 12 refuses none
pub all_normal : {X : Type 0} (table_of scores_of : ℕ → List ℤ) (count : ℕ → ℕ) (n : ℕ) (rest : Outcome X) → ((v : ℕ) → v < n → 1 ≤ count v) → ((v : ℕ) → v < n → (p : ℕ) → p < count v * count v → get_or (table_of v) p (pos 0) ≡ normalized (scores_of v) (count v) p) → rest ≡ each 12 (is_normal table_of count) 0 n rest
unfolding is_normal first_fail
all_normal table_of scores_of count n rest low held =
    let end : n ≡ first_fail (is_normal table_of count) n = first_end (is_normal table_of count) n n
    (λ v h. ap is_zero (normal_sum (scores_of v) (table_of v) (count v) (low v h) (held v h)))
    refl in
    each_on 12 (is_normal table_of count) 0 n rest (omega (arith, end))
