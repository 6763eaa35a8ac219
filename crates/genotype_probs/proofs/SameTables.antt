-- The called pair, the variant's quality and the pair's go by the k × k entries of a table.
-- Assumes nothing.
use mathlib.Core.Path.{◌≡◌, refl}
use mathlib.Core.Bool.{Bool}
use mathlib.Core.List.{List}
use Prim.Native.Nat.{ℕ, zero, suc, ◌+◌, ◌*◌, ◌/◌, ◌%◌, ◌≤◌, ◌<◌}
use native.Mathlib.Omega.{arith}
use lib.IntN.{ℤ, pos}
use lib.ListN.{get_or}
use Rattle.steps.proofs.Signed.{by_test}
use Rattle.variants_and_fragments.specs.Decode.{tabulate_from}
use Rattle.variants_and_fragments.specs.Pileup.{only}
use Rattle.genotype_probs.specs.Posteriors.{entry_at, post_of, post_at, max_genotype, qual_of, mirror, is_other, others, other_sum, gq_of}
use Rattle.genotype_probs.proofs.Maxima.{maximum_same}
use Rattle.genotype_probs.proofs.OtherSums.{kept}
use Rattle.genotype_probs.proofs.TableSums.{place_in, pair_in}

module _ (tab other : List ℤ) (k : ℕ) (low : 1 ≤ k) (same : (p : ℕ) → p < k * k → get_or tab p (pos 0) ≡ get_or other p (pos 0)) where
  post_same : (phased : Bool) (p : ℕ) → p < k * k → post_at phased tab k p ≡ post_at phased other k p
  unfolding post_at post_of entry_at
  post_same phased p h =
      let q = pair_in k p low h in
      rw (same (p / k * k + p % k) (place_in (p / k) (p % k) k q.0 q.1), same (p % k * k + p / k) (place_in (p % k) (p / k) k q.1 q.0))

  pub genotype_same : (phased : Bool) → max_genotype phased tab k ≡ max_genotype phased other k
  unfolding max_genotype
  genotype_same phased = maximum_same (post_at phased tab k) (post_at phased other k) (k * k) (post_same phased)

  pub qual_same : qual_of tab ≡ qual_of other
  unfolding qual_of
  qual_same = rw (same 0 (omega (arith, place_in 0 0 k low low)))

  kept_same : (keep : ℕ → Bool) (a n : ℕ) → a + n ≤ k * k → kept tab keep a n ≡ kept other keep a n
  unfolding only tabulate_from
  kept_same keep a zero h = refl
  kept_same keep a (suc n) h =
      let e = kept_same keep (suc a) n (omega arith) in
      by_test (keep a) (λ t. rw (t, same a (omega arith), e)) (λ t. rw t e)

  pub gq_same : (p : ℕ) → gq_of tab k p ≡ gq_of other k p
  unfolding gq_of other_sum others
  gq_same p = rw (kept_same (is_other p (mirror k p)) 0 (k * k) (omega arith))
