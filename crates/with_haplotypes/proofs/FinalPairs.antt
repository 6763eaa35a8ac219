-- The final answer's pair of each variant is the one that the last sweep left: that sweep visits the variant once, and its visit takes the first
-- pair with the greatest score, which normalising does not change. Assumes nothing.
use mathlib.Core.Path.{◌≡◌, refl, sym, ◌∙◌}
use mathlib.Core.Logic.{◌≢◌}
use mathlib.Core.Bool.{true}
use mathlib.Core.List.{List, [], ◌∷◌}
use Prim.Native.Nat.{ℕ, suc, ◌+◌, ◌-◌, ◌*◌, ◌/◌, ◌%◌, ◌<◌, ◌≤◌}
use native.Mathlib.Omega.{arith}
use native.Mathlib.Nat.{div-add-mod'}
use borrow.Author.Tests.{eqb-true, eqb-false, lt-ltb}
use lib.Dec.{eqb}
use lib.IntN.{ℤ, pos, ◌-ℤ◌}
use lib.ListN.{length}
use Rattle.steps.proofs.Signed.{by_test}
use Rattle.variants_and_fragments.specs.Case.{allele_count, variant_of}
use Rattle.variants_and_fragments.specs.Decode.{tabulate}
use Rattle.variants_and_fragments.proofs.Decoded.{tabulate_at}
use Rattle.genotype_probs.specs.Posteriors.{table_sum, normalized, entry_at, post_of, post_at, max_genotype, genotype_of, first_maximum}
use Rattle.genotype_probs.proofs.AlleleLaws.{nine}
use Rattle.genotype_probs.proofs.Maxima.{maximum_same, maximum_shifted}
use Rattle.shuffle.specs.Permutation.{Permutation, times}
use Rattle.sweeps.specs.Sweeps.{SweepCase, best_pair, visit, sweep}
use Rattle.sweeps.specs.Inner.Sweeps.{GoodHaps}
use Rattle.sweeps.specs.Demand3.{after}
use Rattle.sweeps.proofs.Basics.{length_put, at0_same, at1_same, at0_other, at1_other}
use Rattle.with_haplotypes.specs.Finals.{final_of}
use Rattle.with_haplotypes.specs.Round.{RunInput, at_visit, sweep_case, order_of_sweep, result, latest_score, posteriors, final}
use Rattle.with_haplotypes.specs.Promise.{pair_on}
use Rattle.with_haplotypes.proofs.Latest.{none_first}

-- ---- the pair that a sweep leaves
module _ (C : SweepCase) (v : ℕ) where
  -- a visit of another variant leaves v's
  visited_other : (w : ℕ) (h : List ℕ) → w ≢ v → pair_on (visit C w h) v ≡ pair_on h v
  unfolding visit
  visited_other w h f = cc (at0_other h w (best_pair C w h / C.k w) (best_pair C w h % C.k w) v (λ e. f (sym e)), at1_other h w (best_pair C w h / C.k w) (best_pair C w h % C.k w) v (λ e. f (sym e)))

  swept_other : (vs h : List ℕ) → times v vs ≡ 0 → pair_on (sweep C vs h) v ≡ pair_on h v
  unfolding sweep times
  swept_other [] h e = refl
  swept_other (w ∷ ws) h e =
      let n = none_first (eqb w v) (times v ws) e in
      swept_other ws (visit C w h) n.1 ∙ visited_other w h (eqb-false w v n.0)

  -- its own visit takes the best one
  visited_own : (h : List ℕ) → 2 * v + 1 < length h → let g = best_pair C v h in pair_on (visit C v h) v ≡ record { 0 = g / C.k v; 1 = g % C.k v }
  unfolding visit
  visited_own h l = cc (at0_same h v (best_pair C v h / C.k v) (best_pair C v h % C.k v) l, at1_same h v (best_pair C v h / C.k v) (best_pair C v h % C.k v) l)

  visit_long : (w : ℕ) (h : List ℕ) → length (visit C w h) ≡ length h
  unfolding visit
  visit_long w h = length_put h w (best_pair C w h / C.k w) (best_pair C w h % C.k w)

  -- so that one is left
  pub swept_at : (vs h : List ℕ) → times v vs ≡ 1 → 2 * v + 1 < length h → let g = best_pair C v (at_visit C v vs h) in pair_on (sweep C vs h) v ≡ record { 0 = g / C.k v; 1 = g % C.k v }
  unfolding sweep times at_visit
  swept_at [] h e l = absurd (omega arith)
  swept_at (w ∷ ws) h e l =
      by_test (eqb w v)
      (λ t. let same : w ≡ v = eqb-true w v t in
      let none : times v ws ≡ 0 = omega (arith, rw t at e) in
      rw (t, same) (swept_other ws (visit C v h) none ∙ visited_own h l))
      (λ t. rw t (swept_at ws (visit C w h) (omega (arith, rw t at e)) (omega (arith, visit_long w h))))

-- ---- the pair of the final answer
module _ (k : ℕ) (some : 1 ≤ k) (three : k ≤ 3) (s : ℕ → ℤ) where
  abbrev scores : List ℤ
  scores = tabulate (k * k) s

  abbrev table : List ℤ
  table = tabulate 9 (normalized scores k)

  entry_is : (p : ℕ) → p < k * k → post_at true table k p ≡ s p -ℤ table_sum scores k
  unfolding post_at post_of entry_at normalized
  entry_is p h =
      let e : p / k * k + p % k ≡ p = div-add-mod' p k in
      rw e (tabulate_at 9 (normalized scores k) p (pos 0) (omega (arith, nine k three)) ∙ rw (lt-ltb p (k * k) h, tabulate_at (k * k) s p (pos 0) h))

  pub kept_is : max_genotype true table k ≡ first_maximum s (k * k)
  unfolding max_genotype
  kept_is = maximum_same (post_at true table k) (λ p. s p -ℤ table_sum scores k) (k * k) entry_is ∙ maximum_shifted s (table_sum scores k) (k * k)

-- ---- both are one
module _ (input : RunInput) (v : ℕ) (h : List ℕ) (last : ℕ) where
  abbrev C : SweepCase
  C = sweep_case input

  abbrev k : ℕ
  k = allele_count (variant_of input.case v)

  k_is : C.k v ≡ k
  unfolding sweep_case Rattle.likelihoods.specs.SweepCaseOf.sweep_case_of
  k_is = refl

  pub final_pair : (result input).sweeps ≡ suc last → h ≡ after C (order_of_sweep input) input.start (suc last) → GoodHaps C (after C (order_of_sweep input) input.start last)
      → Permutation C.n (order_of_sweep input last) → v < C.n → 1 ≤ k → k ≤ 3 → (final input v).genotype ≡ pair_on h v
  unfolding after final final_of genotype_of posteriors latest_score best_pair
  final_pair e r good order in_n some three =
      let at = after C (order_of_sweep input) input.start last in
      let q : (result input).sweeps - 1 ≡ last = omega arith in
      let left = swept_at C v (order_of_sweep input last) at (order.once v in_n) (omega (arith, good.len)) in
      let same = kept_is k some three (latest_score input v) in
      rw (r, left, same, q, k_is)
