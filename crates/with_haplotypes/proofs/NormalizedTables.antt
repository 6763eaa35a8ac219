-- Tables that are normalised one after the other: those still to come are as they were, and each is normalised by itself.
-- Assumes nothing.
use mathlib.Core.Path.{◌≡◌, refl, sym, ap, ◌∙◌}
use mathlib.Core.List.{List}
use Prim.Native.Nat.{ℕ, zero, suc, ◌+◌, ◌*◌, ◌/◌, ◌%◌, ◌≤◌, ◌<◌}
use native.Mathlib.Omega.{arith}
use lib.IntN.{ℤ, pos}
use lib.ListN.{length, get_or, drop}
use lib.Seq.{drop-set-lt}
use Rattle.variants_and_fragments.specs.Written.{written}
use Rattle.variants_and_fragments.specs.Inner.Written.{written_from}
use Rattle.variants_and_fragments.proofs.Written.{written_at, written_length, written_past, from_after}
use Rattle.genotype_probs.specs.Posteriors.{normalized}
use Rattle.genotype_probs.specs.Inner.Posteriors.{TableAt}
use Rattle.with_haplotypes.specs.Inner.NormalizedPosteriors.{normalized_at}

-- past the first n all is as it was
written_rest : {X : Type 0} (g : ℕ → X) (n m : ℕ) (l : List X) → n ≤ m → drop m (written g n l) ≡ drop m l
unfolding written
written_rest g zero m l h = refl
written_rest g (suc n) m l h = drop-set-lt m (written g n l) n (g n) h ∙ written_rest g n m l (omega arith)

-- place p of variant v
place_is : (ks : List ℕ) (post : List ℤ) (v p : ℕ) → p < 9 → normalized (drop (9 * v) post) (get_or ks v 0) p ≡ normalized_at ks post (9 * v + p)
unfolding normalized_at
place_is ks post v p h = let q : (9 * v + p) / 9 ≡ v = omega arith in let r : (9 * v + p) % 9 ≡ p = omega arith in rw (q, r)

-- the first v variants are normalised: post₀ became post
module _ (ks : List ℕ) (post₀ post : List ℤ) (v : ℕ) (e : post ≡ written (normalized_at ks post₀) (9 * v) post₀) where
  pub as_long : length post ≡ length post₀
  as_long = ap length e ∙ written_length (normalized_at ks post₀) (9 * v) post₀

  pub table_kept : (k : ℕ) → TableAt post₀ (9 * v) k → TableAt post (9 * v) k
  table_kept k t = record {
    k_low = t.k_low;
    k_high = t.k_high;
    inside = omega (arith, as_long, t.inside);
    small = λ p h. rw (e, written_past (normalized_at ks post₀) (9 * v) post₀ (pos 0) (9 * v + p) (omega arith)) (t.small p h);
  }

  -- one more
  pub normalized_on : (next : List ℤ) → next ≡ written_from (normalized (drop (9 * v) post) (get_or ks v 0)) (9 * v) 9 post
      → next ≡ written (normalized_at ks post₀) (9 * (v + 1)) post₀
  normalized_on next q =
      let m : 9 * v + 9 ≡ 9 * (v + 1) = omega arith in
      q
      ∙ rw (e, written_rest (normalized_at ks post₀) (9 * v) (9 * v) post₀ (omega arith)) (from_after (normalized_at ks post₀) (normalized (drop (9 * v) post₀) (get_or ks v 0)) (9 * v) 9 post₀ (λ p h. place_is ks post₀ v p h))
      ∙ ap (λ (n : ℕ). written (normalized_at ks post₀) n post₀) m

-- what stands at place p of variant v afterwards
pub normalized_here : (ks : List ℕ) (post : List ℤ) (n v p : ℕ) → 9 * n ≤ length post → v < n → p < 9
    → get_or (written (normalized_at ks post) (9 * n) post) (9 * v + p) (pos 0) ≡ normalized (drop (9 * v) post) (get_or ks v 0) p
normalized_here ks post n v p l h k =
    written_at (normalized_at ks post) (9 * n) post (pos 0) l (9 * v + p) (omega arith) ∙ sym (place_is ks post v p k)
