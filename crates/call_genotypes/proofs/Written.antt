-- Scores written pair by pair, and the first of the greatest of them: what the loops hold at their heads. Assumes nothing.
use mathlib.Core.Path.{◌≡◌, refl, sym, ap, ◌∙◌, subst}
use mathlib.Core.Bool.{cond}
use mathlib.Core.List.{List}
use Prim.Native.Nat.{ℕ, suc, ◌+◌, ◌-◌, ◌*◌, ◌/◌, ◌%◌, ◌<◌, ◌≤◌}
use native.Mathlib.Omega.{arith}
use native.Mathlib.Nat.{div-mul-le_self, mod-eq-sub-div-mul, mul-le-mul_right}
use mir.Val.{bool_byte}
use borrow.Author.Tests.{leb-false}
use lib.Arith.{digits_div}
use lib.Dec.{T, leb, leb→le}
use lib.ListN.{length, get_or, set, take, drop, length-set}
use Rattle.std.proofs.lemmas.List.{length-drop, length-take-le, get_or-take, get_or-drop}
use lib.Seq.{sets}
use lib.IntN.{ℤ, pos}
use lib.Signed.{lt_z}
use Rattle.steps.proofs.Signed.{by_test}
use Rattle.variants_and_fragments.specs.Decode.{tabulate_from, tabulate}
use Rattle.variants_and_fragments.proofs.Tabulated.{table_start, table_more, table_end}
use Rattle.genotype_probs.specs.Posteriors.{first_maximum}
use Rattle.genotype_probs.proofs.AlleleLaws.{nine}
use Rattle.genotype_probs.proofs.Maxima.{meets, maximum_more, maximum_kept, maximum_same}
use Rattle.genotype_probs.proofs.TableSums.{place_in, pair_in}
use Rattle.call_genotypes.specs.Inner.Visits.{best_at, BestPair}

-- p of the n values of g are written from `at` on
pub record Writing (g : ℕ → ℤ) (at n : ℕ) (post₀ post : List ℤ) (p : ℕ) : Type 0 where
  pub long : length post ≡ length post₀
  pub left : sets post (at + p) (tabulate_from g p (n - p)) ≡ sets post₀ at (tabulate n g)

module _ (g : ℕ → ℤ) (at n : ℕ) (post₀ : List ℤ) where
  pub writing_start : Writing g at n post₀ post₀ 0
  writing_start = record {
    long = refl;
    left = let e : at + 0 ≡ at = omega arith in rw (e, table_start g n);
  }

  pub writing_more : (post : List ℤ) (p q : ℕ) (x : ℤ) → Writing g at n post₀ post p → p < n → q ≡ p + 1 → x ≡ g p → Writing g at n post₀ (set post (at + p) x) q
  writing_more post p q x s l eq ex =
      let e : at + (p + 1) ≡ suc (at + p) = omega arith in
      rw (eq, ex) (record { long = rw length-set s.long; left = rw e (rw (table_more g n p l) at s.left) })

  pub writing_end : (post : List ℤ) (p : ℕ) → Writing g at n post₀ post p → n ≤ p → post ≡ sets post₀ at (tabulate n g)
  writing_end post p s h = rw (table_end g n p h) at s.left

-- b is the first of the greatest among the first g numbers, and z is number b
pub record Best (f : ℕ → ℤ) (b : ℕ) (z : ℤ) (g : ℕ) : Type 0 where
  pub is : b ≡ first_maximum f g
  pub best : z ≡ f b

-- one more number looked at
pub best_step : (f : ℕ → ℤ) (b b' g : ℕ) (z z' : ℤ) → Best f b z g → b' ≡ cond (lt_z z (f g)) g b → z' ≡ cond (lt_z z (f g)) (f g) z → Best f b' z' (g + 1)
best_step f b b' g z z' s p q =
    by_test (lt_z z (f g))
    (λ t.
    let e : b' ≡ g = rw t at p in
    record { is = e ∙ maximum_more f b g s.is (rw s.best at t); best = (rw t at q) ∙ ap f (sym e) })
    (λ t.
    let e : b' ≡ b = rw t at p in
    record { is = e ∙ maximum_kept f b g s.is (rw s.best at t); best = (rw t at q) ∙ s.best ∙ ap f (sym e) })

-- the first of the greatest in the part of the scores at v
pub part_best : (post : List ℤ) (v k : ℕ) → k ≤ 3 → 9 * v + 9 ≤ length post → (b : ℕ)
    → let part = take (9 * v + k * k - 9 * v) (drop (9 * v) post) in b ≡ first_maximum (λ g. get_or part g (pos 0)) (length part) → b ≡ best_at post v k
part_best post v k top long b e =
    let n : 9 * v + k * k - 9 * v ≡ k * k = omega arith in
    let l = length-take-le (k * k) (drop (9 * v) post) (omega (arith, length-drop (9 * v) post, nine k top)) in
    (rw (n, l) at e)
    ∙ maximum_same (λ g. get_or (take (k * k) (drop (9 * v) post)) g (pos 0)) (λ g. get_or post (9 * v + g) (pos 0)) (k * k)
    (λ g h. get_or-take (k * k) (drop (9 * v) post) g (pos 0) h ∙ get_or-drop (9 * v) post g (pos 0))

-- the row of pair number b, from two tests
row_is : (b k i j : ℕ) → b ≡ i * k + j → j < k → i ≡ b / k
row_is b k i j p h = sym (rw p (digits_div i h))

pub row_tests : (b k : ℕ) → b < 3 * k → bool_byte (leb k b) + bool_byte (leb (2 * k) b) ≡ b / k
row_tests b k h = by_test (leb k b)
    (λ t.
    let l = leb→le k b (subst T (sym t) tt) in
    by_test (leb (2 * k) b)
    (λ u. let m = leb→le (2 * k) b (subst T (sym u) tt) in rw (t, u) (row_is b k 2 (b - 2 * k) (omega arith) (omega arith)))
    (λ u. let m = leb-false (2 * k) b u in rw (t, u) (row_is b k 1 (b - k) (omega arith) (omega arith))))
    (λ t.
    let l = leb-false k b t in
    by_test (leb (2 * k) b)
    (λ u. let m = leb→le (2 * k) b (subst T (sym u) tt) in absurd (omega arith))
    (λ u. rw (t, u) (row_is b k 0 b (omega arith) l)))

-- the pair of the first of the greatest, from what the code has of it: its number b and its row r
module _ (post : List ℤ) (v k b : ℕ) (least : 1 ≤ k) (top : k ≤ 3) (e : b ≡ best_at post v k) where
  best_in : b < k * k
  best_in = rw e (meets (λ g. get_or post (9 * v + g) (pos 0)) (k * k) (omega (arith, place_in 0 0 k least least))).inside

  pub best_few : b < 3 * k
  best_few = omega (arith, best_in, mul-le-mul_right k top)

  module _ (r : ℕ) (er : r ≡ b / k) where
    pub row_low : r * k ≤ b
    row_low = rw er (div-mul-le_self b k)

    pub row_few : r * k < 9
    row_few = omega (arith, row_low, best_in, nine k top)

    pub best_pair : BestPair post v k (record { first = r; second = b - r * k })
    best_pair =
        let i = pair_in k b least best_in in
        let m : b - r * k ≡ b % k = rw er (sym (mod-eq-sub-div-mul b k)) in
        record { first = er ∙ ap (λ (x : ℕ). x / k) e; second = m ∙ ap (λ (x : ℕ). x % k) e; first_in = rw er i.0; second_in = rw m i.1 }
