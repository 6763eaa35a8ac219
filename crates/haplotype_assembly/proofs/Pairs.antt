-- A flat list of pairs: place 2 v is variant v's first, place 2 v + 1 its second.
-- Assumes nothing.
use mathlib.Core.Path.{◌≡◌, sym, ap, ◌∙◌}
use mathlib.Core.List.{List}
use Prim.Native.Nat.{ℕ, ◌+◌, ◌*◌, ◌/◌, ◌%◌}
use native.Mathlib.Omega.{arith}
use borrow.Author.Tests.{eq-eqb, ne_eqb}
use lib.ListN.{set}
use Rattle.variants_and_fragments.specs.Written.{written}
use Rattle.haplotype_assembly.proofs.Cited.{written_on}
use Rattle.haplotype_assembly.specs.Phase.{pair_place}

module _ (first second : ℕ → ℕ) (v : ℕ) where
  pub place_first : pair_place first second (2 * v) ≡ first v
  unfolding pair_place
  place_first =
      let half : (2 * v) / 2 ≡ v = omega arith in
      let even : (2 * v) % 2 ≡ 0 = omega arith in
      rw (eq-eqb _ _ even, half)

  pub place_second : pair_place first second (2 * v + 1) ≡ second v
  unfolding pair_place
  place_second =
      let half : (2 * v + 1) / 2 ≡ v = omega arith in
      let odd : (2 * v + 1) % 2 ≡ 1 = omega arith in
      rw (ne_eqb ((2 * v + 1) % 2) 0 (λ e. omega arith), half)

  -- one more pair is written
  pub pair_on : (l o : List ℕ) (x y : ℕ) → o ≡ written (pair_place first second) (2 * v) l → x ≡ first v → y ≡ second v
      → set (set o (2 * v) x) (2 * v + 1) y ≡ written (pair_place first second) (2 * (v + 1)) l
  pair_on l o x y h p q =
      let e : 2 * v + 1 + 1 ≡ 2 * (v + 1) = omega arith in
      let g = pair_place first second in
      written_on g (2 * v + 1) l (set o (2 * v) x) y (written_on g (2 * v) l o x h (p ∙ sym place_first)) (q ∙ sym place_second)
      ∙ ap (λ (n : ℕ). written g n l) e
