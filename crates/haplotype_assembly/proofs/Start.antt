-- The start haplotypes: as a list, place by place, and each allele is one of its variant's.
-- Assumes nothing.
use mathlib.Core.Path.{◌≡◌, sym, ◌∙◌}
use mathlib.Core.Bool.{Bool, true, false, cond}
use mathlib.Core.List.{List}
use Prim.Native.Nat.{ℕ, ◌+◌, ◌*◌, ◌≤◌, ◌<◌}
use native.Mathlib.Omega.{arith}
use lib.Dec.{leb, eqb}
use lib.ListN.{length, get_or, take}
use lib.Seq.{ext_get_or, length-take-le, get_or-take}
use Rattle.variants_and_fragments.specs.Case.{Case, allele_count, variant_of}
use Rattle.variants_and_fragments.specs.Inner.Case.{GoodCase}
use Rattle.variants_and_fragments.specs.Decode.{tabulate}
use Rattle.variants_and_fragments.specs.Written.{written}
use Rattle.haplotype_assembly.specs.Phase.{phase0, phase1, low, high, ordered_first, ordered_second, byte_of, start_allele, start_haplotypes}
use Rattle.haplotype_assembly.proofs.Cited.{written_length, written_at, tabulate_length, tabulate_at}
use Rattle.haplotype_assembly.proofs.Pairs.{place_first, place_second}

-- what is written is the list of these elements
pub written_list : (g : ℕ → ℕ) (n : ℕ) (l : List ℕ) → n ≤ length l → take n (written g n l) ≡ tabulate n g
written_list g n l h =
    let e : length (take n (written g n l)) ≡ n = length-take-le n (written g n l) (omega (arith, written_length g n l)) in
    ext_get_or 0 (take n (written g n l)) (tabulate n g) (e ∙ sym (tabulate_length n g)) (λ i k. let j : i < n = omega arith in get_or-take n (written g n l) i 0 j ∙ written_at g n l 0 h i j ∙ sym (tabulate_at n g i 0 j))

cond_below : (t : Bool) (x y k : ℕ) → x < k → y < k → cond t x y < k
cond_below true x y k h l = h
cond_below false x y k h l = l

-- ordering keeps to the two alleles
module _ (byte a b k : ℕ) (h : a < k) (l : b < k) where
  low_below : low a b < k
  low_below = cond_below (leb a b) a b k h l

  high_below : high a b < k
  high_below = cond_below (leb a b) b a k l h

  pub first_below : ordered_first byte a b < k
  unfolding ordered_first
  first_below = cond_below (eqb byte phase0) _ _ k low_below (cond_below (eqb byte phase1) _ _ k high_below h)

  pub second_below : ordered_second byte a b < k
  unfolding ordered_second
  second_below = cond_below (eqb byte phase0) _ _ k high_below (cond_below (eqb byte phase1) _ _ k low_below l)

module _ (case : Case) (bytes : List ℕ) where
  pub start_length : length (start_haplotypes case bytes) ≡ 2 * length case.variants
  unfolding start_haplotypes
  start_length = tabulate_length _ _

  -- a slice to which they are written starts with them
  pub start_written : (l : List ℕ) → 2 * length case.variants ≤ length l → take (2 * length case.variants) (written (start_allele case bytes) (2 * length case.variants) l) ≡ start_haplotypes case bytes
  unfolding start_haplotypes
  start_written l h = written_list (start_allele case bytes) _ l h

  module _ (v : ℕ) (h : v < length case.variants) where
    pub start_first : get_or (start_haplotypes case bytes) (2 * v) 0 ≡ ordered_first (byte_of bytes v) (variant_of case v).genotype0 (variant_of case v).genotype1
    unfolding start_haplotypes start_allele
    start_first = tabulate_at _ _ (2 * v) 0 (omega arith) ∙ place_first _ _ v

    pub start_second : get_or (start_haplotypes case bytes) (2 * v + 1) 0 ≡ ordered_second (byte_of bytes v) (variant_of case v).genotype0 (variant_of case v).genotype1
    unfolding start_haplotypes start_allele
    start_second = tabulate_at _ _ (2 * v + 1) 0 (omega arith) ∙ place_second _ _ v

    -- each allele is below its variant's k
    pub start_first_below : GoodCase case → get_or (start_haplotypes case bytes) (2 * v) 0 < allele_count (variant_of case v)
    start_first_below good = let g = good.variants_in v h in rw start_first (first_below _ _ _ _ g.genotype0_in g.genotype1_in)

    pub start_second_below : GoodCase case → get_or (start_haplotypes case bytes) (2 * v + 1) 0 < allele_count (variant_of case v)
    start_second_below good = let g = good.variants_in v h in rw start_second (second_below _ _ _ _ g.genotype0_in g.genotype1_in)
