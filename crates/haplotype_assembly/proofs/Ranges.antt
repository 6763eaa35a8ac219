-- Ranges of the words that the given phase reads.
-- Assumes nothing.
use mathlib.Core.List.{List}
use Prim.Native.Nat.{ℕ, zero, suc, ◌<◌}
use native.Mathlib.Omega.{arith}
use lib.IntN.{ℤ}
use Rattle.variants_and_fragments.specs.declared.Sizes.{Sizes}
use Rattle.variants_and_fragments.specs.Layout.{genotype_at}
use Rattle.variants_and_fragments.specs.Inner.Accepted.{CaseIn}

-- a genotype's alleles are below 3
pub genotype_top : {w : List ℤ} {s : Sizes} → CaseIn w s → (v i : ℕ) → v < s.n → i < 2 → genotype_at w v i < 3
genotype_top k v zero h l = let f = k.variants.each v h in omega (arith, f.a_in, f.k_high)
genotype_top k v (suc zero) h l = let f = k.variants.each v h in omega (arith, f.b_in, f.k_high)
genotype_top k v (suc (suc i)) h l = absurd (omega arith)
