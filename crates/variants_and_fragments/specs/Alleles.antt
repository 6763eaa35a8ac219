-- 01, section 2 and number 3 of the table: the allele bytes are A, C, G, T, in variant then allele order. w is the words, b the bytes.
-- Assumes nothing.
use Rattle.std.specs.Prelude.{Bool, ◌||◌, List, ℕ, zero, suc, ◌+◌, get_or, ℤ, eqb}
use Rattle.variants_and_fragments.specs.First.{holds_below}
use Rattle.variants_and_fragments.specs.Layout.{length_at}

-- how many bytes variant v's alleles have; an absent allele has length 0
abbrev pub alleles_length : List ℤ → ℕ → ℕ
alleles_length w v = length_at w v 0 + length_at w v 1 + length_at w v 2

-- where variant v's bytes start
unfoldable pub alleles_start : List ℤ → ℕ → ℕ
alleles_start w zero = 0
alleles_start w (suc v) = alleles_start w v + alleles_length w v

-- A, C, G, T
abbrev pub is_base : ℕ → Bool
is_base x = eqb x 65 || eqb x 67 || eqb x 71 || eqb x 84

abbrev pub base_ok_at : List ℕ → ℕ → ℕ → Bool
base_ok_at b at i = is_base (get_or b (at + i) 0)

-- each of variant v's bytes is a base
unfoldable pub alleles_ok : List ℤ → List ℕ → ℕ → Bool
alleles_ok w b v = holds_below (base_ok_at b (alleles_start w v)) (alleles_length w v)
