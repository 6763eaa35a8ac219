-- Visits and sweeps from the likelihoods that stand, a step between specs/Sweeps.antt and the code: a variant's pile, a call's share of a
-- score, its four values, and whether a visit changed its pair. proofs/{Link,Scored,Fours,Perm}.antt join these to specs/Sweeps.antt; the code
-- gets a call's four values by their gaps (call_genotypes/proofs/RiseLaws.antt). Assumes nothing.
use Rattle.std.specs.Prelude.{Bool, true, false, not, cond, ◌&&◌, ◌||◌, List, [], ◌∷◌, ◌++◌, ℕ, zero, suc, ◌+◌, eqb, ℤ, pos, ◌+ℤ◌, ◌-ℤ◌}
use Rattle.variants_and_fragments.specs.Case.{Call}
use Rattle.variants_and_fragments.specs.Pileup.{Row, row_of}
use Rattle.variants_and_fragments.specs.Sums.{sum_over}
use Rattle.shuffle.specs.Permutation.{member}
use Rattle.sweeps.specs.Sweeps.{SweepCase, call_term, allele0, allele1, same_haps, visit}

-- ---- the pile of a variant, from the usable calls of each fragment
unfoldable pub rows_within : ℕ → ℕ → List Call → List Row
rows_within v f [] = []
rows_within v f (c ∷ cs) = cond (eqb c.variant v) (row_of f c ∷ rows_within v f cs) (rows_within v f cs)

-- the fragments being numbered from f
unfoldable pub pileup_from : ℕ → ℕ → List (List Call) → List Row
pileup_from v f [] = []
pileup_from v f (cs ∷ fs) = rows_within v f cs ++ pileup_from v (suc f) fs

-- what a fragment's call at v adds to a likelihood, with the allele a
unfoldable pub term_at : ℕ → List Call → ℕ → ℤ
term_at v [] a = pos 0
term_at v (c ∷ cs) a = cond (eqb c.variant v) (call_term c a) (pos 0) +ℤ term_at v cs a

-- ---- a call's share of a score
-- a likelihood that stands, without the call's own term: at an unphased variant it has none
abbrev pub without : Bool → ℤ → Call → ℕ → ℤ
without phased l c old = l -ℤ cond phased (call_term c old) (pos 0)

-- the same with the variant's allele `new` for `old`
abbrev pub step : Bool → ℤ → Call → ℕ → ℕ → ℤ
step phased l c old new = without phased l c old +ℤ call_term c new

-- what a row adds to the score of (i, j) at v, from its fragment's two likelihoods
abbrev pub share : SweepCase → ℕ → List ℕ → (ℕ → ℤ) → (ℕ → ℤ) → ℕ → ℕ → Row → ℤ
share C v h L0 L1 i j row =
    C.mix (step (C.phased v) (L0 row.fragment) row.call (allele0 h v) i) (step (C.phased v) (L1 row.fragment) row.call (allele1 h v) j)

-- a call's four values, from its read's likelihoods without it: neither haplotype has its allele (0), the first (1), the second (2), both (3)
unfoldable pub four_value : (ℤ → ℤ → ℤ) → ℤ → ℤ → Call → ℕ → ℤ
four_value mix b0 b1 c zero = mix (b0 +ℤ c.qual) (b1 +ℤ c.qual)
four_value mix b0 b1 c (suc zero) = mix (b0 +ℤ c.one_minus_qual) (b1 +ℤ c.qual)
four_value mix b0 b1 c (suc (suc zero)) = mix (b0 +ℤ c.qual) (b1 +ℤ c.one_minus_qual)
four_value mix b0 b1 c (suc (suc (suc w))) = mix (b0 +ℤ c.one_minus_qual) (b1 +ℤ c.one_minus_qual)

-- which of the four the pair (i, j) takes of a call with allele x
abbrev pub which_value : ℕ → ℕ → ℕ → ℕ
which_value i j x = cond (eqb x i) 1 0 + cond (eqb x j) 2 0

-- value w of a row, from the likelihoods that stand
unfoldable pub row_value : SweepCase → ℕ → List ℕ → (ℕ → ℤ) → (ℕ → ℤ) → Row → ℕ → ℤ
row_value C v h L0 L1 row w =
    four_value C.mix (without (C.phased v) (L0 row.fragment) row.call (allele0 h v)) (without (C.phased v) (L1 row.fragment) row.call (allele1 h v)) row.call w

-- the sum of value w over the rows of allele x
unfoldable pub allele_sum : (Row → ℕ → ℤ) → List Row → ℕ → ℕ → ℤ
allele_sum value rows x w = sum_over rows (λ row. cond (eqb row.call.allele x) (value row w) (pos 0))

-- ---- sweeps
-- some visit of the sweep changed its pair
unfoldable pub changed : SweepCase → List ℕ → List ℕ → Bool
changed C [] h = false
changed C (v ∷ vs) h = not (same_haps h (visit C v h)) || changed C vs (visit C v h)

-- no entry of an order stands in it twice
unfoldable pub distinct : List ℕ → Bool
distinct [] = true
distinct (v ∷ vs) = not (member v vs) && distinct vs
