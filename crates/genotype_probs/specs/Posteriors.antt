-- 01, section 4, as amended by request 4: tables of k × k log probabilities, row-major, and the qualities that they give. All entries are finite.
-- Assumes nothing.
use Rattle.std.specs.Prelude.{◌≡◌, Bool, true, cond, not, ◌||◌, List, [], ◌∷◌, map, ℕ, zero, suc, ◌+◌, ◌*◌, ◌/◌, ◌%◌, ◌<◌, eqb, ltb, Float, ℤ, pos, ◌-ℤ◌, get_or, ◌≤ℤ◌, ◌<ℤ◌}
use Rattle.std.specs.Int.Signed.{lt_z}
use Rattle.steps.specs.Logs.{Log, steps, add_exp, sum_exp, ln_sum_exp}
use Rattle.steps.specs.Phred.{phred_of, capped}
use Rattle.variants_and_fragments.specs.Decode.{tabulate}
use Rattle.variants_and_fragments.specs.Pileup.{only}
use Rattle.genotype_probs.specs.declared.posteriors.Genotype.{Genotype}

-- `ln_sum_exp` of finite ones (`sum_of` of proofs/TableSums.antt); it is not asked of none
unfoldable pub sum_of : List ℤ → ℤ
sum_of [] = pos 0
sum_of (x ∷ xs) = sum_exp x xs

-- entry (i, j)
unfoldable pub entry_at : List ℤ → ℕ → ℕ → ℕ → ℤ
entry_at tab k i j = get_or tab (i * k + j) (pos 0)

unfoldable pub row_sum : List ℤ → ℕ → ℕ → ℤ
row_sum tab k i = sum_of (tabulate k (entry_at tab k i))

-- the sum of row sums
unfoldable pub table_sum : List ℤ → ℕ → ℤ
table_sum tab k = sum_of (tabulate k (row_sum tab k))

-- `normalize` subtracts the sum of row sums: place p of the nine, zeros after the k × k entries
unfoldable pub normalized : List ℤ → ℕ → ℕ → ℤ
normalized tab k p = cond (ltb p (k * k)) (get_or tab p (pos 0) -ℤ table_sum tab k) (pos 0)

-- what `max_genotype_post` compares: unphased, (i, j) with i ≠ j scores `ln_add_exp` of both orders
unfoldable pub post_of : Bool → List ℤ → ℕ → ℕ → ℕ → ℤ
post_of phased tab k i j =
    cond (phased || eqb i j) (entry_at tab k i j) (add_exp (entry_at tab k i j) (entry_at tab k j i))

-- the same by the row-major number of the pair
unfoldable pub post_at : Bool → List ℤ → ℕ → ℕ → ℤ
post_at phased tab k p = post_of phased tab k (p / k) (p % k)

-- r is the first maximum of f 0, .., f (n − 1): none is greater, and each earlier one is less
pub record FirstMaximum (f : ℕ → ℤ) (n r : ℕ) : Type 0 where
  pub inside : r < n
  pub greatest : (p : ℕ) → p < n → f p ≤ℤ f r
  pub first : (p : ℕ) → p < r → f p <ℤ f r

-- the search for it, by strict >: where n > 0 it gives the number of the statement, which one number alone meets (`meets` and `one_maximum` of
-- proofs/Maxima.antt)
unfoldable pub first_maximum : (ℕ → ℤ) → ℕ → ℕ
first_maximum f zero = 0
first_maximum f (suc n) = let b = first_maximum f n in cond (lt_z (f b) (f n)) n b

-- the row-major number of the genotype that `max_genotype_post` keeps: the first row-major maximum (strict >), which is the first maximum of the
-- statement (`genotype_maximum` of proofs/Maxima.antt). This is the called pair
unfoldable pub max_genotype : Bool → List ℤ → ℕ → ℕ
max_genotype phased tab k = first_maximum (post_at phased tab k) (k * k)

-- the genotype of a row-major number
unfoldable pub genotype_of : ℕ → ℕ → Genotype
genotype_of k p = record { 0 = p / k; 1 = p % k }

-- ---- the qualities, of a normalised table

-- qual: Phred of pair (0, 0), capped. VCF's QUAL: −10 log10 of the probability that there is no variant
unfoldable pub qual_of : List ℤ → Float
qual_of tab = capped (phred_of (steps (get_or tab 0 (pos 0))))

-- the row-major number of a pair the other way round
unfoldable pub mirror : ℕ → ℕ → ℕ
mirror k p = p % k * k + p / k

-- q is neither the pair p nor its mirror m
unfoldable pub is_other : ℕ → ℕ → ℕ → Bool
is_other p m q = not (eqb q p || eqb q m)

-- the pairs other than p and its mirror, row-major
unfoldable pub others : ℕ → ℕ → List ℕ
others k p = only (is_other p (mirror k p)) (tabulate (k * k) (λ q. q))

-- the sum over them: the mark where there is none
unfoldable pub other_sum : List ℤ → ℕ → ℕ → Log
other_sum tab k p = ln_sum_exp (map (λ q. steps (get_or tab q (pos 0))) (others k p))

-- gq of the called pair p (section 4, as amended by request 4, and section 7): Phred of the sum over pairs other than the called one and its mirror,
-- capped. The VCF specification's field GQ: −10 log10 of the probability that the genotype call is wrong. VCF conditions it on the site's being
-- variant and rounds it to an integer; here neither is done
unfoldable pub gq_of : List ℤ → ℕ → ℕ → Float
gq_of tab k p = capped (phred_of (other_sum tab k p))

-- no jump to 500 (request 4): at two alleles or more the sum over the other pairs is a number of steps, not the mark, and no less than any of
-- these pairs has. gq is Phred of that sum. Of every table: `others_counted` of proofs/OtherSums.antt
pub record OthersCounted (tab : List ℤ) (k p : ℕ) : Type 0 where
  pub sum : ℤ
  pub sum_is : other_sum tab k p ≡ steps sum
  pub most : (q : ℕ) → q < k * k → is_other p (mirror k p) q ≡ true → get_or tab q (pos 0) ≤ℤ sum
