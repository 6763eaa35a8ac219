-- 01, section 5: the given phase. A byte and a set for each variant. The bytes and sets are those of HapCUT2; a set's name is VCF's phase set
-- (PS): the position, from 1, of the first variant of the set.
-- Assumes nothing.
use Rattle.std.specs.Prelude.{Bool, false, not, cond, ◌&&◌, ◌||◌, List, ℕ, zero, suc, ◌+◌, ◌*◌, ◌/◌, ◌%◌, leb, eqb, ℤ, pos, negsuc, length, get_or}
use Rattle.variants_and_fragments.specs.Refusals.{earlier}
use Rattle.variants_and_fragments.specs.Case.{Case, Variant, allele_count, allele_of, variant_of}
use Rattle.variants_and_fragments.specs.Decode.{tabulate}

-- a flag as a byte
abbrev pub flag_of : Bool → ℕ
flag_of b = cond b 1 0

-- the bytes '0' and '1'
abbrev pub phase0 : ℕ
phase0 = 48

abbrev pub phase1 : ℕ
phase1 = 49

abbrev pub is_phase : ℕ → Bool
is_phase byte = eqb byte phase0 || eqb byte phase1

abbrev pub low : ℕ → ℕ → ℕ
low a b = cond (leb a b) a b

abbrev pub high : ℕ → ℕ → ℕ
high a b = cond (leb a b) b a

-- '0' orders a genotype a, b low, high; '1' high, low; another byte leaves it: what comes first, and second
unfoldable pub ordered_first : ℕ → ℕ → ℕ → ℕ
ordered_first byte a b = cond (eqb byte phase0) (low a b) (cond (eqb byte phase1) (high a b) a)

unfoldable pub ordered_second : ℕ → ℕ → ℕ → ℕ
ordered_second byte a b = cond (eqb byte phase0) (high a b) (cond (eqb byte phase1) (low a b) b)

-- the phased rule without the byte: k ≥ 2, a heterozygous genotype a, b, and alleles 0 and 1 of length 1
unfoldable pub phased_test : ℕ → ℕ → ℕ → ℕ → ℕ → Bool
phased_test k a b length0 length1 = leb 2 k && (not (eqb a b) && (eqb length0 1 && eqb length1 1))

unfoldable pub phased_rule : Variant → Bool
phased_rule variant =
    phased_test (allele_count variant) variant.genotype0 variant.genotype1 (length (allele_of variant 0))
    (length (allele_of variant 1))

-- a variant is phased when the rule holds and its byte is '0' or '1'
unfoldable pub phased : ℕ → Variant → Bool
phased byte variant = phased_rule variant && is_phase byte

-- the phase byte of variant v
abbrev pub byte_of : List ℕ → ℕ → ℕ
byte_of bytes v = get_or bytes v 0

-- which variants are phased
unfoldable pub phased_flags : Case → List ℕ → ℕ → Bool
phased_flags case bytes v = phased (byte_of bytes v) (variant_of case v)

-- 2 bytes per variant: what stands at place i of a flat list of pairs
unfoldable pub pair_place : (ℕ → ℕ) → (ℕ → ℕ) → ℕ → ℕ
pair_place first second i = cond (eqb (i % 2) 0) (first (i / 2)) (second (i / 2))

-- the start haplotypes: each genotype ordered by its byte
unfoldable pub start_allele : Case → List ℕ → ℕ → ℕ
start_allele case bytes =
    pair_place (λ v. ordered_first (byte_of bytes v) (variant_of case v).genotype0 (variant_of case v).genotype1)
    (λ v. ordered_second (byte_of bytes v) (variant_of case v).genotype0 (variant_of case v).genotype1)

unfoldable pub start_haplotypes : Case → List ℕ → List ℕ
start_haplotypes case bytes = tabulate (2 * length case.variants) (start_allele case bytes)

-- ---- set names, where 0 is none

-- a variant's set is s; a negative one is none
abbrev pub is_set : ℤ → ℕ → Bool
is_set (pos n) s = eqb n s
is_set (negsuc n) s = false

-- the least pos0 + 1 of the variants below n whose set is s
unfoldable pub name_below : (ℕ → ℕ) → List ℤ → ℕ → ℕ → ℕ
name_below pos0 sets s zero = 0
name_below pos0 sets s (suc v) =
    cond (is_set (get_or sets v (pos 0)) s) (earlier (name_below pos0 sets s v) (pos0 v + 1)) (name_below pos0 sets s v)

-- read over all variants with that set
unfoldable pub set_name : Case → List ℤ → ℕ → ℕ
set_name case sets s = name_below (λ v. (variant_of case v).pos0) sets s (length case.variants)

-- a negative set means none
unfoldable pub name_of_set : (ℕ → ℕ) → ℤ → ℕ
name_of_set name (pos s) = name s
name_of_set name (negsuc s) = 0

-- a byte other than '0' and '1' means none
unfoldable pub phase_name : Case → List ℕ → List ℤ → ℕ → ℕ
phase_name case bytes sets v = cond (is_phase (byte_of bytes v)) (name_of_set (set_name case sets) (get_or sets v (pos 0))) 0
