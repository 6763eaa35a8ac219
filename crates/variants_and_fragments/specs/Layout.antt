-- 01, section 2, as amended by requests 1, 3 and 5: the layout of a case, the one place that knows where a word stands; and under the numbers 2 and 4 of
-- "Refusals by number and place" what is asked of a variant record and of a call record. w is the words, s the sizes.
-- Assumes nothing.
use Rattle.std.specs.Prelude.{Bool, true, cond, ◌&&◌, List, [], ◌∷◌, ℕ, ◌+◌, ◌*◌, ◌-◌, ℤ, pos, neg_ℤ, length, get_or, set, ltb, eqb}
use Rattle.std.specs.Int.Signed.{le_z}
use Rattle.variants_and_fragments.specs.declared.Sizes.{Sizes}
use Rattle.variants_and_fragments.specs.declared.CallWords.{CallWords}
use Rattle.variants_and_fragments.specs.Words.{word, within, below, nat_of, nat_at}

-- ---- the numbers of section 2, as amended by requests 1, 3 and 5
-- words of the head, of a variant, a fragment, a call
abbrev pub head_words : ℕ
head_words = 6

abbrev pub variant_words : ℕ
variant_words = 8

abbrev pub fragment_words : ℕ
fragment_words = 2

abbrev pub call_words : ℕ
call_words = 5

-- the most variants, fragments and calls
abbrev pub max_variants : ℕ
max_variants = 1024

abbrev pub max_fragments : ℕ
max_fragments = 4096

abbrev pub max_calls : ℕ
max_calls = 16384

-- the most alleles of a variant, and the most bases of an allele
abbrev pub max_alleles : ℕ
max_alleles = 3

abbrev pub max_allele_length : ℕ
max_allele_length = 64

-- strands are in 0..3 (request 5)
abbrev pub max_strand : ℕ
max_strand = 3

-- the cutoff and both qualities are in −262144..0
abbrev pub lowest_quality : ℤ
lowest_quality = neg_ℤ (pos 262144)

-- ---- the fields, each by its place in its record
-- of the head: N, F, C, the cutoff, how many records are used (request 1), and the first free record or zero (request 3)
abbrev pub variants_field : ℕ
variants_field = 0

abbrev pub fragments_field : ℕ
fragments_field = 1

abbrev pub calls_field : ℕ
calls_field = 2

abbrev pub cutoff_field : ℕ
cutoff_field = 3

abbrev pub used_field : ℕ
used_field = 4

abbrev pub free_field : ℕ
free_field = 5

-- of a variant; the genotype has 2 words, the lengths have 3
abbrev pub pos0_field : ℕ
pos0_field = 0

abbrev pub depth_field : ℕ
depth_field = 1

abbrev pub genotype_field : ℕ
genotype_field = 2

abbrev pub allele_count_field : ℕ
allele_count_field = 4

abbrev pub length_field : ℕ
length_field = 5

-- of a fragment
abbrev pub first_field : ℕ
first_field = 0

abbrev pub strand_field : ℕ
strand_field = 1

-- of a call
abbrev pub variant_field : ℕ
variant_field = 0

abbrev pub allele_field : ℕ
allele_field = 1

abbrev pub qual_field : ℕ
qual_field = 2

abbrev pub one_minus_qual_field : ℕ
one_minus_qual_field = 3

abbrev pub next_field : ℕ
next_field = 4

-- ---- where things stand
-- what the head says: N, F, C, how many records are used, the first free one, and the cutoff
abbrev pub cutoff_at : List ℤ → ℤ
cutoff_at w = word w cutoff_field

abbrev pub sizes_of : List ℤ → Sizes
sizes_of w = record { n = nat_at w variants_field; f = nat_at w fragments_field; c = nat_at w calls_field; used = nat_at w used_field; free = nat_at w free_field; cutoff = cutoff_at w }

abbrev pub total_words : Sizes → ℕ
total_words s = head_words + variant_words * s.n + fragment_words * s.f + call_words * s.c

-- where the record of variant v, of fragment f and of call r starts; calls are numbered from 1
abbrev pub variant_at : ℕ → ℕ
variant_at v = head_words + variant_words * v

abbrev pub fragment_at : Sizes → ℕ → ℕ
fragment_at s f = head_words + variant_words * s.n + fragment_words * f

abbrev pub call_at : Sizes → ℕ → ℕ
call_at s r = head_words + variant_words * s.n + fragment_words * s.f + call_words * (r - 1)

-- the word of a field of variant v, of fragment f and of call r
abbrev pub variant_word : List ℤ → ℕ → ℕ → ℤ
variant_word w v field = word w (variant_at v + field)

abbrev pub fragment_word : List ℤ → Sizes → ℕ → ℕ → ℤ
fragment_word w s f field = word w (fragment_at s f + field)

abbrev pub call_word : List ℤ → Sizes → ℕ → ℕ → ℤ
call_word w s r field = word w (call_at s r + field)

-- the words with z in a field of the head, of fragment f and of call r
abbrev pub head_set : List ℤ → ℕ → ℤ → List ℤ
head_set w field z = set w field z

abbrev pub fragment_set : List ℤ → Sizes → ℕ → ℕ → ℤ → List ℤ
fragment_set w s f field z = set w (fragment_at s f + field) z

abbrev pub call_set : List ℤ → Sizes → ℕ → ℕ → ℤ → List ℤ
call_set w s r field z = set w (call_at s r + field) z

-- the words with a call's four words and its next in record r
unfoldable pub call_put : List ℤ → Sizes → ℕ → CallWords → ℕ → List ℤ
call_put w s r call next =
    let w1 = call_set w s r variant_field call.variant in
    let w2 = call_set w1 s r allele_field call.allele in
    let w3 = call_set w2 s r qual_field call.qual in
    let w4 = call_set w3 s r one_minus_qual_field call.one_minus_qual in
    call_set w4 s r next_field (pos next)

-- the numbers of variant v; the genotype's two alleles are i = 0 and 1, the allele lengths j = 0, 1 and 2
abbrev pub pos0_at : List ℤ → ℕ → ℕ
pos0_at w v = nat_of (variant_word w v pos0_field)

abbrev pub depth_at : List ℤ → ℕ → ℕ
depth_at w v = nat_of (variant_word w v depth_field)

abbrev pub genotype_at : List ℤ → ℕ → ℕ → ℕ
genotype_at w v i = nat_of (variant_word w v (genotype_field + i))

abbrev pub allele_count_at : List ℤ → ℕ → ℕ
allele_count_at w v = nat_of (variant_word w v allele_count_field)

abbrev pub length_at : List ℤ → ℕ → ℕ → ℕ
length_at w v j = nat_of (variant_word w v (length_field + j))

-- of fragment f; where its first call is −1 it is absent (request 1)
abbrev pub first_call_at : List ℤ → Sizes → ℕ → ℕ
first_call_at w s f = nat_of (fragment_word w s f first_field)

abbrev pub present_at : List ℤ → Sizes → ℕ → Bool
present_at w s f = le_z (pos 0) (fragment_word w s f first_field)

abbrev pub strand_at : List ℤ → Sizes → ℕ → ℕ
strand_at w s f = nat_of (fragment_word w s f strand_field)

-- of call r, and its qualities
abbrev pub call_variant_at : List ℤ → Sizes → ℕ → ℕ
call_variant_at w s r = nat_of (call_word w s r variant_field)

abbrev pub called_allele_at : List ℤ → Sizes → ℕ → ℕ
called_allele_at w s r = nat_of (call_word w s r allele_field)

abbrev pub qual_at : List ℤ → Sizes → ℕ → ℤ
qual_at w s r = call_word w s r qual_field

abbrev pub one_minus_qual_at : List ℤ → Sizes → ℕ → ℤ
one_minus_qual_at w s r = call_word w s r one_minus_qual_field

abbrev pub next_call_at : List ℤ → Sizes → ℕ → ℕ
next_call_at w s r = nat_of (call_word w s r next_field)

-- ---- 2, a variant record
-- the position that variant v's may not fall below
abbrev pub prior_pos0_at : List ℤ → ℕ → ℤ
prior_pos0_at w v = cond (eqb v 0) (pos 0) (variant_word w (v - 1) pos0_field)

-- the length of allele j of k: 1..64 where present, 0 where absent
abbrev pub length_ok : List ℤ → ℕ → ℕ → Bool
length_ok w v j = let z = variant_word w v (length_field + j) in cond (ltb j (allele_count_at w v)) (within (pos 1) (pos max_allele_length) z) (within (pos 0) (pos 0) z)

-- all of some tests
abbrev pub all_of : List Bool → Bool
all_of [] = true
all_of (b ∷ []) = b
all_of (b ∷ c ∷ bs) = b && all_of (c ∷ bs)

-- haplotype i of variant v, 0 or 1, is below its k; where the slice does not go so far, nothing is asked here
abbrev pub haplotype_ok : List ℤ → List ℕ → ℕ → ℕ → Bool
haplotype_ok w h v i = cond (ltb (2 * v + i) (length h)) (ltb (get_or h (2 * v + i) 0) (allele_count_at w v)) true

-- pos0 ≥ 0, not falling; dp ≥ 0; k in 1..3; genotype a, b, each in 0..k−1; three allele lengths; and (request 1) each haplotype lent as
-- input below k
abbrev pub variant_tests : List ℤ → List ℕ → ℕ → List Bool
variant_tests w h v =
    le_z (pos 0) (variant_word w v pos0_field)
    ∷ le_z (prior_pos0_at w v) (variant_word w v pos0_field)
    ∷ le_z (pos 0) (variant_word w v depth_field)
    ∷ within (pos 1) (pos max_alleles) (variant_word w v allele_count_field)
    ∷ below (allele_count_at w v) (variant_word w v (genotype_field + 0))
    ∷ below (allele_count_at w v) (variant_word w v (genotype_field + 1))
    ∷ length_ok w v 0
    ∷ length_ok w v 1
    ∷ length_ok w v 2
    ∷ haplotype_ok w h v 0
    ∷ haplotype_ok w h v 1
    ∷ []

unfoldable pub variant_ok : List ℤ → List ℕ → ℕ → Bool
variant_ok w h v = all_of (variant_tests w h v)

-- ---- 4, a call record
-- of the first four words of a record: its variant is one of the case, its allele below that variant's k, and both qualities are in −262144..0
abbrev pub call_words_ok : List ℤ → Sizes → ℤ → ℤ → ℤ → ℤ → Bool
call_words_ok w s variant allele qual one_minus_qual =
    below s.n variant
    && (below (allele_count_at w (nat_of variant)) allele
    && (within lowest_quality (pos 0) qual && within lowest_quality (pos 0) one_minus_qual))

unfoldable pub call_ok : List ℤ → Sizes → ℕ → Bool
call_ok w s r = call_words_ok w s (call_word w s r variant_field) (call_word w s r allele_field) (qual_at w s r) (one_minus_qual_at w s r)
