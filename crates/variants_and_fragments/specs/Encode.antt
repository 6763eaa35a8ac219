-- 01, section 2, as amended by requests 1 and 3: words and allele bytes made of a case, from which `decode` gives back every case of at most three
-- alleles per variant whose absent fragments have no calls (`decode_encode` of proofs/Encoded.antt). Every record is used.
-- Records are numbered fragment after fragment, and a fragment's chain goes through consecutive records. Samples make their words here; that the check accepts them is shown of these samples, and not in general. Assumes nothing.
use Rattle.std.specs.Prelude.{cond, List, [], ◌∷◌, ◌++◌, map, ℕ, suc, ◌+◌, ℤ, pos, negsuc, length, set, replicate}
use Rattle.variants_and_fragments.specs.Case.{Case, Variant, Fragment, Call, allele_count, call_count}
use Rattle.variants_and_fragments.specs.Layout.{head_words, variant_words, fragment_words, call_words, variants_field, fragments_field, calls_field, cutoff_field, used_field, free_field, pos0_field, depth_field, genotype_field, allele_count_field, length_field, first_field, strand_field, variant_field, allele_field, qual_field, one_minus_qual_field, next_field}

-- a record of n words: each field at its place, and 0 in each word that none of them fills
unfoldable pub laid : ℕ → List (ℕ × ℤ) → List ℤ
laid n [] = replicate n (pos 0)
laid n (field ∷ fields) = set (laid n fields) field.0 field.1

-- lists one after the other
unfoldable pub joined : {X : Type 0} → List (List X) → List X
joined [] = []
joined (xs ∷ rest) = xs ++ joined rest

-- N, F, C, cutoff, used, and no free record
unfoldable pub head_of : Case → List ℤ
unfolding laid
head_of case =
    laid head_words
    ((variants_field, pos (length case.variants))
    ∷ (fragments_field, pos (length case.fragments))
    ∷ (calls_field, pos (call_count case))
    ∷ (cutoff_field, case.cutoff)
    ∷ (used_field, pos (call_count case))
    ∷ (free_field, pos 0)
    ∷ [])

-- the lengths of alleles, from place i on
unfoldable pub lengths_from : ℕ → List (List ℕ) → List (ℕ × ℤ)
lengths_from i [] = []
lengths_from i (allele ∷ alleles) = (i, pos (length allele)) ∷ lengths_from (suc i) alleles

-- pos0, dp, genotype a and b, allele count, allele lengths
unfoldable pub variant_record : Variant → List ℤ
unfolding laid lengths_from
variant_record v =
    laid variant_words
    ((pos0_field, pos v.pos0)
    ∷ (depth_field, pos v.dp)
    ∷ (genotype_field, pos v.genotype0)
    ∷ (suc genotype_field, pos v.genotype1)
    ∷ (allele_count_field, pos (allele_count v))
    ∷ lengths_from length_field v.alleles)

-- the record of the first of these calls, which are numbered from r on; 0 where there is none
unfoldable pub first_of : ℕ → List Call → ℕ
first_of r [] = 0
first_of r (call ∷ calls) = r

-- the first call of a fragment whose calls are numbered from r on; −1 where it is absent
unfoldable pub first_word : ℕ → Fragment → ℤ
unfolding first_of
first_word r fragment = cond fragment.present (pos (first_of r fragment.calls)) (negsuc 0)

-- first call, strand; the fragments' calls are numbered from r on
unfoldable pub fragment_records : ℕ → List Fragment → List ℤ
unfolding laid first_word
fragment_records r [] = []
fragment_records r (fragment ∷ rest) =
    laid fragment_words ((first_field, first_word r fragment) ∷ (strand_field, pos fragment.strand) ∷ [])
    ++ fragment_records (r + length fragment.calls) rest

-- variant, allele, qual, one_minus_qual, next; the calls of one fragment, numbered from r on
unfoldable pub call_records : ℕ → List Call → List ℤ
unfolding laid first_of
call_records r [] = []
call_records r (call ∷ calls) =
    laid call_words
    ((variant_field, pos call.variant)
    ∷ (allele_field, pos call.allele)
    ∷ (qual_field, call.qual)
    ∷ (one_minus_qual_field, call.one_minus_qual)
    ∷ (next_field, pos (first_of (suc r) calls))
    ∷ [])
    ++ call_records (suc r) calls

unfoldable pub chain_records : ℕ → List Fragment → List ℤ
unfolding call_records
chain_records r [] = []
chain_records r (fragment ∷ rest) = call_records r fragment.calls ++ chain_records (r + length fragment.calls) rest

unfoldable pub encode_words : Case → List ℤ
unfolding joined head_of variant_record fragment_records chain_records
encode_words case = head_of case ++ (joined (map variant_record case.variants) ++ (fragment_records 1 case.fragments ++ chain_records 1 case.fragments))

unfoldable pub encode_bases : Case → List ℕ
unfolding joined
encode_bases case = joined (map (λ v. joined v.alleles) case.variants)
