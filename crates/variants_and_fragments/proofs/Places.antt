-- Small cases with their outcomes, computed: an accepted one, and one for each kind of place in the table under 1 to 5.
-- Assumes nothing.
use mathlib.Core.Path.{◌≡◌, refl}
use mathlib.Core.List.{List, [], ◌∷◌, ◌++◌}
use Prim.Native.Nat.{ℕ}
use lib.IntN.{ℤ, pos, negsuc, neg_ℤ}
use Rattle.variants_and_fragments.specs.First.{first_fail_from, first_fail, holds_below}
use Rattle.variants_and_fragments.specs.Words.{within, below}
use Rattle.variants_and_fragments.specs.Layout.{head_words, fragment_words, call_words, variants_field, fragments_field, calls_field, cutoff_field, used_field, free_field, first_field, strand_field, variant_field, allele_field, qual_field, one_minus_qual_field, next_field, variant_ok, call_ok}
use Rattle.variants_and_fragments.specs.Chain.{chain_from, chain_of, memb, reached, link_ok, good_chain, fragment_ok, is_reached, reached_call_ok, free_chain, in_chain, free_ok}
use Rattle.variants_and_fragments.specs.Alleles.{alleles_start, alleles_ok}
use Rattle.variants_and_fragments.specs.Refusals.{refused, done, unless, each}
use Rattle.variants_and_fragments.specs.Check.{check_case_and_haplotypes_outcome, check_case_outcome}
use Rattle.variants_and_fragments.specs.Encode.{laid, variant_record}

head_using : ℕ → ℕ → ℕ → ℕ → ℤ → List ℤ
head_using n f c cut used = laid head_words ((variants_field, pos n) ∷ (fragments_field, pos f) ∷ (calls_field, pos c) ∷ (cutoff_field, neg_ℤ (pos cut)) ∷ (used_field, used) ∷ [])

-- every record is used
head : ℕ → ℕ → ℕ → ℕ → List ℤ
head n f c cut = head_using n f c cut (pos c)

-- with a first free record
head_free : ℕ → ℕ → ℕ → ℕ → ℕ → List ℤ
head_free n f c used free = laid head_words ((variants_field, pos n) ∷ (fragments_field, pos f) ∷ (calls_field, pos c) ∷ (used_field, pos used) ∷ (free_field, pos free) ∷ [])

-- an A/G variant at a position, called (0,1)
snv : ℕ → List ℤ
snv p = variant_record (record { pos0 = p; dp = 5; genotype0 = 0; genotype1 = 1; alleles = (65 ∷ []) ∷ (71 ∷ []) ∷ [] })

fragment : ℕ → ℕ → List ℤ
fragment first strand = laid fragment_words ((first_field, pos first) ∷ (strand_field, pos strand) ∷ [])

-- one that is absent
absent : ℕ → List ℤ
absent strand = laid fragment_words ((first_field, negsuc 0) ∷ (strand_field, pos strand) ∷ [])

call : ℕ → ℕ → ℕ → List ℤ
call variant allele next = laid call_words ((variant_field, pos variant) ∷ (allele_field, pos allele) ∷ (qual_field, neg_ℤ (pos 5796)) ∷ (one_minus_qual_field, neg_ℤ (pos 1700)) ∷ (next_field, pos next) ∷ [])

ag : List ℕ
ag = 65 ∷ 71 ∷ []

record Places : Type 0 where
  accepted : check_case_outcome (head 1 1 1 2000 ++ snv 10 ++ fragment 1 0 ++ call 0 1 0) ag ≡ done (record { n = 1; f = 1; c = 1; used = 1; free = 0; cutoff = neg_ℤ (pos 2000) })
  -- 1: under six words; a negative count; a cutoff one too low; more records used than there are; a first free record past those used; a word too
  -- many
  few_words : check_case_outcome (pos 0 ∷ pos 0 ∷ pos 0 ∷ pos 0 ∷ pos 0 ∷ []) [] ≡ refused 1 0
  negative_count : check_case_outcome (laid head_words ((fragments_field, negsuc 0) ∷ [])) [] ≡ refused 1 1
  low_cutoff : check_case_outcome (head 0 0 0 262145) [] ≡ refused 1 3
  over_used : check_case_outcome (head_using 0 0 0 0 (pos 1)) [] ≡ refused 1 4
  over_free : check_case_outcome (head_free 0 0 1 1 2) [] ≡ refused 1 5
  long_case : check_case_outcome (head 0 0 0 0 ++ (pos 0 ∷ [])) [] ≡ refused 1 6
  -- 2: pos0 falls at the later one
  falling : check_case_outcome (head 2 0 0 0 ++ snv 10 ++ snv 9) (ag ++ ag) ≡ refused 2 1
  level : check_case_outcome (head 2 0 0 0 ++ snv 10 ++ snv 10) (ag ++ ag) ≡ done (record { n = 2; f = 0; c = 0; used = 0; free = 0; cutoff = pos 0 })
  -- 3: the wrong length comes before a wrong byte
  wrong_byte : check_case_outcome (head 2 0 0 0 ++ snv 10 ++ snv 11) (65 ∷ 71 ∷ 65 ∷ 103 ∷ []) ≡ refused 3 1
  wrong_length : check_case_outcome (head 2 0 0 0 ++ snv 10 ++ snv 11) (103 ∷ []) ≡ refused 3 2
  -- 4: records are numbered from 1
  wrong_allele : check_case_outcome (head 1 1 1 0 ++ snv 10 ++ fragment 1 0 ++ call 0 2 0) ag ≡ refused 4 1
  no_variant : check_case_outcome (head 0 1 1 0 ++ fragment 1 0 ++ call 0 0 0) [] ≡ refused 4 1
  -- found past a link back and past a strand that is 5's; not looked for where no fragment comes, nor in the unused tail
  past_link_back : check_case_outcome (head 1 1 2 0 ++ snv 10 ++ fragment 2 4 ++ call 0 2 2 ++ call 0 1 1) ag ≡ refused 4 1
  free_call : check_case_outcome (head_free 1 2 2 2 2 ++ snv 10 ++ fragment 1 0 ++ absent 1 ++ call 0 1 0 ++ call 7 7 0) ag ≡ done (record { n = 1; f = 2; c = 2; used = 2; free = 2; cutoff = pos 0 })
  unused : check_case_outcome (head_using 1 1 2 0 (pos 1) ++ snv 10 ++ fragment 1 0 ++ call 0 1 0 ++ call 7 7 9) ag ≡ done (record { n = 1; f = 1; c = 2; used = 1; free = 0; cutoff = pos 0 })
  -- strands 2 and 3 are those of muted fragments (request 5)
  muted : check_case_outcome (head 1 2 1 0 ++ snv 10 ++ fragment 1 2 ++ absent 3 ++ call 0 1 0) ag ≡ done (record { n = 1; f = 2; c = 1; used = 1; free = 0; cutoff = pos 0 })
  -- 5: the strand, of an absent fragment too; a chain into the tail; the later of two that share a record; a variant that does not rise
  wrong_strand : check_case_outcome (head 1 1 1 0 ++ snv 10 ++ fragment 1 4 ++ call 0 1 0) ag ≡ refused 5 0
  absent_strand : check_case_outcome (head 1 1 0 0 ++ snv 10 ++ absent 4) ag ≡ refused 5 0
  into_tail : check_case_outcome (head_using 1 1 1 0 (pos 0) ++ snv 10 ++ fragment 1 0 ++ call 0 1 0) ag ≡ refused 5 0
  shared : check_case_outcome (head 1 2 1 0 ++ snv 10 ++ fragment 1 0 ++ fragment 1 0 ++ call 0 1 0) ag ≡ refused 5 1
  not_rising : check_case_outcome (head 1 1 2 0 ++ snv 10 ++ fragment 1 0 ++ call 0 1 2 ++ call 0 1 0) ag ≡ refused 5 0
  -- a chain may go back through the records (request 3)
  link_back : check_case_outcome (head 2 1 2 0 ++ snv 10 ++ snv 10 ++ fragment 2 0 ++ call 1 1 0 ++ call 0 1 1) (ag ++ ag) ≡ done (record { n = 2; f = 1; c = 2; used = 2; free = 0; cutoff = pos 0 })
  -- place F: a used record in no chain; a free chain that shares a fragment's record, that comes back to its own, and whose next is none
  no_chain : check_case_outcome (head 1 1 2 0 ++ snv 10 ++ fragment 1 0 ++ call 0 1 0 ++ call 0 1 0) ag ≡ refused 5 1
  free_shared : check_case_outcome (head_free 1 1 1 1 1 ++ snv 10 ++ fragment 1 0 ++ call 0 1 0) ag ≡ refused 5 1
  free_back : check_case_outcome (head_free 0 0 2 2 2 ++ call 0 0 2 ++ call 0 0 1) [] ≡ refused 5 0
  free_next : check_case_outcome (head_free 0 0 2 1 1 ++ call 0 0 2 ++ call 0 0 0) [] ≡ refused 5 0
  all_free : check_case_outcome (head_free 0 0 2 2 2 ++ call 7 7 0 ++ call 7 7 1) [] ≡ done (record { n = 0; f = 0; c = 2; used = 2; free = 2; cutoff = pos 0 })
  -- 2, of haplotypes that are there
  wrong_haplotype : check_case_and_haplotypes_outcome (head 2 0 0 0 ++ snv 10 ++ snv 11) (ag ++ ag) (1 ∷ 0 ∷ 2 ∷ []) ≡ refused 2 1

places : Places
unfolding head_using head head_free snv fragment absent call ag laid variant_record check_case_outcome check_case_and_haplotypes_outcome unless each within below first_fail_from first_fail holds_below variant_ok call_ok link_ok chain_from chain_of memb reached good_chain fragment_ok is_reached reached_call_ok free_chain in_chain free_ok alleles_start alleles_ok
places = record {
  accepted = refl;
  few_words = refl;
  negative_count = refl;
  low_cutoff = refl;
  over_used = refl;
  over_free = refl;
  long_case = refl;
  falling = refl;
  level = refl;
  wrong_byte = refl;
  wrong_length = refl;
  wrong_allele = refl;
  no_variant = refl;
  past_link_back = refl;
  free_call = refl;
  unused = refl;
  muted = refl;
  wrong_strand = refl;
  absent_strand = refl;
  into_tail = refl;
  shared = refl;
  not_rising = refl;
  link_back = refl;
  no_chain = refl;
  free_shared = refl;
  free_back = refl;
  free_next = refl;
  all_free = refl;
  wrong_haplotype = refl;
}
