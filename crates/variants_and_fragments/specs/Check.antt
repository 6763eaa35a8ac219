-- 01, "Refusals by number and place", numbers 1 to 5 as amended by requests 1, 3 and 5: the outcome of the check of a case.
-- Assumes nothing.
use Rattle.std.specs.Prelude.{Result, List, [], ℕ, leb, eqb, ℤ, pos, length}
use Rattle.variants_and_fragments.specs.declared.Sizes.{Sizes}
use Rattle.variants_and_fragments.specs.declared.Refusal.{Refusal}
use Rattle.variants_and_fragments.specs.declared.laid.Case.{Case}
use Rattle.variants_and_fragments.specs.Refusals.{Outcome, done, answered, unless, each}
use Rattle.variants_and_fragments.specs.Words.{word, within}
use Rattle.variants_and_fragments.specs.Layout.{head_words, max_variants, max_fragments, max_calls, lowest_quality, variants_field, fragments_field, calls_field, used_field, free_field, cutoff_at, sizes_of, total_words, variant_ok}
use Rattle.variants_and_fragments.specs.Chain.{reached_call_ok, fragment_ok, free_ok}
use Rattle.variants_and_fragments.specs.Alleles.{alleles_start, alleles_ok}

-- The table's lines in their order, for an operation that takes haplotypes h as input; else done, with the sizes that the head gives.
-- 1: a word 0..5 of the head; 6 for a wrong length; 0 under six words. 2: the variant, the later one where pos0 falls.
-- 3: N for a wrong length, else the variant. 4: the record, from 1, among those that some fragment reaches. 5: the fragment, the later one if
-- shared; F for a fault of the free chain, a record that it shares, or a used record in no chain
unfoldable pub check_case_and_haplotypes_outcome : List ℤ → List ℕ → List ℕ → Outcome Sizes
check_case_and_haplotypes_outcome w b h = let s = sizes_of w in
    unless (leb head_words (length w)) 1 0
    (unless (within (pos 0) (pos max_variants) (word w variants_field)) 1 0
    (unless (within (pos 0) (pos max_fragments) (word w fragments_field)) 1 1
    (unless (within (pos 0) (pos max_calls) (word w calls_field)) 1 2
    (unless (within lowest_quality (pos 0) (cutoff_at w)) 1 3
    (unless (within (pos 0) (pos s.c) (word w used_field)) 1 4
    (unless (within (pos 0) (pos s.used) (word w free_field)) 1 5
    (unless (eqb (length w) (total_words s)) 1 6
    (each 2 (variant_ok w h) 0 s.n
    (unless (eqb (length b) (alleles_start w s.n)) 3 s.n
    (each 3 (alleles_ok w b) 0 s.n
    (each 4 (reached_call_ok w s) 1 s.used
    (each 5 (fragment_ok w s) 0 s.f
    (unless (free_ok w s) 5 s.f
    (done s))))))))))))))

-- the same for an operation that takes none
unfoldable pub check_case_outcome : List ℤ → List ℕ → Outcome Sizes
check_case_outcome w b = check_case_and_haplotypes_outcome w b []

-- the answer as an outcome: the sizes of the case
abbrev pub outcome_of : Result Case Refusal → Outcome Sizes
outcome_of answer = answered (λ case. case.laid.sizes) answer
