-- Three closed cases, by computation: decoding gives the encoded case back, as it does in general (Encoded.antt), and the check accepts it.
-- Assumes nothing.
use mathlib.Core.Path.{◌≡◌, refl}
use mathlib.Core.Bool.{true, false}
use mathlib.Core.List.{[], ◌∷◌, ◌++◌}
use Prim.Native.Nat.{ℕ}
use lib.IntN.{ℤ, pos, neg_ℤ}
use lib.ListN.{replicate}
use Rattle.variants_and_fragments.specs.Refusals.{done, unless, each}
use Rattle.variants_and_fragments.specs.Words.{within, below}
use Rattle.variants_and_fragments.specs.First.{first_fail_from, first_fail, holds_below}
use Rattle.variants_and_fragments.specs.Sums.{count_over}
use Rattle.variants_and_fragments.specs.Case.{Case, Fragment}
use Rattle.variants_and_fragments.specs.Layout.{variant_ok, call_ok}
use Rattle.variants_and_fragments.specs.Chain.{chain_from, chain_of, memb, reached, link_ok, good_chain, fragment_ok, is_reached, reached_call_ok, free_chain, in_chain, free_ok}
use Rattle.variants_and_fragments.specs.Alleles.{alleles_start, alleles_ok}
use Rattle.variants_and_fragments.specs.Check.{check_case_and_haplotypes_outcome, check_case_outcome}
use Rattle.variants_and_fragments.specs.Decode.{tabulate_from, allele_start, allele_at, variant_from, call_from, fragment_from, decode}
use Rattle.variants_and_fragments.specs.Encode.{encode_words, encode_bases}

-- −n
abbrev pub neg : ℕ → ℤ
neg n = neg_ℤ (pos n)

-- no variant and no fragment
abbrev pub empty_case : Case
empty_case = record { variants = []; fragments = []; cutoff = neg 2000 }

pub empty_decoded : decode (encode_words empty_case) (encode_bases empty_case) ≡ empty_case
unfolding decode tabulate_from encode_words encode_bases count_over
empty_decoded = refl

pub empty_accepted : check_case_outcome (encode_words empty_case) (encode_bases empty_case) ≡ done (record { n = 0; f = 0; c = 0; used = 0; free = 0; cutoff = neg 2000 })
unfolding encode_words encode_bases count_over check_case_outcome check_case_and_haplotypes_outcome unless each within first_fail_from first_fail holds_below alleles_start is_reached reached_call_ok reached good_chain chain_from free_chain free_ok
empty_accepted = refl

-- an SNV A/G, then an indel A/AC/G with three alleles; one fragment calls both, one is absent, one calls the second only
abbrev pub small_case : Case
small_case = record {
  variants =
      record { pos0 = 10; dp = 7; genotype0 = 0; genotype1 = 1; alleles = (65 ∷ []) ∷ (71 ∷ []) ∷ [] }
      ∷ record { pos0 = 10; dp = 0; genotype0 = 2; genotype1 = 1; alleles = (65 ∷ []) ∷ (65 ∷ 67 ∷ []) ∷ (71 ∷ []) ∷ [] }
      ∷ [];
  fragments =
      record {
        present = true;
        strand = 1;
        calls =
            record { variant = 0; allele = 1; qual = neg 5796; one_minus_qual = neg 1700 }
            ∷ record { variant = 1; allele = 2; qual = neg 2000; one_minus_qual = pos 0 }
            ∷ [];
      }
      ∷ record { present = false; strand = 1; calls = [] }
      ∷ record { present = true; strand = 0; calls = record { variant = 1; allele = 0; qual = neg 262144; one_minus_qual = neg 1 } ∷ [] }
      ∷ [];
  cutoff = neg 2000;
}

pub small_decoded : decode (encode_words small_case) (encode_bases small_case) ≡ small_case
unfolding decode tabulate_from variant_from allele_at allele_start alleles_start fragment_from call_from chain_of chain_from encode_words encode_bases count_over
small_decoded = refl

pub small_accepted : check_case_outcome (encode_words small_case) (encode_bases small_case) ≡ done (record { n = 2; f = 3; c = 3; used = 3; free = 0; cutoff = neg 2000 })
unfolding encode_words encode_bases count_over check_case_outcome check_case_and_haplotypes_outcome unless each within below first_fail_from first_fail holds_below variant_ok call_ok link_ok chain_from chain_of memb reached good_chain fragment_ok is_reached reached_call_ok free_chain in_chain free_ok alleles_start alleles_ok
small_accepted = refl

-- as many fragments of one call as 01's sample (j) has: 113 reads each of A and G
abbrev pub read_of : ℕ → Fragment
read_of allele = record { present = true; strand = 0; calls = record { variant = 0; allele = allele; qual = neg 5796; one_minus_qual = neg 1700 } ∷ [] }

abbrev pub reads_case : Case
reads_case = record {
  variants = record { pos0 = 0; dp = 0; genotype0 = 0; genotype1 = 1; alleles = (65 ∷ []) ∷ (71 ∷ []) ∷ [] } ∷ [];
  fragments = replicate 113 (read_of 0) ++ replicate 113 (read_of 1);
  cutoff = neg 2000;
}

pub reads_decoded : decode (encode_words reads_case) (encode_bases reads_case) ≡ reads_case
unfolding decode tabulate_from variant_from allele_at allele_start alleles_start fragment_from call_from chain_of chain_from encode_words encode_bases count_over
reads_decoded = refl

pub reads_accepted : check_case_outcome (encode_words reads_case) (encode_bases reads_case) ≡ done (record { n = 1; f = 226; c = 226; used = 226; free = 0; cutoff = neg 2000 })
unfolding encode_words encode_bases count_over check_case_outcome check_case_and_haplotypes_outcome unless each within below first_fail_from first_fail holds_below variant_ok call_ok link_ok chain_from chain_of memb reached good_chain fragment_ok is_reached reached_call_ok free_chain in_chain free_ok alleles_start alleles_ok
reads_accepted = refl
