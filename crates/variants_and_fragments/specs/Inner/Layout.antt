-- Words as long as their sizes say, and a variant whose words are in their ranges. Assumes nothing.
use Rattle.std.specs.Prelude.{◌≡◌, Bool, true, cond, ◌&&◌, List, ℕ, ◌≤◌, ◌<◌, leb, ltb, eqb, length, ℤ, pos}
use Rattle.std.specs.Int.Signed.{le_z}
use Rattle.variants_and_fragments.specs.declared.Sizes.{Sizes}
use Rattle.variants_and_fragments.specs.declared.CallWords.{CallWords}
use Rattle.variants_and_fragments.specs.Layout.{max_variants, max_fragments, max_calls, max_alleles, max_allele_length, total_words, pos0_field, depth_field, variant_field, allele_field, call_word, qual_at, one_minus_qual_at, variant_word, genotype_at, allele_count_at, length_at, prior_pos0_at}

-- the words of w are laid out by s
pub record Sized (w : List ℤ) (s : Sizes) : Type 0 where
  pub size : length w ≡ total_words s
  pub n_top : s.n ≤ max_variants
  pub f_top : s.f ≤ max_fragments
  pub c_top : s.c ≤ max_calls
  pub used_top : s.used ≤ s.c
  pub free_top : s.free ≤ s.used

-- the first four words of record r
abbrev pub call_words_at : List ℤ → Sizes → ℕ → CallWords
call_words_at w s r = record { variant = call_word w s r variant_field; allele = call_word w s r allele_field; qual = qual_at w s r; one_minus_qual = one_minus_qual_at w s r }

-- the length x of allele j of k: 1..64 where present, 0 where absent
abbrev pub length_test : ℕ → ℕ → ℕ → Bool
length_test j k x = cond (ltb j k) (leb 1 x && leb x max_allele_length) (eqb x 0)

-- what the tests say; the lengths of alleles that are present are at least 1, the others 0
pub record VariantIn (w : List ℤ) (v : ℕ) : Type 0 where
  pub pos_in : le_z (pos 0) (variant_word w v pos0_field) ≡ true
  pub rises : le_z (prior_pos0_at w v) (variant_word w v pos0_field) ≡ true
  pub dp_in : le_z (pos 0) (variant_word w v depth_field) ≡ true
  pub k_low : 1 ≤ allele_count_at w v
  pub k_high : allele_count_at w v ≤ max_alleles
  pub a_in : genotype_at w v 0 < allele_count_at w v
  pub b_in : genotype_at w v 1 < allele_count_at w v
  pub len0 : length_at w v 0 ≤ max_allele_length
  pub len1 : length_at w v 1 ≤ max_allele_length
  pub len2 : length_at w v 2 ≤ max_allele_length
  pub present : (j : ℕ) → j < allele_count_at w v → 1 ≤ length_at w v j
  pub absent : (j : ℕ) → allele_count_at w v ≤ j → j < max_alleles → length_at w v j ≡ 0
