-- 01's sample line, computed on the definition, and what the line leaves out.
-- Assumes nothing.
use mathlib.Core.Path.{◌≡◌, refl}
use mathlib.Core.Bool.{true, false}
use mathlib.Core.List.{List, [], ◌∷◌}
use Prim.Native.Nat.{ℕ}
use lib.IntN.{pos, neg_ℤ}
use lib.Ieee.{mul, div, of_int, of_bits, lt, le}
use Rattle.steps.specs.Phred.{scale, max_vcf_qual, phred_of, count_up_to, quality_byte}
use Rattle.variants_and_fragments.specs.Case.{Case, Variant, Fragment, Call, usable}
use Rattle.variants_and_fragments.specs.Pileup.{only}
use Rattle.haplotype_assembly.specs.Phase.{phased_test, phased_rule}
use Rattle.haplotype_assembly.specs.Lines.{strand_byte, decimal_from, decimal, line_calls, blocks, block_start, allele_bytes, call_quality, line_of, has_line, lines_from, flist_buffer}

abbrev snv : ℕ → Variant
snv p = record { pos0 = p; dp = 0; genotype0 = 0; genotype1 = 1; alleles = (65 ∷ []) ∷ (71 ∷ []) ∷ [] }

abbrev call : ℕ → ℕ → Call
call v a = record { variant = v; allele = a; qual = neg_ℤ (pos 13607); one_minus_qual = pos 0 }

abbrev three : ℕ → Fragment
three strand = record { present = true; strand = strand; calls = call 0 1 ∷ call 1 0 ∷ call 3 1 ∷ [] }

-- calls at variants 0, 1, 3 with alleles 1, 0, 1 and qualities −13607, forward, all phased, cutoff −2000
abbrev sample : List Fragment → Case
sample fragments = record { variants = snv 0 ∷ snv 1 ∷ snv 2 ∷ snv 3 ∷ []; fragments = fragments; cutoff = neg_ℤ (pos 2000) }

-- 2 0:- 1 10 4 1 +++
abbrev line : List ℕ
line = 50 ∷ 32 ∷ 48 ∷ 58 ∷ 45 ∷ 32 ∷ 49 ∷ 32 ∷ 49 ∷ 48 ∷ 32 ∷ 52 ∷ 32 ∷ 49 ∷ 32 ∷ 43 ∷ 43 ∷ 43 ∷ 0 ∷ []

pub sample_line : flist_buffer (sample (three 0 ∷ [])) false ≡ line
unfolding flist_buffer lines_from line_of line_calls only usable phased_rule phased_test has_line blocks block_start allele_bytes call_quality strand_byte decimal decimal_from scale max_vcf_qual phred_of count_up_to quality_byte mul div of_bits of_int lt le
sample_line = refl

-- the reverse strand is '+' (odd)
pub reverse_line : flist_buffer (sample (three 1 ∷ [])) false ≡ 50 ∷ 32 ∷ 48 ∷ 58 ∷ 43 ∷ 32 ∷ 49 ∷ 32 ∷ 49 ∷ 48 ∷ 32 ∷ 52 ∷ 32 ∷ 49 ∷ 32 ∷ 43 ∷ 43 ∷ 43 ∷ 0 ∷ []
unfolding flist_buffer lines_from line_of line_calls only usable phased_rule phased_test has_line blocks block_start allele_bytes call_quality strand_byte decimal decimal_from scale max_vcf_qual phred_of count_up_to quality_byte mul div of_bits of_int lt le
reverse_line = refl

-- a fragment with one such call gives no line where single_reads is false, and ids count written lines only
abbrev single : Fragment
single = record { present = true; strand = 0; calls = call 2 0 ∷ [] }

pub skipped : flist_buffer (sample (single ∷ three 0 ∷ [])) false ≡ line
unfolding flist_buffer lines_from line_of line_calls only usable phased_rule phased_test has_line blocks block_start allele_bytes call_quality strand_byte decimal decimal_from scale max_vcf_qual phred_of count_up_to quality_byte mul div of_bits of_int lt le
skipped = refl

-- 1 0:- 3 0 +
pub kept : flist_buffer (sample (single ∷ [])) true ≡ 49 ∷ 32 ∷ 48 ∷ 58 ∷ 45 ∷ 32 ∷ 51 ∷ 32 ∷ 48 ∷ 32 ∷ 43 ∷ 0 ∷ []
unfolding flist_buffer lines_from line_of line_calls only usable phased_rule phased_test has_line blocks block_start allele_bytes call_quality strand_byte decimal decimal_from scale max_vcf_qual phred_of count_up_to quality_byte mul div of_bits of_int lt le
kept = refl
