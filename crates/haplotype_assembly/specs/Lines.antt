-- 01, section 7, `generate_flist_buffer`: the fragment lines that HapCUT2 reads, one after the other. A line is the number of blocks, the
-- fragment's id and strand, each block's first variant (from 1) and alleles, the qualities and a zero byte.
-- Assumes nothing.
use Rattle.std.specs.Prelude.{Bool, cond, ◌&&◌, List, [], ◌∷◌, ◌++◌, map, ℕ, zero, suc, ◌+◌, ◌/◌, ◌%◌, leb, ltb, eqb, length}
use Rattle.steps.specs.Logs.{steps}
use Rattle.steps.specs.Phred.{phred_of, quality_byte}
use Rattle.variants_and_fragments.specs.Case.{Case, Fragment, Call, direction, usable, variant_of}
use Rattle.variants_and_fragments.specs.Pileup.{only}
use Rattle.haplotype_assembly.specs.Phase.{phased_rule}

-- the bytes ' ', ':', '+' and '-'
abbrev pub space : ℕ
space = 32

abbrev pub colon : ℕ
colon = 58

abbrev pub plus : ℕ
plus = 43

abbrev pub minus : ℕ
minus = 45

-- reverse strand '+', forward '-': an oddity of the source that is kept
unfoldable pub strand_byte : ℕ → ℕ
strand_byte strand = cond (eqb (direction strand) 0) minus plus

-- the byte of a digit
abbrev pub digit : ℕ → ℕ
digit d = 48 + d

-- a number in decimal: the digits of n / 10, where n has more than one, and the last; `turns` bounds their number
unfoldable pub decimal_from : ℕ → ℕ → List ℕ
decimal_from zero n = []
decimal_from (suc turns) n = cond (ltb n 10) [] (decimal_from turns (n / 10)) ++ (digit (n % 10) ∷ [])

unfoldable pub decimal : ℕ → List ℕ
decimal n = decimal_from (suc n) n

-- the calls that a line shows: usable ones at variants under the phased rule without the byte; a muted fragment has none (request 5)
unfoldable pub line_calls : Case → Fragment → List Call
line_calls case fragment =
    only (λ call. phased_rule (variant_of case call.variant) && usable case.cutoff fragment call) fragment.calls

-- consecutive variants run together in a block. `next` is the variant that goes on with the block before; at a line's start N, which is none
unfoldable pub blocks : ℕ → List Call → ℕ
blocks next [] = 0
blocks next (call ∷ calls) = cond (eqb call.variant next) 0 1 + blocks (suc call.variant) calls

-- what opens a block: its first variant, from 1
unfoldable pub block_start : ℕ → ℕ → List ℕ
block_start next v = cond (eqb v next) [] (space ∷ (decimal (v + 1) ++ (space ∷ [])))

unfoldable pub allele_bytes : ℕ → List Call → List ℕ
allele_bytes next [] = []
allele_bytes next (call ∷ calls) =
    block_start next call.variant ++ (digit call.allele ∷ allele_bytes (suc call.variant) calls)

-- the quality byte of a call
unfoldable pub call_quality : Call → ℕ
call_quality call = quality_byte (phred_of (steps call.qual))

-- the line of a fragment with this id
unfoldable pub line_of : Case → ℕ → Fragment → List ℕ
line_of case id fragment =
    let calls = line_calls case fragment in
    let none = length case.variants in
    decimal (blocks none calls)
    ++ (space ∷ (decimal id ++ (colon ∷ (strand_byte fragment.strand ∷ (allele_bytes none calls ++ (space ∷ (map call_quality calls ++ (0 ∷ []))))))))

-- with single_reads false a fragment with one such call gives no line; with none it never does
unfoldable pub has_line : Bool → ℕ → Bool
has_line single n = cond single (leb 1 n) (leb 2 n)

-- the lines of fragments, ids counting written lines from `id` on
unfoldable pub lines_from : Case → Bool → ℕ → List Fragment → List ℕ
lines_from case single id [] = []
lines_from case single id (fragment ∷ fragments) =
    cond (has_line single (length (line_calls case fragment)))
    (line_of case id fragment ++ lines_from case single (suc id) fragments)
    (lines_from case single id fragments)

-- how many have a line
unfoldable pub line_count : Case → Bool → List Fragment → ℕ
line_count case single [] = 0
line_count case single (fragment ∷ fragments) =
    cond (has_line single (length (line_calls case fragment))) 1 0 + line_count case single fragments

unfoldable pub flist_buffer : Case → Bool → List ℕ
flist_buffer case single = lines_from case single 0 case.fragments

unfoldable pub flist_lines : Case → Bool → ℕ
flist_lines case single = line_count case single case.fragments
