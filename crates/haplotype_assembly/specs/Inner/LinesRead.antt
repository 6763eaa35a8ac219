-- The fragment lines of an accepted case, read off its rows, as the functions below the operation count and write them.
-- `proofs/LinesDecoded.antt` ties them to the definitions over the decoded case.
-- Assumes nothing.
use Rattle.std.specs.Prelude.{◌≡◌, Bool, cond, List, [], ◌∷◌, ◌++◌, map, ℕ, ◌+◌, ◌*◌, ◌≤◌, ◌<◌, eqb, ℤ, length, get_or, Option, IfSome}
use Rattle.std.specs.Iterator.{YieldsFirstBy}
use Rattle.std.proofs.lemmas.List.Edits.{sets}
use Rattle.variants_and_fragments.specs.declared.Sizes.{Sizes}
use Rattle.variants_and_fragments.specs.Inner.Sums.{DownTo}
use Rattle.variants_and_fragments.specs.Chain.{present_at, strand_at}
use Rattle.variants_and_fragments.specs.Case.{Fragment, Call}
use Rattle.variants_and_fragments.specs.Decode.{tabulate}
use Rattle.variants_and_fragments.specs.Pileup.{Row}
use Rattle.pileup.specs.declared.row.Row.{Row as RowHeld}
use Rattle.pileup.specs.Inner.Packed.{row_from, rows_at, RowsIn, group_start}
use Rattle.haplotype_assembly.specs.declared.tally.Tally.{Tally}
use Rattle.haplotype_assembly.specs.declared.Counted.{Counted}
use Rattle.haplotype_assembly.specs.declared.lines.Head.{Head}
use Rattle.haplotype_assembly.specs.Inner.PhaseRead.{rule_at}
use Rattle.haplotype_assembly.specs.Lines.{space, colon, decimal, blocks, block_start, allele_bytes, call_quality, strand_byte, has_line}

-- bytes stored one after the other from `at` on, the rest of the slice as before; `end` is the place after them
pub record Put (before after : List ℕ) (at end : ℕ) (bytes : List ℕ) : Type 0 where
  pub stored : after ≡ sets before at bytes
  pub end_is : end ≡ at + length bytes

-- ---- what a line shows
-- of rows, which are usable: the calls at variants under the phased rule
unfoldable pub shown_calls : List ℤ → List Row → List Call
shown_calls w [] = []
shown_calls w (row ∷ rows) = cond (rule_at w row.call.variant) (row.call ∷ shown_calls w rows) (shown_calls w rows)

-- of the rows at a..e
abbrev pub shown_at : List ℤ → List ℕ → ℕ → ℕ → List Call
shown_at w rows a e = shown_calls w (rows_at rows a e)

-- of fragment f, with its strand
abbrev pub shown_fragment : List ℤ → Sizes → List ℕ → List ℕ → ℕ → Fragment
shown_fragment w s rows ends f = record { present = present_at w s f; strand = strand_at w s f; calls = shown_at w rows (group_start ends f) (get_or ends f 0) }

abbrev pub shown_fragments : List ℤ → Sizes → List ℕ → List ℕ → List Fragment
shown_fragments w s rows ends = tabulate s.f (shown_fragment w s rows ends)

-- where the rows of each fragment stand
pub record LinesGiven (s : Sizes) (rows ends : List ℕ) : Type 0 where
  pub ends_long : s.f ≤ length ends
  pub rows_in : (f : ℕ) → f < s.f → RowsIn s.n s.f rows (group_start ends f) (get_or ends f 0)

-- a row that the code holds, as a call
abbrev pub call_of : RowHeld → Call
call_of row = (row_from row).call

-- what is known of a shown call
pub record ShownIn (call : Call) : Type 0 where
  pub variant_top : call.variant < 1024
  pub allele_in : call.allele < 3
  pub qual_in : DownTo 262144 call.qual

-- a reader's next row is that of the first call that is left, of which this is known
abbrev pub ShowsFirst : List Call → Option RowHeld → List Call → Type 0
ShowsFirst before row after = YieldsFirstBy call_of (λ calls. calls) before row after × IfSome row (λ r. ShownIn (call_of r))

-- ---- the numbers of shown calls, of blocks and of allele bytes, of n variants
-- with a call at v
unfoldable pub tally_step : Tally → ℕ → Tally
tally_step t v = record {
  calls = t.calls + 1;
  blocks = t.blocks + cond (eqb v t.next) 0 1;
  bytes = t.bytes + (length (block_start t.next v) + 1);
  next = v + 1;
}

pub record Tallied (n : ℕ) (calls : List Call) (t : Tally) : Type 0 where
  pub calls_are : t.calls ≡ length calls
  pub blocks_are : t.blocks ≡ blocks n calls
  pub bytes_are : t.bytes ≡ length (allele_bytes n calls)

-- what k rows can add
pub record SmallTally (t : Tally) (k : ℕ) : Type 0 where
  pub calls_top : t.calls ≤ k
  pub blocks_top : t.blocks ≤ k
  pub bytes_top : t.bytes ≤ 1030 * k

-- ---- the lines
unfoldable pub header_of : Head → List ℕ
header_of head = decimal head.blocks ++ (space ∷ (decimal head.id ++ (colon ∷ (strand_byte head.strand ∷ []))))

-- of n variants, with these calls
unfoldable pub line_with : ℕ → Head → List Call → List ℕ
line_with n head calls = header_of head ++ (allele_bytes n calls ++ (space ∷ (map call_quality calls ++ (0 ∷ []))))

abbrev pub head_at : ℕ → ℕ → Fragment → Head
head_at n id fragment = record { blocks = blocks n fragment.calls; id = id; strand = fragment.strand }

-- the line of a fragment that has these calls alone, where it has one
unfoldable pub fragment_line : ℕ → Bool → ℕ → Fragment → List ℕ
fragment_line n single id fragment = cond (has_line single (length fragment.calls)) (line_with n (head_at n id fragment) fragment.calls) []

-- 1 where it has one
unfoldable pub has_one : Bool → Fragment → ℕ
has_one single fragment = cond (has_line single (length fragment.calls)) 1 0

-- of several
unfoldable pub lines_over : ℕ → Bool → ℕ → List Fragment → List ℕ
lines_over n single id [] = []
lines_over n single id (fragment ∷ fragments) =
    fragment_line n single id fragment ++ lines_over n single (id + has_one single fragment) fragments

unfoldable pub lines_count : Bool → List Fragment → ℕ
lines_count single [] = 0
lines_count single (fragment ∷ fragments) = has_one single fragment + lines_count single fragments

-- ---- counting them
-- one fragment more
pub record CountedOn (n : ℕ) (single : Bool) (fragment : Fragment) (before after : Counted) : Type 0 where
  pub bytes_are : after.bytes ≡ before.bytes + length (fragment_line n single before.lines fragment)
  pub lines_are : after.lines ≡ before.lines + has_one single fragment
  pub bytes_top : after.bytes ≤ before.bytes + 33554432

-- all
pub record LinesCounted (n : ℕ) (single : Bool) (fragments : List Fragment) (c : Counted) : Type 0 where
  pub bytes_are : c.bytes ≡ length (lines_over n single 0 fragments)
  pub lines_are : c.lines ≡ lines_count single fragments
