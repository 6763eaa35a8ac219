-- 01, sections 4 and 6: a usable call as the code holds it, one word, and the words of groups of calls.
-- Assumes nothing.
use Rattle.std.specs.Prelude.{◌≡◌, Bool, List, map, ℕ, zero, suc, ◌+◌, ◌*◌, ◌-◌, ◌/◌, ◌%◌, ◌≤◌, ◌<◌, ℤ, pos, neg_ℤ, ◌-ℤ◌, length, get_or, take, drop}
use Rattle.std.proofs.Math.Seq.{slice}
use Rattle.variants_and_fragments.specs.Inner.Words.{debt_of}
use Rattle.variants_and_fragments.specs.Inner.Sums.{DownTo}
use Rattle.variants_and_fragments.specs.Case.{Call, Fragment, usable}
use Rattle.variants_and_fragments.specs.Inner.Case.{All}
use Rattle.variants_and_fragments.specs.Decode.{tabulate_from}
use Rattle.variants_and_fragments.specs.Pileup.{Row, row_of}
use Rattle.pileup.specs.declared.row.Row.{Row as RowHeld}
use Rattle.pileup.specs.declared.reader.Call.{Call as CallHeld}

-- a row as the code's struct holds it, and back
abbrev pub held_row : Row → RowHeld
held_row row = record { fragment = row.fragment; variant = row.call.variant; allele = row.call.allele; qual = record { 0 = row.call.qual }; one_minus_qual = record { 0 = row.call.one_minus_qual } }

abbrev pub row_from : RowHeld → Row
row_from row = row_of row.fragment (record { variant = row.variant; allele = row.allele; qual = row.qual.0; one_minus_qual = row.one_minus_qual.0 })

-- a call that the code has read, and its row
abbrev pub call_read : CallHeld → Call
call_read call = record { variant = call.variant; allele = call.allele; qual = call.qual; one_minus_qual = call.one_minus_qual }

abbrev pub row_of_call : ℕ → CallHeld → Row
row_of_call f call = row_of f (call_read call)

-- a usable call of one of f fragments at one of n variants: its allele is one of three, and both qualities are in −262144..0
pub record RowIn (n f : ℕ) (row : Row) : Type 0 where
  pub fragment_in : row.fragment < f
  pub variant_in : row.call.variant < n
  pub allele_in : row.call.allele < 3
  pub qual_in : DownTo 262144 row.call.qual
  pub one_minus_qual_in : DownTo 262144 row.call.one_minus_qual

-- the same at the largest case
abbrev pub Packable : Row → Type 0
Packable row = RowIn 1024 4096 row

-- the row's word, from the lowest bits on: its variant (10 bits), its allele (2), how far qual lies below 0 (19), the gap
-- one_minus_qual − qual plus 262144, so that it is not negative (20), and its fragment (12): 63 bits
unfoldable pub packed : Row → ℕ
packed row =
    let q = debt_of row.call.qual in
    let gap = 262144 + q - debt_of row.call.one_minus_qual in
    row.call.variant + 1024 * (row.call.allele + 4 * (q + 524288 * (gap + 1048576 * row.fragment)))

-- the row of a word, whose parts start at bits 0, 10, 12, 31 (2147483648) and 51 (2251799813685248); one_minus_qual is qual and the gap.
-- Of the word of a packable row it is that row (proofs/Packing, unpack_pack)
unfoldable pub unpacked : ℕ → Row
unpacked w = row_of (w / 2251799813685248) (record {
  variant = w % 1024;
  allele = w / 1024 % 4;
  qual = neg_ℤ (pos (w / 4096 % 524288));
  one_minus_qual = pos (w / 2147483648 % 1048576) -ℤ pos (262144 + w / 4096 % 524288);
})

-- the code's test is the definition's, for every call of this quality of every fragment of this strand
pub record UsableIs (cutoff : ℤ) (strand : ℕ) (qual : ℤ) (r : Bool) : Type 0 where
  pub is : (fragment : Fragment) (call : Call) → fragment.strand ≡ strand → call.qual ≡ qual → r ≡ usable cutoff fragment call

-- ---- words one after the other
-- the row that stands at p
abbrev pub row_at : List ℕ → ℕ → Row
row_at words p = unpacked (get_or words p 0)

-- the rows at a..e, e not included
abbrev pub rows_at : List ℕ → ℕ → ℕ → List Row
rows_at words a e = tabulate_from (row_at words) a (e - a)

-- they stand there, few enough, each one of f fragments and at one of n variants
pub record RowsIn (n f : ℕ) (words : List ℕ) (a e : ℕ) : Type 0 where
  pub few : e ≤ 16384
  pub long : e ≤ length words
  pub rows_in : (p : ℕ) → a ≤ p → p < e → RowIn n f (row_at words p)

-- ---- groups of rows, one after the other: `ends` says where each group ends
-- where the rows of group g start
unfoldable pub group_start : List ℕ → ℕ → ℕ
group_start ends zero = 0
group_start ends (suc g) = get_or ends g 0

-- the words of group g
abbrev pub group_words : List ℕ → List ℕ → ℕ → List ℕ
group_words ends words g = take (get_or ends g 0 - group_start ends g) (drop (group_start ends g) words)

-- they are there
pub record GroupThere (ends words : List ℕ) (g : ℕ) : Type 0 where
  pub g_in : g < length ends
  pub rises : group_start ends g ≤ get_or ends g 0
  pub long : get_or ends g 0 ≤ length words

-- the words hold m groups of rows, each row one of f fragments and at one of n variants
pub record Grouped (n f m : ℕ) (group : ℕ → List Row) (ends words : List ℕ) : Type 0 where
  pub ends_long : m ≤ length ends
  pub rises : (g : ℕ) → g < m → group_start ends g ≤ get_or ends g 0
  pub few : (g : ℕ) → g < m → get_or ends g 0 ≤ 16384
  pub long : (g : ℕ) → g < m → get_or ends g 0 ≤ length words
  pub are : (g : ℕ) → g < m → slice (group_start ends g) (get_or ends g 0) words ≡ map packed (group g)
  pub rows_in : (g : ℕ) → g < m → All (RowIn n f) (group g)
