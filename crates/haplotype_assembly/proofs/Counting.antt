-- The lines of fragments one after the other: the first and those left, and a count of their bytes that goes along.
-- Assumes nothing.
use mathlib.Core.Path.{◌≡◌, ap}
use mathlib.Core.Bool.{Bool, true, false}
use mathlib.Core.List.{[], ◌++◌}
use Prim.Native.Nat.{ℕ, ◌+◌, ◌*◌, ◌-◌, ◌≤◌, ◌<◌}
use native.Mathlib.Omega.{arith}
use lib.ListN.{length, length-append}
use Rattle.variants_and_fragments.specs.Case.{Fragment}
use Rattle.variants_and_fragments.specs.Decode.{tabulate_from, tabulate}
use Rattle.haplotype_assembly.specs.declared.Counted.{Counted}
use Rattle.haplotype_assembly.specs.declared.tally.Tally.{Tally}
use Rattle.haplotype_assembly.specs.Lines.{decimal, has_line}
use Rattle.haplotype_assembly.specs.Inner.LinesRead.{fragment_line, has_one, lines_over, lines_count, Tallied, SmallTally, CountedOn, LinesCounted}
use Rattle.haplotype_assembly.proofs.Cited.{table_more, table_end}
use Rattle.haplotype_assembly.proofs.Pieces.{line_none, one_none, line_some, one_some, line_count, line_top, one_top}

module _ (n : ℕ) (single : Bool) (g : ℕ → Fragment) (m f : ℕ) where
  pub lines_on : (id : ℕ) → f < m → lines_over n single id (tabulate_from g f (m - f)) ≡ fragment_line n single id (g f) ++ lines_over n single (id + has_one single (g f)) (tabulate_from g (f + 1) (m - (f + 1)))
  unfolding lines_over
  lines_on id h = ap (lines_over n single id) (table_more g m f h)

  pub lines_end : (id : ℕ) → m ≤ f → lines_over n single id (tabulate_from g f (m - f)) ≡ []
  unfolding lines_over
  lines_end id h = ap (lines_over n single id) (table_end g m f h)

  count_on : f < m → lines_count single (tabulate_from g f (m - f)) ≡ has_one single (g f) + lines_count single (tabulate_from g (f + 1) (m - (f + 1)))
  unfolding lines_count
  count_on h = ap (lines_count single) (table_more g m f h)

  count_end : m ≤ f → lines_count single (tabulate_from g f (m - f)) ≡ 0
  unfolding lines_count
  count_end h = ap (lines_count single) (table_end g m f h)

-- ---- one fragment, off its tally
module _ (n : ℕ) (single : Bool) (fragment : Fragment) (t : Tally) (c : Counted) (e : Tallied n fragment.calls t) where
  pub on_none : has_line single t.calls ≡ false → CountedOn n single fragment c c
  on_none h = record {
    bytes_are = omega (arith, ap length (line_none n single c.lines fragment t e h));
    lines_are = omega (arith, one_none n single c.lines fragment t e h);
    bytes_top = omega arith;
  }

  pub on_some : has_line single t.calls ≡ true → c.lines ≤ 4096 → SmallTally t 16384 → (bytes : ℕ) → bytes ≡ length (decimal t.blocks) + length (decimal c.lines) + (t.bytes + t.calls + 5)
      → CountedOn n single fragment c (record { bytes = c.bytes + bytes; lines = c.lines + 1 })
  on_some h top small bytes q = record {
    bytes_are = omega (arith, q, line_count n single c.lines fragment t e, ap length (line_some n single c.lines fragment t e h));
    lines_are = omega (arith, one_some n single c.lines fragment t e h);
    bytes_top = omega (arith, line_top t c.lines bytes q top small);
  }

-- ---- those below f are counted; with what the others add it is all
pub record CountedTo (n : ℕ) (single : Bool) (g : ℕ → Fragment) (m f : ℕ) (c : Counted) : Type 0 where
  pub lines_top : c.lines ≤ f
  pub bytes_top : c.bytes ≤ 33554432 * f
  pub bytes_left : c.bytes + length (lines_over n single c.lines (tabulate_from g f (m - f))) ≡ length (lines_over n single 0 (tabulate m g))
  pub lines_left : c.lines + lines_count single (tabulate_from g f (m - f)) ≡ lines_count single (tabulate m g)

module _ {n : ℕ} {single : Bool} {g : ℕ → Fragment} {m f : ℕ} {c : Counted} (i : CountedTo n single g m f c) where
  pub counted_on : f < m → (d : Counted) → CountedOn n single (g f) c d → CountedTo n single g m (f + 1) d
  counted_on h d on =
      let rest = tabulate_from g (f + 1) (m - (f + 1)) in
      let k = ap (λ (x : ℕ). length (lines_over n single x rest)) on.lines_are in
      let l = length-append (fragment_line n single c.lines (g f)) (lines_over n single (c.lines + has_one single (g f)) rest) in
      record {
        lines_top = omega (arith, i.lines_top, on.lines_are, one_top single (g f));
        bytes_top = omega (arith, i.bytes_top, on.bytes_top);
        bytes_left = omega (arith, i.bytes_left, on.bytes_are, k, l, ap length (lines_on n single g m f c.lines h));
        lines_left = omega (arith, i.lines_left, on.lines_are, count_on n single g m f h);
      }

  pub counted_end : m ≤ f → LinesCounted n single (tabulate m g) c
  counted_end h = record {
    bytes_are = omega (arith, i.bytes_left, ap length (lines_end n single g m f c.lines h));
    lines_are = omega (arith, i.lines_left, count_end n single g m f h);
  }
