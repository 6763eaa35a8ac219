-- The pieces of a line, by the tests that choose them, and their lengths.
-- Assumes nothing.
use mathlib.Core.Path.{◌≡◌, ap, ◌∙◌}
use mathlib.Core.Bool.{Bool, true, false, cond}
use mathlib.Core.List.{List, [], ◌∷◌, ◌++◌, map, append_assoc}
use Prim.Native.Nat.{ℕ, ◌+◌, ◌≤◌}
use native.Mathlib.Omega.{arith}
use native.Mathlib.Decide.{ℕ_discrete}
use native.Mathlib.Numerals.{add-one}
use borrow.Author.Tests.{eq-eqb, ne_eqb}
use lib.ListN.{length, length-append, length-map}
use Rattle.variants_and_fragments.specs.Case.{Fragment, Call}
use Rattle.haplotype_assembly.specs.declared.tally.Tally.{Tally}
use Rattle.haplotype_assembly.specs.declared.lines.Head.{Head}
use Rattle.haplotype_assembly.specs.Lines.{space, colon, digit, decimal, block_start, allele_bytes, call_quality, strand_byte, has_line}
use Rattle.haplotype_assembly.specs.Inner.LinesRead.{Tallied, SmallTally, header_of, line_with, head_at, fragment_line, has_one}
use Rattle.haplotype_assembly.proofs.Decimals.{decimal_top}

-- ---- a block's start
pub start_same : (next v : ℕ) → v ≡ next → block_start next v ≡ []
unfolding block_start
start_same next v e = rw (eq-eqb v next e)

pub start_new : (next v : ℕ) → (v ≡ next → ⊥) → block_start next v ≡ space ∷ (decimal (v + 1) ++ (space ∷ []))
unfolding block_start
start_new next v d = rw (ne_eqb v next d)

pub new_length : (next v : ℕ) → (v ≡ next → ⊥) → length (block_start next v) ≡ length (decimal (v + 1)) + 2
new_length next v d = ap length (start_new next v d) ∙ omega (arith, length-append (decimal (v + 1)) (space ∷ []))

pub start_top : (next v : ℕ) → length (block_start next v) ≤ v + 4
start_top next v = elim (ℕ_discrete v next) [
  | yes e ↦ omega (arith, ap length (start_same next v e))
  | no d ↦ omega (arith, new_length next v d, decimal_top (v + 1))
]

-- the first call of a line's alleles
pub alleles_on : (next : ℕ) (call : Call) (calls : List Call) → allele_bytes next (call ∷ calls) ≡ (block_start next call.variant ++ (digit call.allele ∷ [])) ++ allele_bytes (call.variant + 1) calls
unfolding allele_bytes
alleles_on next call calls = rw add-one (simp append_assoc)

-- ---- a line
pub header_length : (head : Head) → length (header_of head) ≡ length (decimal head.blocks) + length (decimal head.id) + 3
unfolding header_of
header_length head =
    let tail = colon ∷ (strand_byte head.strand ∷ []) in
    omega (arith, length-append (decimal head.blocks) (space ∷ (decimal head.id ++ tail)), length-append (decimal head.id) tail)

pub line_length : (n : ℕ) (head : Head) (calls : List Call) → length (line_with n head calls) ≡ length (header_of head) + length (allele_bytes n calls) + length (map call_quality calls) + 2
unfolding line_with
line_length n head calls =
    let quals = map call_quality calls ++ (0 ∷ []) in
    omega (arith, length-append (header_of head) (allele_bytes n calls ++ (space ∷ quals)), length-append (allele_bytes n calls) (space ∷ quals), length-append (map call_quality calls) (0 ∷ []))

-- its room holds its header, and then what it shows, said otherwise
pub header_fits : (n : ℕ) (head : Head) (calls : List Call) (at room : ℕ) → at + length (line_with n head calls) ≤ room → at + length (header_of head) ≤ room
header_fits n head calls at room h = omega (arith, line_length n head calls)

pub line_room : (n : ℕ) (head : Head) {calls a b : List Call} → a ≡ calls → b ≡ calls → length (line_with n head calls) ≡ length (header_of head) + length (allele_bytes n a) + length (map call_quality b) + 2
line_room n head {calls} p q = rw (p, q) (line_length n head calls)

-- ---- a fragment's line, where it has one
module _ (n : ℕ) (single : Bool) (id : ℕ) (fragment : Fragment) (t : Tally) (e : Tallied n fragment.calls t) where
  pub line_none : has_line single t.calls ≡ false → fragment_line n single id fragment ≡ []
  unfolding fragment_line
  line_none h = rw (← e.calls_are, h)

  pub one_none : has_line single t.calls ≡ false → has_one single fragment ≡ 0
  unfolding has_one
  one_none h = rw (← e.calls_are, h)

  pub line_some : has_line single t.calls ≡ true → fragment_line n single id fragment ≡ line_with n (head_at n id fragment) fragment.calls
  unfolding fragment_line
  line_some h = rw (← e.calls_are, h)

  pub one_some : has_line single t.calls ≡ true → has_one single fragment ≡ 1
  unfolding has_one
  one_some h = rw (← e.calls_are, h)

  -- with the header that the code writes
  pub line_shown : has_line single t.calls ≡ true → (strand : ℕ) → strand ≡ fragment.strand → fragment_line n single id fragment ≡ line_with n (record { blocks = t.blocks; id = id; strand = strand }) fragment.calls
  line_shown h strand s = line_some h ∙ rw (← e.blocks_are, ← s)

  pub line_fits : has_line single t.calls ≡ true → (strand : ℕ) → strand ≡ fragment.strand → (at room : ℕ) → at + length (fragment_line n single id fragment) ≤ room
      → at + length (line_with n (record { blocks = t.blocks; id = id; strand = strand }) fragment.calls) ≤ room
  line_fits h strand s at room fits = rw (line_shown h strand s) at fits

  -- its length is known from the tally
  pub line_count : length (line_with n (head_at n id fragment) fragment.calls) ≡ length (decimal t.blocks) + length (decimal id) + (t.bytes + t.calls + 5)
  line_count = omega (arith, line_length n (head_at n id fragment) fragment.calls, header_length (head_at n id fragment), ap (λ (x : ℕ). length (decimal x)) e.blocks_are, e.bytes_are, e.calls_are, length-map fragment.calls call_quality)

-- a line's length is small
pub line_top : (t : Tally) (id bytes : ℕ) → bytes ≡ length (decimal t.blocks) + length (decimal id) + (t.bytes + t.calls + 5) → id ≤ 4096 → SmallTally t 16384 → bytes ≤ 33554432
line_top t id bytes q h i = omega (arith, decimal_top id, decimal_top t.blocks, i.calls_top, i.blocks_top, i.bytes_top)

-- lines counted
pub no_more : (lines more : ℕ) → more ≡ 0 → lines ≡ lines + more
no_more lines more e = omega arith

pub one_more : (lines more : ℕ) → more ≡ 1 → lines + 1 ≡ lines + more
one_more lines more e = omega arith

pub one_top : (single : Bool) (fragment : Fragment) → has_one single fragment ≤ 1
unfolding has_one
one_top single fragment = go (has_line single (length fragment.calls))
  where
    go : (b : Bool) → cond b 1 0 ≤ 1
    go true = omega arith
    go false = omega arith

pub few_more : (single : Bool) (fragment : Fragment) (lines f after : ℕ) → lines ≤ f → after ≡ lines + has_one single fragment → after ≤ f + 1
few_more single fragment lines f after h e = omega (arith, one_top single fragment)
