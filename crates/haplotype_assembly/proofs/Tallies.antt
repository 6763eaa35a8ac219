-- The tally of a fragment's rows: what one shown call does to it, how large it can be, and that with the calls left it becomes that of all.
-- Assumes nothing.
use mathlib.Core.Path.{◌≡◌, ap}
use mathlib.Core.Bool.{Bool, true, false, cond}
use mathlib.Core.List.{List, [], ◌∷◌}
use Prim.Native.Nat.{ℕ, suc, ◌+◌, ◌*◌, ◌≤◌, ◌<◌}
use native.Mathlib.Omega.{arith}
use native.Mathlib.Numerals.{add-one}
use borrow.Author.Tests.{eq-eqb, ne_eqb}
use lib.Dec.{eqb}
use lib.ListN.{length, length-append}
use Rattle.variants_and_fragments.specs.Case.{Call}
use Rattle.haplotype_assembly.specs.declared.tally.Tally.{Tally}
use Rattle.haplotype_assembly.specs.Lines.{digit, decimal, blocks, block_start, allele_bytes}
use Rattle.haplotype_assembly.specs.Inner.LinesRead.{tally_step, Tallied, SmallTally}
use Rattle.haplotype_assembly.proofs.Pieces.{start_same, new_length, start_top}

-- ---- one call more
module _ (t : Tally) (v : ℕ) where
  pub tally_same : v ≡ t.next → record { calls = t.calls + 1; blocks = t.blocks; bytes = t.bytes + 1; next = v + 1 } ≡ tally_step t v
  unfolding tally_step
  tally_same q =
      let e : t.blocks + 0 ≡ t.blocks = omega arith in
      let d : length (block_start t.next v) + 1 ≡ 1 = omega (arith, ap length (start_same t.next v q)) in
      rw (d, eq-eqb v t.next q, e)

  pub tally_new : (v ≡ t.next → ⊥) → (k : ℕ) → k ≡ length (decimal (v + 1)) → record { calls = t.calls + 1; blocks = t.blocks + 1; bytes = t.bytes + (k + 3); next = v + 1 } ≡ tally_step t v
  unfolding tally_step
  tally_new q k x =
      let d : length (block_start t.next v) + 1 ≡ k + 3 = omega (arith, new_length t.next v q) in
      rw (d, ne_eqb v t.next q)

-- what is small: no more blocks than calls, and few bytes for each of at most 16384 calls
pub record Small (t : Tally) : Type 0 where
  pub blocks_top : t.blocks ≤ t.calls
  pub bytes_top : t.bytes ≤ 1030 * t.calls

small_step : (t : Tally) (v : ℕ) → Small t → v < 1024 → Small (tally_step t v)
unfolding tally_step
small_step t v i h = record {
  blocks_top = go (eqb v t.next);
  bytes_top = omega (arith, i.bytes_top, start_top t.next v);
}
  where
    go : (b : Bool) → t.blocks + cond b 0 1 ≤ t.calls + 1
    go true = omega (arith, i.blocks_top)
    go false = omega (arith, i.blocks_top)

-- ---- with the calls left it becomes the tally of all
pub record TallyLeft (n : ℕ) (all left : List Call) (t : Tally) : Type 0 where
  pub calls_left : t.calls + length left ≡ length all
  pub blocks_left : t.blocks + blocks t.next left ≡ blocks n all
  pub bytes_left : t.bytes + length (allele_bytes t.next left) ≡ length (allele_bytes n all)

left_on : {n : ℕ} {all left : List Call} {t : Tally} {call : Call} → TallyLeft n all (call ∷ left) t → TallyLeft n all left (tally_step t call.variant)
unfolding tally_step blocks allele_bytes
left_on {left = left} {t = t} {call = call} i = rw (add-one call.variant) record {
  calls_left = omega (arith, i.calls_left);
  blocks_left = omega (arith, i.blocks_left);
  bytes_left = omega (arith, i.bytes_left, length-append (block_start t.next call.variant) (digit call.allele ∷ allele_bytes (suc call.variant) left));
}

left_end : {n : ℕ} {all : List Call} {t : Tally} → TallyLeft n all [] t → Tallied n all t
unfolding blocks allele_bytes
left_end i = record { calls_are = omega (arith, i.calls_left); blocks_are = omega (arith, i.blocks_left); bytes_are = omega (arith, i.bytes_left) }

-- ---- the loop over the calls
pub record Tallying (n : ℕ) (all left : List Call) (t : Tally) : Type 0 where
  pub left_over : TallyLeft n all left t
  pub small : Small t

module _ {n : ℕ} {all left : List Call} {t : Tally} (i : Tallying n all left t) where
  pub tallying_small : length all ≤ 16384 → SmallTally t 16384
  tallying_small h = record {
    calls_top = omega (arith, i.left_over.calls_left);
    blocks_top = omega (arith, i.left_over.calls_left, i.small.blocks_top);
    bytes_top = omega (arith, i.left_over.calls_left, i.small.bytes_top);
  }

  pub tallying_end : left ≡ [] → Tallied n all t
  tallying_end e = left_end (rw e at i.left_over)

  pub tallying_on : {call : Call} {rest : List Call} → left ≡ call ∷ rest → call.variant < 1024 → Tallying n all rest (tally_step t call.variant)
  tallying_on {call} e h = record { left_over = left_on (rw e at i.left_over); small = small_step t call.variant i.small h }
