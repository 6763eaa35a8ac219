-- The row of a packable row's word is that row: the word's parts, one above the other, come out by division.
-- Assumes nothing.
use mathlib.Core.Path.{◌≡◌, refl, sym, ap, ◌∙◌}
use Prim.Native.Nat.{ℕ, zero, suc, ◌+◌, ◌*◌, ◌-◌, ◌/◌, ◌%◌, ◌≤◌, ◌<◌, ◌^◌}
use native.Mathlib.Nat.{zero-add, div-div-eq-div-mul}
use native.Mathlib.Omega.{arith}
use borrow.Author.Tests.{leb-true}
use lib.IntN.{ℤ, pos, negsuc, neg_ℤ, ◌-ℤ◌}
use Rattle.steps.proofs.Signed.{zlin, up, dn, up_pos, dn_pos, neg_up, neg_dn, parts_minus}
use Rattle.variants_and_fragments.specs.Inner.Words.{debt_of}
use Rattle.variants_and_fragments.specs.Inner.Sums.{DownTo}
use Rattle.variants_and_fragments.specs.Pileup.{Row}
use Rattle.variants_and_fragments.proofs.Decoded.{debt_is}
use Rattle.pileup.specs.Inner.Packed.{RowIn, Packable, packed, unpacked}

-- how far below 0 a number of −262144..0 lies
pub down_debt : (z : ℤ) → DownTo 262144 z → debt_of z ≤ 262144
down_debt (pos zero) h = omega arith
down_debt (pos (suc n)) h = let l = leb-true (suc n) 0 h.high in absurd (omega arith)
down_debt (negsuc n) h = let l = leb-true n 262143 h.low in omega arith

-- taken from 0 it is not negative
pub minus_down : (z : ℤ) → DownTo 262144 z → (pos 0 -ℤ z) ≡ pos (debt_of z)
minus_down (pos zero) h = refl
minus_down (pos (suc n)) h = let l = leb-true (suc n) 0 h.high in absurd (omega arith)
minus_down (negsuc n) h = ap pos (zero-add (suc n))

from_debt : (z : ℤ) (x : ℕ) → x ≡ debt_of z → debt_of z ≤ 262144 → neg_ℤ (pos x) ≡ z
from_debt z x e h = rw e (sym (debt_is z (omega arith)))

-- the parts of a number that is not positive
debt_up : (z : ℤ) → debt_of z ≤ 262144 → up z ≡ 0
debt_up z h = ap up (debt_is z (omega arith)) ∙ neg_up (pos (debt_of z)) ∙ dn_pos (debt_of z)

debt_dn : (z : ℤ) → debt_of z ≤ 262144 → dn z ≡ debt_of z
debt_dn z h = ap dn (debt_is z (omega arith)) ∙ neg_dn (pos (debt_of z)) ∙ up_pos (debt_of z)

-- the number that lies g − 262144 over the one q below 0, and its gap
module _ (q g : ℕ) where
  abbrev over : ℤ
  over = pos g -ℤ pos (262144 + q)

  over_parts : up over + 262144 + q ≡ dn over + g
  over_parts = omega (arith, parts_minus (pos g) (pos (262144 + q)), up_pos g, dn_pos g, up_pos (262144 + q), dn_pos (262144 + q))

  from_gap : (z : ℤ) → g + debt_of z ≡ 262144 + q → debt_of z ≤ 262144 → over ≡ z
  from_gap z e h = omega (zlin, over_parts, debt_up z h, debt_dn z h)

  to_gap : DownTo 262144 over → 262144 + q - debt_of over ≡ g
  to_gap h = let l = down_debt over h in omega (arith, over_parts, debt_up over l, debt_dn over l)

-- a row of a case that is not too large is packable
pub in_packable : {n f : ℕ} {row : Row} → n ≤ 1024 → f ≤ 4096 → RowIn n f row → Packable row
in_packable hn hf r = record {
  fragment_in = omega (arith, r.fragment_in);
  variant_in = omega (arith, r.variant_in);
  allele_in = r.allele_in;
  qual_in = r.qual_in;
  one_minus_qual_in = r.one_minus_qual_in;
}

module _ {row : Row} (r : Packable row) where
  below : debt_of row.call.qual ≤ 262144
  below = down_debt row.call.qual r.qual_in

  other_below : debt_of row.call.one_minus_qual ≤ 262144
  other_below = down_debt row.call.one_minus_qual r.one_minus_qual_in

  pub packed_top : packed row < 2 ^ 63
  unfolding packed
  packed_top = omega (arith, below, other_below)

  -- the parts of the word
  fragment_part : packed row / 2251799813685248 ≡ row.fragment
  unfolding packed
  fragment_part = omega (arith, below, other_below)

  variant_part : packed row % 1024 ≡ row.call.variant
  unfolding packed
  variant_part = omega arith

  allele_part : packed row / 1024 % 4 ≡ row.call.allele
  unfolding packed
  allele_part = omega arith

  debt_part : packed row / 4096 % 524288 ≡ debt_of row.call.qual
  unfolding packed
  debt_part = omega (arith, below)

  high_part : packed row / 2147483648 ≡ 262144 + debt_of row.call.qual - debt_of row.call.one_minus_qual + 1048576 * row.fragment
  unfolding packed
  high_part = omega (arith, below)

  gap_part : packed row / 2147483648 % 1048576 + debt_of row.call.one_minus_qual ≡ 262144 + debt_of row.call.qual
  gap_part = rw high_part (omega (arith, below, other_below))

  qual_part : neg_ℤ (pos (packed row / 4096 % 524288)) ≡ row.call.qual
  qual_part = from_debt row.call.qual (packed row / 4096 % 524288) debt_part below

  other_part : pos (packed row / 2147483648 % 1048576) -ℤ pos (262144 + packed row / 4096 % 524288) ≡ row.call.one_minus_qual
  other_part = from_gap (packed row / 4096 % 524288) (packed row / 2147483648 % 1048576) row.call.one_minus_qual (rw debt_part gap_part) other_below

pub unpack_pack : (row : Row) → Packable row → unpacked (packed row) ≡ row
unfolding unpacked
unpack_pack row r = rw (fragment_part r, variant_part r, allele_part r, qual_part r, other_part r) refl

-- a word whose row is packable is that row's word
neg_debt : (x : ℕ) → debt_of (neg_ℤ (pos x)) ≡ x
neg_debt zero = refl
neg_debt (suc x) = refl

parts_join : (w : ℕ) → w % 1024 + 1024 * (w / 1024 % 4 + 4 * (w / 4096 % 524288 + 524288 * (w / 2147483648 % 1048576 + 1048576 * (w / 2251799813685248)))) ≡ w
parts_join w = omega (arith, div-div-eq-div-mul w 1024 4, div-div-eq-div-mul w 4096 524288, div-div-eq-div-mul w 2147483648 1048576)

pub pack_unpack : (word : ℕ) → Packable (unpacked word) → packed (unpacked word) ≡ word
unfolding packed unpacked
pack_unpack word r = rw (neg_debt (word / 4096 % 524288), to_gap (word / 4096 % 524288) (word / 2147483648 % 1048576) r.one_minus_qual_in) (parts_join word)
