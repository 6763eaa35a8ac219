-- How far from 0 likelihoods, a call's four numbers and their sums lie: nothing that a visit adds up leaves an i64. Assumes nothing.
use mathlib.Core.Path.{◌≡◌}
use mathlib.Core.Bool.{Bool, true, false, cond}
use mathlib.Core.List.{List}
use Prim.Native.Nat.{ℕ, zero, suc, ◌+◌, ◌*◌, ◌^◌, ◌≤◌}
use native.Mathlib.Omega.{arith}
use lib.Dec.{eqb}
use lib.ListN.{get_or}
use lib.IntN.{ℤ, pos, nat_abs, ◌+ℤ◌, ◌-ℤ◌, ◌*ℤ◌}
use Rattle.steps.proofs.Signed.{add_abs, minus_abs, nat_abs_parts, parts_minus, by_sign}
use Rattle.steps.proofs.AddExp.{add_size}
use Rattle.variants_and_fragments.specs.Pileup.{Row}
use Rattle.variants_and_fragments.specs.Inner.Sums.{DownTo}
use Rattle.variants_and_fragments.proofs.Bounds.{down_low, down_high}
use Rattle.pileup.specs.Inner.Packed.{RowIn}
use Rattle.genotype_probs.proofs.ListLaws.{down_abs}
use Rattle.sweeps.specs.Sweeps.{call_term}
use Rattle.likelihoods.specs.Inner.Held.{Within}
use Rattle.call_genotypes.specs.declared.score.Mixes.{Mixes}
use Rattle.call_genotypes.specs.Inner.Scores.{one_plus, mix_value, value_of, row_gap, row_mixes, sums_at, SumsWithin, rise_of, pair_rise}
use Rattle.call_genotypes.proofs.Turns.{times_size}

-- ---- a call's four numbers
pub one_plus_size : (d : ℤ) (n : ℕ) → nat_abs d ≤ n → nat_abs (one_plus d) ≤ n + 4096
one_plus_size d n h = add_size d (pos 0) n h (omega arith)

module _ (d g : ℤ) (hd : nat_abs d ≤ 2 ^ 33 + 2 ^ 20) (hg : nat_abs g ≤ 262144) where
  pub mix_size : (w : ℕ) → nat_abs (mix_value d g w) ≤ 2 ^ 35
  unfolding mix_value
  mix_size zero = omega (arith, one_plus_size (d +ℤ g) (2 ^ 33 + 2 ^ 20 + 2 ^ 19) (omega (arith, add_abs d g)))
  mix_size (suc zero) = omega (arith, one_plus_size (d -ℤ g) (2 ^ 33 + 2 ^ 20 + 2 ^ 19) (omega (arith, minus_abs d g)))
  mix_size (suc (suc zero)) = omega arith
  mix_size (suc (suc (suc w))) = omega (arith, one_plus_size d (2 ^ 33 + 2 ^ 20) hd)

-- the four numbers by number
pub mix_values : (r : Mixes) (d g : ℤ) → r.first ≡ one_plus (d +ℤ g) → r.second ≡ one_plus (d -ℤ g) → r.gap ≡ g → r.neither ≡ one_plus d → (w : ℕ) → value_of r w ≡ mix_value d g w
unfolding value_of mix_value
mix_values r d g f s t e zero = f
mix_values r d g f s t e (suc zero) = s
mix_values r d g f s t e (suc (suc zero)) = t
mix_values r d g f s t e (suc (suc (suc w))) = e

-- one number is that of m and that of r, each
pub mixes_added : (m r s : Mixes) → s.first ≡ m.first +ℤ r.first → s.second ≡ m.second +ℤ r.second → s.gap ≡ m.gap +ℤ r.gap → s.neither ≡ m.neither +ℤ r.neither → (w : ℕ) → value_of s w ≡ value_of m w +ℤ value_of r w
unfolding value_of
mixes_added m r s e f g h zero = e
mixes_added m r s e f g h (suc zero) = f
mixes_added m r s e f g h (suc (suc zero)) = g
mixes_added m r s e f g h (suc (suc (suc w))) = h

pub quality_gap_size : (q o : ℤ) → DownTo 262144 q → DownTo 262144 o → nat_abs (o -ℤ q) ≤ 262144
quality_gap_size q o h k =
    let a = nat_abs_parts (o -ℤ q) in
    let p = parts_minus o q in
    let ql = down_low 262144 q h in
    let qh = down_high 262144 q h in
    let ol = down_low 262144 o k in
    let oh = down_high 262144 o k in by_sign (o -ℤ q) (λ e. omega arith) (λ e. omega arith)

pub distance_size : (l b y : ℤ) → nat_abs l ≤ 2 ^ 32 → nat_abs b ≤ 2 ^ 32 → nat_abs y ≤ 2 ^ 19 → nat_abs ((l -ℤ b) +ℤ y) ≤ 2 ^ 33 + 2 ^ 20
distance_size l b y hl hb hy = omega (arith, add_abs (l -ℤ b) y, minus_abs l b)

pub either_size : (b : Bool) (q o : ℤ) (n : ℕ) → nat_abs q ≤ n → nat_abs o ≤ n → nat_abs (cond b o q) ≤ n
either_size true q o n hq ho = ho
either_size false q o n hq ho = hq

-- what a call adds when its variant's allele goes from old to new
pub change_size : (s t : Bool) (q o : ℤ) → nat_abs q ≤ 2 ^ 18 → nat_abs o ≤ 2 ^ 18 → nat_abs (cond s o q -ℤ cond t o q) ≤ 2 ^ 19
change_size s t q o hq ho = omega (arith, minus_abs (cond s o q) (cond t o q), either_size s q o (2 ^ 18) hq ho, either_size t q o (2 ^ 18) hq ho)

-- the numbers of a row
module _ {n f : ℕ} {row : Row} (R : RowIn n f row) where
  pub qual_size : nat_abs row.call.qual ≤ 2 ^ 18
  qual_size = down_abs 262144 row.call.qual R.qual_in

  pub other_size : nat_abs row.call.one_minus_qual ≤ 2 ^ 18
  other_size = down_abs 262144 row.call.one_minus_qual R.one_minus_qual_in

  pub row_gap_size : nat_abs (row_gap row) ≤ 262144
  row_gap_size = quality_gap_size row.call.qual row.call.one_minus_qual R.qual_in R.one_minus_qual_in

  pub row_size : (turns lik : List ℤ) → Within (2 ^ 32) lik → Within 1 turns → (w : ℕ) → nat_abs (row_mixes turns lik row w) ≤ 2 ^ 35
  unfolding row_mixes
  row_size turns lik W A w =
      let i = 2 * row.fragment in
      let y = get_or turns row.call.allele (pos 0) *ℤ row_gap row in
      mix_size ((get_or lik i (pos 0) -ℤ get_or lik (i + 1) (pos 0)) +ℤ y) (row_gap row)
      (distance_size (get_or lik i (pos 0)) (get_or lik (i + 1) (pos 0)) y (W i) (W (i + 1)) (omega (arith, times_size (get_or turns row.call.allele (pos 0)) (row_gap row) 262144 (A row.call.allele) row_gap_size)))
      row_gap_size w

  -- what its call adds when its variant's allele goes from old to new
  pub row_change_size : (old new : ℕ) → nat_abs (call_term row.call new -ℤ call_term row.call old) ≤ 2 ^ 19
  unfolding call_term
  row_change_size old new = change_size (eqb row.call.allele new) (eqb row.call.allele old) row.call.qual row.call.one_minus_qual qual_size other_size

-- ---- what a pair's score rises
module _ (of : List Mixes) (W : SumsWithin (2 ^ 50) of) where
  pub first_rise_size : (x : ℕ) → nat_abs (rise_of (sums_at of x) 0) ≤ 2 ^ 51
  unfolding rise_of
  first_rise_size x = omega (arith, minus_abs (sums_at of x 0) (sums_at of x 3), W x 0, W x 3)

  pub second_rise_size : (x : ℕ) → nat_abs (rise_of (sums_at of x) 1) ≤ 2 ^ 52
  unfolding rise_of
  second_rise_size x = omega (arith, add_abs (sums_at of x 1 -ℤ sums_at of x 3) (sums_at of x 2), minus_abs (sums_at of x 1) (sums_at of x 3), W x 1, W x 2, W x 3)

  pub pair_size : (i j : ℕ) → nat_abs (pair_rise of i j) ≤ 2 ^ 53
  unfolding rise_of
  pair_size i j = go (eqb i j)
    where
      go : (t : Bool) → nat_abs (cond t (rise_of (sums_at of i) 2) (rise_of (sums_at of i) 0 +ℤ rise_of (sums_at of j) 1)) ≤ 2 ^ 53
      go true = omega (arith, W i 2)
      go false = omega (arith, add_abs (rise_of (sums_at of i) 0) (rise_of (sums_at of j) 1), first_rise_size i, second_rise_size j)
