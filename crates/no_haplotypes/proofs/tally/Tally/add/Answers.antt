-- No sum is near the end of its type, so none wraps.
use Rattle.std.proofs.Common.{◌≡◌, ◌^◌, ◌≤◌, ℤ, nat_abs, ◌+ℤ◌, ◌-ℤ◌, refl, arith, w64, to_z, of_z, FitsSigned}
use Rattle.steps.proofs.Signed.{minus_abs, plus_fits, plus_read, read_small}
use Rattle.no_haplotypes.specs.Inner.Tally.{gain_of}
use Rattle.no_haplotypes.proofs.TallyLaws.{qual_small, other_small}
use Rattle.no_haplotypes.proofs.tally.Tally.add.Goals as goal

-- a difference that is added
module _ (a o q : ℤ) (ha : nat_abs a ≤ 2 ^ 40) (ho : nat_abs o ≤ 2 ^ 40) (hq : nat_abs q ≤ 2 ^ 40) where
  less : to_z w64 (of_z w64 o) -ℤ to_z w64 (of_z w64 q) ≡ o -ℤ q
  less = rw (read_small w64 o (omega arith), read_small w64 q (omega arith))

  gain_fits : FitsSigned w64 (to_z w64 (of_z w64 a) +ℤ to_z w64 (of_z w64 (to_z w64 (of_z w64 o) -ℤ to_z w64 (of_z w64 q))))
  gain_fits = rw less (plus_fits w64 a (o -ℤ q) (omega (arith, minus_abs o q)))

  gain_read : to_z w64 (of_z w64 (to_z w64 (of_z w64 a) +ℤ to_z w64 (of_z w64 (to_z w64 (of_z w64 o) -ℤ to_z w64 (of_z w64 q))))) ≡ a +ℤ (o -ℤ q)
  gain_read = rw less (plus_read w64 a (o -ℤ q) (omega (arith, minus_abs o q)))

pub overflow_add-gain : goal.overflow_add-gain
overflow_add-gain c =
    let row = c.requires.row_in in
    let x = c.args.row.allele in
    gain_fits (gain_of c.args.self.now x).both c.args.row.one_minus_qual.0 c.args.row.qual.0
    (omega (arith, c.requires.sums_in.both_small x row.allele_in)) (omega (arith, other_small row)) (omega (arith, qual_small row))

pub overflow_add-gain-2 : goal.overflow_add-gain-2
overflow_add-gain-2 c =
    let row = c.requires.row_in in
    let x = c.args.row.allele in
    gain_fits (gain_of c.args.self.now x).one c.mix-mixed.result.0 c.args.row.qual.0
    (omega (arith, c.requires.sums_in.one_small x row.allele_in)) (omega (arith, c.mix-mixed.ensures.bound, other_small row, qual_small row)) (omega (arith, qual_small row))

pub returns : goal.returns
returns c =
    let t = c.args.self.now in
    let row = c.requires.row_in in
    let sums = c.requires.sums_in in
    let x = c.args.row.allele in
    let q = c.args.row.qual.0 in
    let o = c.args.row.one_minus_qual.0 in
    let hq : nat_abs q ≤ 2 ^ 40 = omega (arith, qual_small row) in
    let both = gain_read (gain_of t x).both o q (omega (arith, sums.both_small x row.allele_in)) (omega (arith, other_small row)) hq in
    let one = gain_read (gain_of t x).one c.mix-mixed.result.0 q (omega (arith, sums.one_small x row.allele_in)) (omega (arith, c.mix-mixed.ensures.bound, other_small row, qual_small row)) hq in
    record {
      total_is = plus_read w64 t.total.0 q (omega (arith, sums.total_small, qual_small row));
      gains_are = rw (both, one, c.mix-mixed.ensures.value) refl;
      counts_are = rw (c.direction_of-strand.ensures, c.strand.ensures) refl;
    }
