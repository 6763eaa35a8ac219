-- None of the sums is large, so none of theirs wraps.
use Rattle.std.proofs.Common.{◌≡◌, ℕ, ◌+◌, ◌^◌, ◌≤◌, ◌<◌, ℤ, nat_abs, ◌+ℤ◌, ap, arith, eq-eqb, ne_eqb, w64, to_z, of_z, FitsSigned}
use Rattle.steps.proofs.Signed.{add_abs, plus_read, read_small, sfits}
use Rattle.no_haplotypes.specs.declared.tally.Tally.{Tally}
use Rattle.no_haplotypes.specs.Inner.Tally.{SumsIn, gain_of, pair_gain}
use Rattle.no_haplotypes.proofs.tally.Tally.pair_gain.Goals as goal

module _ (a b d : ℤ) (h : nat_abs a + nat_abs b + nat_abs d ≤ 2 ^ 36) where
  three_small : nat_abs (a +ℤ b +ℤ d) ≤ 2 ^ 36
  three_small = omega (arith, add_abs (a +ℤ b) d, add_abs a b)

  three_fits : FitsSigned w64 (to_z w64 (of_z w64 (to_z w64 (of_z w64 a) +ℤ to_z w64 (of_z w64 b))) +ℤ to_z w64 (of_z w64 d))
  three_fits = rw (plus_read w64 a b (omega arith), read_small w64 d (omega arith)) (sfits w64 (a +ℤ b +ℤ d) (omega (arith, three_small)))

  three_read : to_z w64 (of_z w64 (to_z w64 (of_z w64 (to_z w64 (of_z w64 a) +ℤ to_z w64 (of_z w64 b))) +ℤ to_z w64 (of_z w64 d))) ≡ a +ℤ b +ℤ d
  three_read = rw (plus_read w64 a b (omega arith), read_small w64 d (omega arith)) (read_small w64 (a +ℤ b +ℤ d) (omega (arith, three_small)))

-- the sum of the qualities, and the gains of two alleles
gains_small : {t : Tally} → SumsIn t → (i j : ℕ) → i < 3 → j < 3 → nat_abs t.total.0 + nat_abs (gain_of t i).one + nat_abs (gain_of t j).one ≤ 2 ^ 36
gains_small sums i j h l = omega (arith, sums.total_small, sums.one_small i h, sums.one_small j l)

pub overflow_add-result-3 : goal.overflow_add-result-3
overflow_add-result-3 c =
    let t = c.args.self.now in
    three_fits t.total.0 (gain_of t c.args.i).one (gain_of t c.args.j).one (gains_small c.requires.sums_in c.args.i c.args.j c.requires.pair_in.0 c.requires.pair_in.1)

pub returns-then-i-j : goal.returns-then-i-j
unfolding pair_gain
returns-then-i-j c =
    let t = c.args.self.now in
    let i = c.args.i in
    let sums = c.requires.sums_in in
    let small : nat_abs t.total.0 + nat_abs (gain_of t i).both ≤ 2 ^ 35 = omega (arith, sums.total_small, sums.both_small i (omega arith)) in
    let e = plus_read w64 t.total.0 (gain_of t i).both (omega arith) in
    (rw (eq-eqb i c.args.j c.if-i-j.true) e, omega (arith, ap nat_abs e, add_abs t.total.0 (gain_of t i).both))

pub returns : goal.returns
unfolding pair_gain
returns c =
    let t = c.args.self.now in
    let small = gains_small c.requires.sums_in c.args.i c.args.j c.requires.pair_in.0 c.requires.pair_in.1 in
    let first = (gain_of t c.args.i).one in
    let second = (gain_of t c.args.j).one in
    let e = three_read t.total.0 first second small in
    (rw (ne_eqb c.args.i c.args.j c.if-i-j.false) e, omega (arith, ap nat_abs e, three_small t.total.0 first second small))
