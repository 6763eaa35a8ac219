-- A call whose flag is 1 adds its term, another one nothing. Assumes nothing.
use Rattle.std.proofs.Common.{◌≡◌, get_or, arith}
use Rattle.pileup.specs.Inner.Packed.{unpacked}
use Rattle.likelihoods.specs.Inner.Likelihoods.{row_call}
use Rattle.likelihoods.proofs.CallShares.{share_counted, share_left_out}
use Rattle.likelihoods.proofs.likelihoods.Haplotypes.call_share.Goals as goal

pub returns-then-counts : goal.returns-then-counts
returns-then-counts c =
    let s = c.args.self.now in
    let is = c.unpack-row.ensures in
    let one : get_or s.mask.now c.unpack-row.result.variant 0 ≡ 1 = omega arith in
    share_counted (row_call (unpacked c.args.word)) s.hap.now s.mask.now c.args.h _ _ _ c.requires.0 (rw is at one) (rw is at (c.weighed-qual.ensures one)) (rw is at (c.weighed-one_minus_qual.ensures one)) (rw is at c.call_term-y.ensures)

pub returns-else-counts : goal.returns-else-counts
returns-else-counts c =
    let s = c.args.self.now in
    let none : get_or s.mask.now c.unpack-row.result.variant 0 ≡ 1 → ⊥ = λ e. omega arith in
    share_left_out (row_call (unpacked c.args.word)) s.hap.now s.mask.now c.args.h (rw c.unpack-row.ensures at none)
