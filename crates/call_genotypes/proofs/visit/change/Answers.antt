-- A difference of two qualities does not wrap. Assumes nothing.
use Rattle.std.proofs.Common.{◌^◌, w64, arith}
use Rattle.steps.proofs.Signed.{minus_fits, minus_read}
use Rattle.pileup.specs.Inner.Packed.{row_from}
use Rattle.sweeps.specs.Sweeps.{call_term}
use Rattle.likelihoods.proofs.CallShares.{term_small}
use Rattle.call_genotypes.proofs.visit.change.Goals as goal

pub overflow_sub-result : goal.overflow_sub-result
overflow_sub-result c =
    let call = (row_from c.args.row).call in
    let x = term_small (2 ^ 18) call c.args.new c.requires.0 c.requires.1 in
    let y = term_small (2 ^ 18) call c.args.old c.requires.0 c.requires.1 in
    rw (c.call_term.ensures, c.call_term-2.ensures) (minus_fits w64 (call_term call c.args.new) (call_term call c.args.old) (omega arith))

pub returns : goal.returns
returns c =
    let call = (row_from c.args.row).call in
    let x = term_small (2 ^ 18) call c.args.new c.requires.0 c.requires.1 in
    let y = term_small (2 ^ 18) call c.args.old c.requires.0 c.requires.1 in
    rw (c.call_term.ensures, c.call_term-2.ensures) (minus_read w64 (call_term call c.args.new) (call_term call c.args.old) (omega arith))
