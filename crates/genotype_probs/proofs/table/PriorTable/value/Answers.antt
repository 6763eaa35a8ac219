-- An entry is small, so −4096 beside it does not wrap.
use Rattle.std.proofs.Common.{sym, arith, eq-eqb, ne_eqb, w64}
use lib.IntN.{+ℤ_idr}
use Rattle.steps.proofs.Signed.{plus_fits, plus_read}
use Rattle.genotype_probs.specs.Letters.{letter_number, same_letter}
use Rattle.genotype_probs.specs.Inner.PriorTable.{entry_of, table_value}
use Rattle.genotype_probs.proofs.table.PriorTable.value.Goals as goal

pub returns-then-x-y : goal.returns-then-x-y
unfolding table_value same_letter
returns-then-x-y c =
    let e = rw (c.from-x.ensures.0, c.from-y.ensures.0) at c.if-x-y.true in
    rw (c.from.ensures.0, c.from-x.ensures.0, c.from-y.ensures.0, eq-eqb (letter_number c.args.first) (letter_number c.args.second) e)
    (sym (+ℤ_idr (entry_of c.args.self.now.bases c.args.base c.args.first c.args.second)))

pub overflow_add-result : goal.overflow_add-result
overflow_add-result c =
    let t = c.args.self.now in
    let s = t.small.small c.args.base c.args.first c.args.second in
    rw (c.from.ensures.0, c.from-x.ensures.0, c.from-y.ensures.0)
    (plus_fits w64 (entry_of t.bases c.args.base c.args.first c.args.second) c.ln_half.result.0 (rw c.ln_half.ensures (omega arith)))

pub returns : goal.returns
unfolding table_value same_letter
returns c =
    let t = c.args.self.now in
    let s = t.small.small c.args.base c.args.first c.args.second in
    let n = rw (c.from-x.ensures.0, c.from-y.ensures.0) at c.if-x-y.false in
    let sum = plus_read w64 (entry_of t.bases c.args.base c.args.first c.args.second) c.ln_half.result.0 (rw c.ln_half.ensures (omega arith)) in
    rw (c.from.ensures.0, c.from-x.ensures.0, c.from-y.ensures.0, sum, c.ln_half.ensures, ne_eqb (letter_number c.args.first) (letter_number c.args.second) n)
