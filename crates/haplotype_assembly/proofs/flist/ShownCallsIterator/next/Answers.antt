-- A row that is not shown adds nothing to the calls that are left.
use Rattle.std.proofs.Common.{length, sym, ap, ◌∙◌, arith}
use Rattle.haplotype_assembly.proofs.Shown.{first_in, row_shown, next_on, next_skip, next_none}
use Rattle.haplotype_assembly.proofs.flist.ShownCallsIterator.next.Goals as goal

pub phased_rule-requires : goal.phased_rule-requires
phased_rule-requires c = let i = (first_in c.loop-word.self-inside.case.laid.words.now c.in-Some.ensures.cases.0 c.loop-word.invariant.rows_in).0 in rw c.unpack-row.ensures i.variant_in

pub returns-then-phased_rule-clause-steps : goal.returns-then-phased_rule-clause-steps
returns-then-phased_rule-clause-steps c =
    let i = (first_in c.loop-word.self-inside.case.laid.words.now c.in-Some.ensures.cases.0 c.loop-word.invariant.rows_in).0 in (
      cc (c.self.view_is, c.loop-word.invariant.same, next_on c.loop-word.self-inside.case.laid.words.now c.in-Some.ensures.cases.0 _ c.unpack-row.ensures _ c.phased_rule.ensures c.if-phased_rule.true),
      rw c.unpack-row.ensures (row_shown c.loop-word.self-inside.case.laid.sized.n_top i),
    )

pub returns-then-phased_rule-clause-goes : goal.returns-then-phased_rule-clause-goes
returns-then-phased_rule-clause-goes c =
    let step = returns-then-phased_rule-clause-steps c in record { on = λ _. (tt, tt, omega (arith, ap length step.0)); keeps = tt; rests = λ _. tt }

pub loop-word-preserved : goal.loop-word-preserved
loop-word-preserved c = record {
  same = sym (next_skip _ c.in-Some.ensures.cases.0 _ c.unpack-row.ensures _ c.phased_rule.ensures c.if-phased_rule.false) ∙ c.loop-word.invariant.same;
  rows_in = (first_in c.loop-word.self-inside.case.laid.words.now c.in-Some.ensures.cases.0 c.loop-word.invariant.rows_in).1;
}

pub returns-clause-steps : goal.returns-clause-steps
returns-clause-steps c = let none = next_none _ _ c.in_default.ensures.cases in ((sym c.self.view_is ∙ sym c.loop-word.invariant.same ∙ none, none), tt)
