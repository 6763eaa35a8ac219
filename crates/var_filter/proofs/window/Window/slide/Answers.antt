-- The three ways of a visit.
use Rattle.std.proofs.Common.{◌∙◌, sym, arith}
use Rattle.var_filter.proofs.Windows.{ahead_some, slid_weak, slid_few, slid_marks}
use Rattle.var_filter.proofs.window.Window.slide.Goals as goal

pub returns-then-not-is_strong : goal.returns-then-not-is_strong
returns-then-not-is_strong c = slid_weak c.requires.v_in c.extend.ensures (sym c.is_strong.ensures ∙ c.if-not-is_strong.true)

pub overflow_sub-self : goal.overflow_sub-self
overflow_sub-self c = ahead_some c.requires.v_in c.extend.ensures (sym c.is_strong.ensures ∙ c.if-not-is_strong.false)

pub returns-then-dense : goal.returns-then-dense
returns-then-dense c = slid_marks c.requires.v_in c.extend.ensures (sym c.is_strong.ensures ∙ c.if-not-is_strong.false)
    (omega arith)

pub returns-else-dense : goal.returns-else-dense
returns-else-dense c = slid_few c.requires.v_in c.extend.ensures (sym c.is_strong.ensures ∙ c.if-not-is_strong.false)
    (omega arith)
