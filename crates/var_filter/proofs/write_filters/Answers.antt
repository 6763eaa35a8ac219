-- One filter more is written.
use Rattle.std.proofs.Common.{rules}
use Rattle.var_filter.proofs.Filters.{filters_start, filters_on}
use Rattle.var_filter.proofs.write_filters.Goals as goal

pub loop-v-init : goal.loop-v-init
loop-v-init c = let z = c.default-window.ensures in filters_start z.0 z.1.0 z.1.1.0 z.1.1.1

pub loop-v-preserved : goal.loop-v-preserved
loop-v-preserved c =
    filters_on c.loop-v-test.true c.loop-v.invariant c.slide.ensures _ (rw (c.filter_value.ensures, c.join_reasons.ensures, c.depth.ensures.0) (search rules))
