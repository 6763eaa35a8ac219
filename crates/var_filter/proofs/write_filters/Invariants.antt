-- The filters below v are written, and the window is the one before the visit of v.
use Rattle.var_filter.proofs.Filters.{FiltersTo}
use Rattle.var_filter.proofs.write_filters.Given as goal

abbrev pub invariant-loop-v : goal.invariant-loop-v
invariant-loop-v l = FiltersTo l.scan l.max_depth l.fn.filters l.v l.window l.filters
