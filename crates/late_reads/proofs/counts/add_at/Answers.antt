-- A count and 1 or −1 do not wrap.
use Rattle.std.proofs.Common.{ap, ℤ, slice_set}
use Rattle.late_reads.proofs.Places.{sum_fits, sum_read}
use Rattle.late_reads.proofs.counts.add_at.Goals as goal

pub overflow_add-counts : goal.overflow_add-counts
overflow_add-counts c = sum_fits c.requires

pub returns : goal.returns
returns c = ap (λ (z : ℤ). slice_set c.args.counts.now c.args.e z) (sum_read c.requires)
