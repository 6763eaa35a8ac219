-- A count and 1 or −1 do not wrap.
use Rattle.std.proofs.Common.{◌∙◌, ap, pos}
use Rattle.variants_and_fragments.specs.Words.{within}
use Rattle.late_reads.specs.Values.{max_count}
use Rattle.late_reads.proofs.Places.{sum_fits, sum_read}
use Rattle.late_reads.proofs.counts.fits_at.Goals as goal

pub overflow_add-counts : goal.overflow_add-counts
overflow_add-counts c = sum_fits c.requires

pub returns : goal.returns
returns c = c.count_ok.ensures ∙ ap (within (pos 0) (pos max_count)) (sum_read c.requires)
