-- The records are freed, and then the first call is set.
use Rattle.std.proofs.Common.{◌∙◌}
use Rattle.late_reads.specs.Arriving.{departed_words}
use Rattle.late_reads.proofs.words.lay_departure.Goals as goal

pub returns : goal.returns
unfolding departed_words
returns c = c.put_first.ensures ∙ rw c.free_records.ensures
