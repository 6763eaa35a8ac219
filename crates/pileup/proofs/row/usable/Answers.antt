use mir.Facts.{to_z-of_z}
use Rattle.variants_and_fragments.specs.Case.{usable}
use Rattle.pileup.proofs.row.usable.Goals as goal

pub returns : goal.returns
unfolding usable
returns c = record { is = λ fragment call strand_is qual_is. rw (qual_is, strand_is, to_z-of_z c.ranges.qual, to_z-of_z c.ranges.cutoff) }
