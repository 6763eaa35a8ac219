-- The call's words are read.
use Rattle.std.proofs.Common.{arith}
use Rattle.pileup.specs.Inner.Reader.{held_call}
use Rattle.late_reads.specs.Arriving.{arriving_call}
use Rattle.late_reads.proofs.arriving.Arrival.call.Goals as goal

pub returns : goal.returns
unfolding held_call arriving_call
returns c = grind arith
