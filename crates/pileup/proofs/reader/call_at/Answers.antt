use Rattle.std.proofs.Common.{arith}
use Rattle.variants_and_fragments.specs.Decode.{call_from}
use Rattle.pileup.specs.Inner.Reader.{held_call}
use Rattle.pileup.proofs.reader.call_at.Goals as goal

pub returns : goal.returns
unfolding held_call call_from
returns c = grind arith
