-- Neither the product nor the sum wraps, so they are the numbers themselves.
use Rattle.late_reads.proofs.Moved.{moved_read}
use Rattle.late_reads.proofs.reads.moved.Goals as goal

pub returns : goal.returns
returns c = moved_read c.args.total.0 c.args.share.0 c.args.d c.requires.0 c.requires.1 c.requires.2
