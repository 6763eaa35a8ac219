-- A fragment's chain can be read, and its calls are left.
use Rattle.std.proofs.Common.{arith}
use Rattle.pileup.proofs.ChainReads.{fragment_readable, fragment_left}
use Rattle.pileup.proofs.reader.ChainReader.new.Goals as goal

pub invariant_of-result : goal.invariant_of-result
invariant_of-result c =
    let case = c.args.case.now in
    (fragment_readable _ _ case.laid.sized.used_top c.args.f _ c.first_call.ensures (case.case_in.frags c.args.f c.requires), omega arith)

pub returns : goal.returns
returns c = fragment_left _ _ _ _ c.first_call.ensures
