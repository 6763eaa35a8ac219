-- `first` and `second` are the sums over the calls before.
use Rattle.late_reads.specs.Inner.Ready.{fixed_at}
use Rattle.late_reads.proofs.ReadShares.{Summing}
use Rattle.late_reads.proofs.arriving.TestedArrival.likelihoods.Given as goal

abbrev pub invariant-loop-call : goal.invariant-loop-call
invariant-loop-call l =
    let fixed = fixed_at l.self.ready.case.laid.words.now l.self.ready.phase.now l.self.ready.haplotypes.now in
    Summing l.self.read.strand l.self.read.calls.now fixed l.call-iterator l.first.0 l.second.0
