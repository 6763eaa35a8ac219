-- With the calls that are left all are counted.
use Rattle.std.proofs.Common.{map}
use Rattle.variants_and_fragments.specs.Layout.{cutoff_at}
use Rattle.pileup.specs.Inner.Packed.{call_read}
use Rattle.late_reads.specs.Inner.Counting.{read_of, counts_after}
use Rattle.late_reads.proofs.CountRuns.{Adding}
use Rattle.late_reads.proofs.counts.count.Given as goal

abbrev pub invariant-loop-call : goal.invariant-loop-call
invariant-loop-call g l =
    let cutoff = cutoff_at l.case.laid.words.now in
    let n = l.case.laid.sizes.n in
    let x = read_of l.strand (g.C.Calls.left l.fn.calls) in
    Adding l.d cutoff x n (map call_read (g.C.Calls.left l.call-iterator)) l.counts (counts_after l.d cutoff x n l.fn.counts)
