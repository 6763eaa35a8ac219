-- The calls that are left decide.
use Rattle.std.proofs.Common.{map}
use Rattle.variants_and_fragments.specs.Layout.{cutoff_at}
use Rattle.pileup.specs.Inner.Packed.{call_read}
use Rattle.late_reads.specs.Inner.Counting.{read_of, counts_after, counts_fit}
use Rattle.late_reads.proofs.CountRuns.{Fitting}
use Rattle.late_reads.proofs.counts.fits.Given as goal

abbrev pub invariant-loop-call : goal.invariant-loop-call
invariant-loop-call g l =
    let cutoff = cutoff_at l.case.laid.words.now in
    let n = l.case.laid.sizes.n in
    let x = read_of l.strand (g.C.Calls.left l.fn.calls) in
    Fitting l.d cutoff x n l.counts (map call_read (g.C.Calls.left l.call-iterator)) (counts_fit n (counts_after l.d cutoff x n l.counts))
