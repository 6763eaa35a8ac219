-- The variants before v are called.
use Rattle.no_haplotypes.proofs.CallRuns.{CallingTo}
use Rattle.no_haplotypes.proofs.call_variants.Given as goal

abbrev pub invariant-loop-v : goal.invariant-loop-v
invariant-loop-v l =
    let laid = l.piles.case.laid in
    CallingTo laid.words.now laid.sizes l.fn.post l.fn.variants l.fn.quals l.fn.gqs l.v l.post l.variants l.quals l.gqs
