-- What the sweeps read, from the lent slices of the code's struct. Assumes nothing.
use Rattle.likelihoods.specs.Inner.Held.{SweepReads, sweep_reads}
use Rattle.call_genotypes.specs.declared.reads.SweepReads.{SweepReads as Lent}

abbrev pub reads_of : Lent → SweepReads
reads_of r = sweep_reads r.ks.now r.ph.now r.pri.now r.piles.ends.now r.piles.words.now
