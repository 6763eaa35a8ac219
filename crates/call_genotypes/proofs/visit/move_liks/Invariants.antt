-- The calls so far have moved their likelihoods. Assumes nothing.
use Rattle.std.proofs.Common.{length}
use Rattle.pileup.specs.Inner.Packed.{row_at}
use Rattle.call_genotypes.proofs.Moving.{Moving}
use Rattle.call_genotypes.proofs.visit.move_liks.Given as goal

abbrev pub invariant-loop-word : goal.invariant-loop-word
invariant-loop-word l = Moving l.side l.old l.new (row_at l.pile) 0 (length l.pile) l.word-index l.fn.lik l.lik
