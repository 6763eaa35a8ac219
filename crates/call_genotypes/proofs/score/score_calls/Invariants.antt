-- The calls so far are in the sums. Assumes nothing.
use Rattle.std.proofs.Common.{length}
use Rattle.pileup.specs.Inner.Packed.{row_at}
use Rattle.call_genotypes.specs.Inner.Scores.{row_mixes}
use Rattle.call_genotypes.proofs.Fours.{Summing}
use Rattle.call_genotypes.proofs.score.score_calls.Given as goal

abbrev pub invariant-loop-word : goal.invariant-loop-word
invariant-loop-word l = Summing (row_mixes l.turns l.standing.lik.now) (row_at l.pile) 0 (length l.pile) l.word-index l.of
