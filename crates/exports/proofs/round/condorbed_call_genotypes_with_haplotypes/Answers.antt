-- The operation's own promise, of the rates that C hands over.
use Rattle.exports.proofs.Numbers.{exported, round_numbers_lem}
use Rattle.exports.proofs.round.condorbed_call_genotypes_with_haplotypes.Goals as goal

pub returns : goal.returns
returns c =
    exported _ (rw c.into.ensures at c.call_genotypes_with_haplotypes-answer.ensures) (rw c.round_answer.ensures (round_numbers_lem c.call_genotypes_with_haplotypes-answer.result))
