-- The counts are few, and so are the other numbers.
use Rattle.no_haplotypes.proofs.tally.Summed.words.Goals as goal

pub answer_words-requires : goal.answer_words-requires
answer_words-requires c =
    let s = c.args.self.now in
    record { counts_in = record { few = s.sums_in.counts_few }; ambiguous_few = s.calls.held.ambiguous_few; depth_top = c.depth_after.ensures.1 }

pub returns : goal.returns
returns c b = rw (c.depth_after.ensures.0 b) at c.answer_words.ensures
