-- `Reader::word` meets its contract: the bytes of a token are pushed one by one. Assumes nothing.
use Rattle.std.proofs.Common.{of_calls}
use Rattle.protocol.proofs.Folds.{word_read}
use Rattle.protocol.proofs.input.Reader.word.Goals as goal

pub returns-clause-word : goal.returns-clause-word
returns-clause-word c =
    word_read (λ w. w.bytes.items) (λ w b v r. search of_calls) c.new.result c.new.ensures c.token.result c.token.ensures.pushed
