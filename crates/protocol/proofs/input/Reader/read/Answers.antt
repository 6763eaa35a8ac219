-- `Reader::read` meets its contract: the state of a token's bytes reads as the integer that they stand for. Assumes nothing.
use Rattle.std.proofs.Common.{sym}
use Rattle.protocol.proofs.Folds.{value_read}
use Rattle.protocol.proofs.input.Reader.read.Goals as goal

pub returns-clause-value : goal.returns-clause-value
returns-clause-value g c =
    let type = g.T.FromToken in
    let state = c.in_ok-number.ensures.state in
    value_read type.in_state type.of_reading g.met.T.FromToken.reads state.0 c.in_ok-number.number (sym state.2) c.from_number.result c.from_number.ensures c.unreadable.result c.ok_or.result c.ok_or.ensures.value
