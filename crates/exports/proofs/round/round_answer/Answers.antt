-- Done or refused, the numbers of the outcome.
use Rattle.std.proofs.Common.{w64, rules}
use mir.Val.{SFits}
use mir.Facts.{to_z-of_z}
use Rattle.exports.proofs.Numbers.{round_is}
use Rattle.exports.proofs.round.round_answer.Goals as goal

pub returns : goal.returns
returns c =
    let start : SFits w64 c.unwrap_or-r.result.start.0 = search rules in
    let end : SFits w64 c.unwrap_or-r.result.end.0 = search rules in
    let source : SFits w64 c.unwrap_or-r.result.source.0 = search rules in
    rw (to_z-of_z start, to_z-of_z end, to_z-of_z source) (round_is c.args.answer _ _ c.from-number.ensures c.unwrap_or-r.ensures)
