-- Done or refused, the numbers of the outcome.
use Rattle.std.proofs.Common.{w64, rules}
use mir.Val.{SFits}
use mir.Facts.{to_z-of_z}
use Rattle.exports.proofs.Numbers.{late_is}
use Rattle.exports.proofs.late.late_answer.Goals as goal

pub returns : goal.returns
returns c =
    let f : SFits w64 c.unwrap_or-total.result.0 = search rules in
    rw (to_z-of_z f) (late_is c.args.answer _ _ c.from-number.ensures c.unwrap_or-total.ensures)
