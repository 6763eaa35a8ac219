-- The operation's own promise, of its numbers.
use Rattle.std.proofs.Common.{w32, w64, rules}
use mir.Val.{SFits}
use mir.Facts.{to_z-of_z}
use Rattle.late_reads.specs.LateReads.{outcome_of}
use Rattle.exports.proofs.Promised.{arrived_at}
use Rattle.exports.proofs.Numbers.{exported, late_numbers_lem}
use Rattle.exports.proofs.late.condorbed_arrive.Goals as goal

pub returns : goal.returns
returns c =
    let f : SFits w64 c.args.total = search rules in
    let g : SFits w32 c.args.strand = search rules in
    exported _ {o = outcome_of c.arrive.result} (arrived_at _ _ _ _ _ _ (to_z-of_z f) _ _ (to_z-of_z g) c.arrive.ensures) (rw c.late_answer.ensures (late_numbers_lem c.arrive.result))
