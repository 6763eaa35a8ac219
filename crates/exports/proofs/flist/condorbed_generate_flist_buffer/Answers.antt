-- The operation's own promise.
use Rattle.exports.proofs.Numbers.{exported, flist_answer}
use Rattle.exports.proofs.flist.condorbed_generate_flist_buffer.Goals as goal

pub returns : goal.returns
returns c =
    exported _ c.generate_flist_buffer-answer.ensures (flist_answer c.generate_flist_buffer-answer.result _ _ c.from-number.ensures c.unwrap_or-bytes.ensures)
