-- The check's own outcome.
use Rattle.std.proofs.Common.{w32, ◌∙◌, rules, of_calls}
use mir.Val.{SFits}
use mir.Facts.{to_z-of_z}
use Rattle.exports.proofs.Numbers.{exported, check_answer, sizes_of}
use Rattle.exports.proofs.check.condorbed_check_case.Goals as goal

pub returns : goal.returns
returns c =
    let fits : SFits w32 c.unwrap_or-s.result.cutoff = search rules in
    let sizes = sizes_of c.check_case.result c.map-answer.result (λ k s r. search of_calls) c.map-answer.ensures.cases in
    rw (to_z-of_z fits)
    (exported _ (sizes ∙ c.check_case.ensures.outcome) (check_answer c.map-answer.result _ _ c.from-number.ensures c.unwrap_or-s.ensures))
