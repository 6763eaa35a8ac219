-- The rows are the variant's pile, and the scores from their sums are the case's. Assumes nothing.
use Rattle.std.proofs.Common.{◌∙◌, rules, w64, arith}
use Rattle.steps.proofs.Signed.{read_back}
use Rattle.call_genotypes.proofs.Turns.{turn_small}
use Rattle.call_genotypes.proofs.Linked.{lik_within, pile_fits, scores_room, first_small, scored}
use Rattle.call_genotypes.proofs.score.scores.Goals as goal

pub score_calls-sums-requires-clause-pile_fits : goal.score_calls-sums-requires-clause-pile_fits
score_calls-sums-requires-clause-pile_fits c =
    let S = c.requires.some.holds in
    c.pile.ensures.rows_in _ _ (pile_fits S.standing.held c.args.v S.v_in S.standing.liks)

pub invariant_of-score_calls : goal.invariant_of-score_calls
invariant_of-score_calls c = let S = c.requires.some.holds in record { within = lik_within S.standing.held _ _ S.standing.liks; few = omega (arith, S.standing.liks.long, S.standing.held.fragments_top) }

pub score_calls-sums-requires-clause-within : goal.score_calls-sums-requires-clause-within
score_calls-sums-requires-clause-within c = λ i. rw (c.turns_of-turns.ensures i) (turn_small _ _ _ i)

pub below_first-base-requires : goal.below_first-base-requires
below_first-base-requires c =
    let S = c.requires.some.holds in
    let room = scores_room S.standing.held c.args.v S.v_in c.args.post.now S.standing.room in
    (room.v_top, omega (arith, room.pri_long), first_small room)

pub returns : goal.returns
returns c C S =
    scored S c.pile.result.now c.at-old.result _ c.turns_of-turns.result c.score_calls-sums.result.of _ _ c.pile.ensures c.at-old.ensures (search rules) c.turns_of-turns.ensures c.score_calls-sums.ensures
    (read_back w64 _ c.below_first-base.type_inv ∙ c.below_first-base.ensures.0) c.write_scores.ensures
