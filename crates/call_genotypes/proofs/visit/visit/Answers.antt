-- The best pair of the scores that were written is taken. Assumes nothing.
use Rattle.std.proofs.Common.{◌≡◌, ◌&&◌, eqb, rules}
use Rattle.call_genotypes.proofs.Visited.{movable, visited_same, visited_moved}
use Rattle.call_genotypes.proofs.visit.visit.Goals as goal

pub returns-then-same : goal.returns-then-same
returns-then-same c C S =
    let old = c.at-old.result in
    let new = c.best_pair-new.result in
    let t : c.eq-same.result ≡ (eqb old.first new.first && eqb old.second new.second) = search rules in
    visited_same S _ _ _ (c.scores.ensures C S) c.at-old.ensures c.best_pair-new.ensures c.eq-same.result t c.if-same.true

pub returns : goal.returns
returns c C S =
    let old = c.at-old.result in
    let new = c.best_pair-new.result in
    let t : c.eq-same.result ≡ (eqb old.first new.first && eqb old.second new.second) = search rules in
    visited_moved S _ _ _ (c.scores.ensures C S) c.at-old.ensures c.best_pair-new.ensures c.eq-same.result _ _ t c.if-same.false (c.put_pair.ensures C (movable S))
