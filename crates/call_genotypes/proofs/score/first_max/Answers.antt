-- No numbers, and one more number that is looked at. Assumes nothing.
use Rattle.std.proofs.Common.{◌≡◌, cond, get_or, length, pos, to_z, of_z, w64, arith, refl, rules, tests}
use lib.Signed.{lt_z}
use Rattle.genotype_probs.specs.Posteriors.{first_maximum}
use Rattle.genotype_probs.proofs.Maxima.{maximum_one}
use Rattle.call_genotypes.proofs.Written.{best_step}
use Rattle.call_genotypes.proofs.score.first_max.Goals as goal
use Rattle.call_genotypes.proofs.score.first_max.Goals.{then-best-x, else-best-x, then-best-x-2, else-best-x-2}

pub returns-then-is_empty : goal.returns-then-is_empty
unfolding first_maximum
returns-then-is_empty c = let e : length c.args.s.now ≡ 0 = search (rules, tests) in rw (e) refl

pub loop-g-init : goal.loop-g-init
loop-g-init c = record { is = maximum_one _; best = search rules }

pub loop-g-preserved : goal.loop-g-preserved
loop-g-preserved c =
    let l = c.loop-g in
    let n = get_or c.args.s.now l.g (pos 0) in
    let e : to_z w64 (of_z w64 n) ≡ n = search rules in
    let b : c.if-best-x.b ≡ cond (lt_z (to_z w64 l.best-bits) n) l.g l.b = elim c.if-best-x.branch [ then-best-x w ↦ rw (← e, w.if-best-x.true) (omega arith) | else-best-x w ↦ rw (← e, w.if-best-x.false) (omega arith) ] in
    let z : to_z w64 c.if-best-x-2.best-bits ≡ cond (lt_z (to_z w64 l.best-bits) n) n (to_z w64 l.best-bits) = elim c.if-best-x-2.branch [ then-best-x-2 w ↦ rw (← e, w.if-best-x-2.true) w.best-is | else-best-x-2 w ↦ rw (← e, w.if-best-x-2.false) w.best-is ] in
    best_step _ _ _ _ _ _ l.invariant b z
