-- Above, ln(1 + exp(..)) of each distance is that distance; below, it is 0. Assumes nothing.
use Rattle.std.proofs.Common.{◌≡◌, ◌∙◌, refl, ℤ, true, cond, pos, to_z, of_z, w64, arith}
use borrow.Author.Tests.{le-leb}
use lib.Dec.{leb}
use lib.IntN.{negsuc}
use lib.Signed.{lt_z}
use Rattle.std.specs.Int.{int_max}
use Rattle.steps.specs.Logs.{larger}
use Rattle.steps.proofs.AddExp.{max_is}
use Rattle.steps.proofs.Signed.{zlin, by_test, true_lt, up_pos, dn_pos, read_small, read_back}
use Rattle.call_genotypes.proofs.Far.{far_values}
use Rattle.call_genotypes.proofs.score.far_mixes.Goals as goal
use Rattle.call_genotypes.proofs.score.far_mixes.Goals.{then-d-lt0, else-d-lt0}

-- the greater of d and 0, by the sign of d
max_zero : (d : ℤ) → int_max d (pos 0) ≡ cond (lt_z d (pos 0)) (pos 0) d
unfolding larger
max_zero (pos n) =
    let h : leb 0 n ≡ true = le-leb 0 n (omega arith) in
    let m : int_max (pos n) (pos 0) ≡ pos n = rw h at (max_is (pos n) (pos 0)) in
    by_test (lt_z (pos n) (pos 0)) (λ t. absurd (let l = true_lt (pos n) (pos 0) t in omega (zlin, up_pos n, dn_pos n, up_pos 0, dn_pos 0))) (λ t. rw t m)
max_zero (negsuc n) = refl

pub returns : goal.returns
returns c =
    let d = c.args.d in
    let e : to_z w64 (of_z w64 d) ≡ d = read_small w64 d (omega (arith, c.requires.1)) in
    let g : to_z w64 (of_z w64 c.args.g) ≡ c.args.g = read_small w64 c.args.g (omega (arith, c.requires.2)) in
    let m = rw e at c.max-m.ensures.value in
    let y : to_z w64 c.if-d-lt0.y-bits ≡ cond (lt_z d (pos 0)) (pos 0) c.args.g = elim c.if-d-lt0.branch [ then-d-lt0 w ↦ rw (← e, w.if-d-lt0.true) w.y-is | else-d-lt0 w ↦ rw (← e, w.if-d-lt0.false) (w.y-is ∙ g) ] in
    far_values d c.args.g c.requires.0 c.requires.1 c.requires.2 _ _ (read_back w64 _ c.max-m.type_inv ∙ m ∙ max_zero d) y
