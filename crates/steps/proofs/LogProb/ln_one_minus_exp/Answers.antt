-- The mark, 0, and below 0 the search.
use Rattle.std.proofs.Common.{◌≡◌, true, false, ℤ, pos, negsuc, neg_ℤ, sym, refl, ap, ◌∙◌, arith, w64, to_z, of_z, rules, leb-true}
use lib.Signed.{le_z, lt_z}
use Rattle.steps.specs.Inner.Logs.{is_mark, log_of}
use Rattle.steps.specs.OneMinus.{ln_one_minus_exp}
use Rattle.steps.proofs.Marks.{of_small, size_of, size_fits}
use Rattle.steps.proofs.Marks as marks
use Rattle.steps.proofs.OneMinus.{of_zero, of_mark}
use Rattle.steps.proofs.Signed.{read_back, read_eq, sfits, neg_abs}
use Rattle.steps.proofs.LogProb.ln_one_minus_exp.Goals as goal

not_zero : (p : ℤ) → le_z p (pos 0) ≡ true → (of_z w64 p ≡ 0 → ⊥) → lt_z p (pos 0) ≡ true
not_zero (pos n) t f = let l = leb-true n 0 t in absurd (f (omega arith))
not_zero (negsuc n) t f = refl

pub returns-then-is_mark : goal.returns-then-is_mark
returns-then-is_mark c =
    let e : to_z w64 (of_z w64 c.args.self.0) ≡ c.args.self.0 = search rules in
    let m : is_mark c.args.self.0 ≡ true = cc in
    c.ln_one.ensures ∙ sym of_mark ∙ sym (ap ln_one_minus_exp (marks.of_mark c.args.self.0 m))

pub returns-then-p-eq0 : goal.returns-then-p-eq0
returns-then-p-eq0 c =
    let h = c.requires.0 in
    let z : c.args.self.0 ≡ pos 0 = read_eq w64 (size_fits c.args.self.0 (omega arith)) (sfits w64 (pos 0) (omega arith)) c.if-p-eq0.true in
    c.ln_zero.ensures ∙ sym of_zero ∙ sym (ap ln_one_minus_exp (ap log_of z ∙ of_small (pos 0) (omega arith)))

pub steps_down-requires : goal.steps_down-requires
steps_down-requires c =
    let e : to_z w64 (of_z w64 c.args.self.0) ≡ c.args.self.0 = search rules in
    let f : is_mark c.args.self.0 ≡ false = cc in
    rw e (omega (arith, size_of c.args.self.0 f), not_zero c.args.self.0 c.requires.1 c.if-p-eq0.false)

pub returns : goal.returns
returns c =
    let e : to_z w64 (of_z w64 c.args.self.0) ≡ c.args.self.0 = search rules in
    let f : is_mark c.args.self.0 ≡ false = cc in
    let q = neg_ℤ (pos c.steps_down.result) in
    let b : to_z w64 (of_z w64 c.below_zero.result) ≡ q = read_back w64 c.below_zero.result c.below_zero.type_inv ∙ c.below_zero.ensures in
    let n = neg_abs (pos c.steps_down.result) in
    let l = c.steps_down.ensures.0 in
    cc (of_small q (omega arith), marks.of_steps c.args.self.0 f, e)
