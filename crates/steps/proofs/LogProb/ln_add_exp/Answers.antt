-- Each arm is a case of the definition.
use Rattle.std.proofs.Common.{◌≡◌, ◌^◌, ◌≤◌, true, false, nat_abs, sym, arith, w64, to_z, of_z, rules}
use Rattle.steps.specs.Inner.Logs.{is_mark, log_of}
use Rattle.steps.proofs.AddExp.{add_size}
use Rattle.steps.proofs.Signed.{read_small}
use Rattle.steps.specs.Logs.{add_exp}
use Rattle.steps.proofs.Marks.{of_mark, of_steps, of_small, add_mark, add_to_mark, add_steps, size_of}
use Rattle.steps.proofs.LogProb.ln_add_exp.Goals as goal

pub returns-then-is_mark : goal.returns-then-is_mark
returns-then-is_mark c =
    let e : to_z w64 (of_z w64 c.args.self.0) ≡ c.args.self.0 = search rules in
    let m : is_mark c.args.self.0 ≡ true = cc in cc (of_mark c.args.self.0 m, add_mark (log_of c.args.other.0))

pub returns-then-is_mark-2 : goal.returns-then-is_mark-2
returns-then-is_mark-2 c =
    let e : to_z w64 (of_z w64 c.args.other.0) ≡ c.args.other.0 = search rules in
    let m : is_mark c.args.other.0 ≡ true = cc in cc (of_mark c.args.other.0 m, add_to_mark (log_of c.args.self.0))

pub add_exp-requires : goal.add_exp-requires
add_exp-requires c =
    let e : to_z w64 (of_z w64 c.args.self.0) ≡ c.args.self.0 = search rules in
    let f : to_z w64 (of_z w64 c.args.other.0) ≡ c.args.other.0 = search rules in
    let a : is_mark c.args.self.0 ≡ false = cc in
    let b : is_mark c.args.other.0 ≡ false = cc in
    rw (e, f) (omega (arith, size_of c.args.self.0 a), omega (arith, size_of c.args.other.0 b))

pub returns : goal.returns
returns c =
    let e : to_z w64 (of_z w64 c.args.self.0) ≡ c.args.self.0 = search rules in
    let f : to_z w64 (of_z w64 c.args.other.0) ≡ c.args.other.0 = search rules in
    let a : is_mark c.args.self.0 ≡ false = cc in
    let b : is_mark c.args.other.0 ≡ false = cc in
    let x : nat_abs c.args.self.0 ≤ 2 ^ 61 = omega (arith, size_of c.args.self.0 a) in
    let y : nat_abs c.args.other.0 ≤ 2 ^ 61 = omega (arith, size_of c.args.other.0 b) in
    let r : c.add_exp.result ≡ add_exp c.args.self.0 c.args.other.0 = cc in
    let z = add_size c.args.self.0 c.args.other.0 (2 ^ 61) x y in
    rw (r, read_small w64 (add_exp c.args.self.0 c.args.other.0) (omega arith), of_small (add_exp c.args.self.0 c.args.other.0) (omega arith), of_steps c.args.self.0 a, of_steps c.args.other.0 b)
    (sym (add_steps c.args.self.0 c.args.other.0))
