-- Neither number less 4,096 wraps or is the mark.
use Rattle.std.proofs.Common.{◌≡◌, ℕ, ◌^◌, ◌≤◌, ℤ, pos, nat_abs, max, ◌-ℤ◌, arith, w64, to_z, of_z, rules}
use Rattle.steps.specs.Logs.{mix_of}
use Rattle.steps.specs.Inner.Logs.{log_of, size}
use Rattle.steps.proofs.AddExp.{mix_small}
use Rattle.steps.proofs.Signed.{minus_abs, minus_read, read_small}
use Rattle.steps.proofs.Marks.{size_small, add_is}
use Rattle.steps.proofs.LogProb.mix.Goals as goal

less_size : (z : ℤ) (n : ℕ) → nat_abs z ≤ 2 ^ 40 → n ≤ 2 ^ 40 → size (log_of (to_z w64 (of_z w64 (to_z w64 (of_z w64 z) -ℤ pos n)))) ≤ 2 ^ 61
less_size z n h k =
    let s = minus_abs z (pos n) in
    rw (read_small w64 z (omega arith), read_small w64 (z -ℤ pos n) (omega arith))
    (omega (arith, size_small (z -ℤ pos n) (omega arith)))

pub ln_add_exp-requires : goal.ln_add_exp-requires
ln_add_exp-requires c = (search (rules, less_size), search (rules, less_size))

pub returns : goal.returns
unfolding mix_of
returns c =
    let x = c.args.self.0 in
    let y = c.args.other.0 in
    let s = minus_abs x (pos 4096) in
    let t = minus_abs y (pos 4096) in
    let p = minus_read w64 x (pos 4096) (omega arith) in
    let q = minus_read w64 y (pos 4096) (omega arith) in
    let e : c.ln_add_exp.result.0 ≡ mix_of x y = add_is (x -ℤ pos 4096) (y -ℤ pos 4096) c.ln_add_exp.result.0 (omega arith) (omega arith) (rw (p, q) at c.ln_add_exp.ensures) in
    record { value = e; bound = rw e (mix_small x y (max (nat_abs x) (nat_abs y)) (omega arith) (omega arith)) }
