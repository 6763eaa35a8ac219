-- The product with d and the sum are small, so that neither wraps, and the piece's `Holds` says what the sum is.
use Rattle.std.proofs.Common.{◌≡◌, ℕ, ◌*◌, ◌/◌, ◌^◌, ◌<◌, ◌≤◌, ℤ, pos, ◌+ℤ◌, ◌*ℤ◌, nat_abs, sym, ap, mul-le-mul, arith, to_z-of_z, w64, SFits, to_z, of_z}
use Rattle.std.proofs.lemmas.Int.{to_z_pos}
use Rattle.steps.specs.Inner.Lines.{Holds, line_at}
use Rattle.steps.proofs.Signed.{sfits, read_small, times_abs, add_abs}
use Rattle.steps.proofs.one_plus.ln_one_plus_exp.Goals as goal

module _ (k : ℕ) (d : ℤ) (h : Holds k d) (small : nat_abs d ≤ 2 ^ 36) where
  product_top : nat_abs (pos (line_at k).1 *ℤ d) ≤ 2 ^ 41
  product_top = let g = h.gentle in let m : (line_at k).1 * nat_abs d ≤ 32 * 2 ^ 36 = mul-le-mul g small in omega (arith, times_abs (line_at k).1 d)

  product_fits : SFits w64 (to_z w64 (line_at k).1 *ℤ d)
  product_fits = let g = h.gentle in rw (to_z_pos w64 (line_at k).1 (omega arith)) (sfits w64 (pos (line_at k).1 *ℤ d) (omega (arith, product_top)))

  -- the code's sum, at d and the two numbers of its line
  code_sum : (to_z w64 (line_at k).0 +ℤ to_z w64 (of_z w64 (to_z w64 (line_at k).1 *ℤ d)) ≡ pos h.sum) × (h.sum < 2 ^ 42)
  code_sum =
      let x = (line_at k).0 in
      let y = (line_at k).1 in
      let l = h.low in
      let g = h.gentle in
      let p = product_top in (
        rw (to_z_pos w64 x (omega arith), to_z_pos w64 y (omega arith), read_small w64 (pos y *ℤ d) (omega arith)) h.sums,
        omega (arith, add_abs (pos x) (pos y *ℤ d), ap nat_abs h.sums),
      )

pub overflow_mul-result : goal.overflow_mul-result
overflow_mul-result c = rw c.lines.ensures (product_fits c.piece.result (to_z w64 (of_z w64 c.args.d)) c.piece.ensures (rw (to_z-of_z c.ranges.d) c.requires))

pub overflow_add-result : goal.overflow_add-result
overflow_add-result c =
    let e = code_sum c.piece.result (to_z w64 (of_z w64 c.args.d)) c.piece.ensures (rw (to_z-of_z c.ranges.d) c.requires) in
    let l = e.1 in rw (c.lines.ensures, e.0) (sfits w64 (pos c.piece.ensures.sum) (omega arith))

pub overflow_cast-result-3 : goal.overflow_cast-result-3
overflow_cast-result-3 c =
    let e = code_sum c.piece.result (to_z w64 (of_z w64 c.args.d)) c.piece.ensures (rw (to_z-of_z c.ranges.d) c.requires) in
    let l = e.1 in
    rw (c.lines.ensures, e.0, read_small w64 (pos c.piece.ensures.sum) (omega arith)) (tt, record { fits = omega arith })

pub returns : goal.returns
returns c =
    let e = code_sum c.piece.result (to_z w64 (of_z w64 c.args.d)) c.piece.ensures (rw (to_z-of_z c.ranges.d) c.requires) in
    let l = e.1 in
    let n = c.piece.ensures.sum in
    rw (c.lines.ensures, e.0, read_small w64 (pos n) (omega arith), to_z_pos w64 (n / 32) (omega arith))
    (sym (rw (to_z-of_z c.ranges.d) at c.piece.ensures.value))
