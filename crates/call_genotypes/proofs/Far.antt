-- Where `is_far` says that ln(1 + exp(..)) is straight: d itself above, 0 below, and a call's gap does not lead away from there. Assumes nothing.
use mathlib.Core.Path.{◌≡◌, sym, ◌∙◌}
use mathlib.Core.Bool.{true, cond}
use Prim.Native.Nat.{ℕ, ◌+◌, ◌^◌, ◌≤◌}
use native.Mathlib.Omega.{arith}
use mir.Syntax.{w64}
use mir.Val.{to_z, of_z}
use lib.IntN.{ℤ, pos, nat_abs, neg_ℤ, ◌+ℤ◌, ◌-ℤ◌}
use lib.Signed.{lt_z, ◌≤ℤ◌, ◌<ℤ◌}
use Rattle.steps.proofs.AddExp.{far_above, far_below}
use Rattle.steps.proofs.Signed.{zlin, by_test, true_lt, false_lt, read_small, add_abs, minus_abs, up_pos, dn_pos, neg_up, neg_dn, nat_abs_parts, parts_add, parts_minus}
use Rattle.call_genotypes.specs.Inner.Scores.{one_plus, is_far, value_of, mix_value}
use Rattle.call_genotypes.proofs.Sizes.{either_size, mix_values}

-- ---- what is far, by its sign
pub far_low : (d : ℤ) → is_far d ≡ true → d <ℤ pos 0 → d <ℤ neg_ℤ (pos 313472)
unfolding is_far
far_low d e h = by_test (lt_z d (neg_ℤ (pos 313472)))
    (λ t. true_lt d (neg_ℤ (pos 313472)) t)
    (λ t. let l = true_lt (pos 313472) d (rw t at e) in absurd (omega (zlin, up_pos 0, dn_pos 0, up_pos 313472, dn_pos 313472)))

pub far_high : (d : ℤ) → is_far d ≡ true → pos 0 ≤ℤ d → pos 313472 <ℤ d
unfolding is_far
far_high d e h = by_test (lt_z d (neg_ℤ (pos 313472)))
    (λ t. let l = true_lt d (neg_ℤ (pos 313472)) t in absurd (omega (zlin, neg_up (pos 313472), neg_dn (pos 313472), up_pos 0, dn_pos 0, up_pos 313472, dn_pos 313472)))
    (λ t. true_lt (pos 313472) d (rw t at e))

-- ---- there, and a gap around it
pub above_here : (d : ℤ) → pos 313472 <ℤ d → one_plus d ≡ d
above_here d h = far_above d (omega (zlin, up_pos 313472, dn_pos 313472, up_pos 51328, dn_pos 51328))

pub below_here : (d : ℤ) → d <ℤ neg_ℤ (pos 313472) → one_plus d ≡ pos 0
below_here d h = far_below d (omega (zlin, neg_up (pos 313472), neg_dn (pos 313472), neg_up (pos 51328), neg_dn (pos 51328), up_pos 313472, dn_pos 313472, up_pos 51328, dn_pos 51328))

module _ (d g : ℤ) (small : nat_abs g ≤ 262144) where
  pub above_add : pos 313472 <ℤ d → one_plus (d +ℤ g) ≡ d +ℤ g
  above_add h = far_above (d +ℤ g) (omega (zlin, nat_abs_parts g, parts_add d g, up_pos 313472, dn_pos 313472, up_pos 51328, dn_pos 51328))

  pub above_less : pos 313472 <ℤ d → one_plus (d -ℤ g) ≡ d -ℤ g
  above_less h = far_above (d -ℤ g) (omega (zlin, nat_abs_parts g, parts_minus d g, up_pos 313472, dn_pos 313472, up_pos 51328, dn_pos 51328))

  pub below_add : d <ℤ neg_ℤ (pos 313472) → one_plus (d +ℤ g) ≡ pos 0
  below_add h = far_below (d +ℤ g) (omega (zlin, nat_abs_parts g, parts_add d g, neg_up (pos 313472), neg_dn (pos 313472), neg_up (pos 51328), neg_dn (pos 51328), up_pos 313472, dn_pos 313472, up_pos 51328, dn_pos 51328))

  pub below_less : d <ℤ neg_ℤ (pos 313472) → one_plus (d -ℤ g) ≡ pos 0
  below_less h = far_below (d -ℤ g) (omega (zlin, nat_abs_parts g, parts_minus d g, neg_up (pos 313472), neg_dn (pos 313472), neg_up (pos 51328), neg_dn (pos 51328), up_pos 313472, dn_pos 313472, up_pos 51328, dn_pos 51328))

-- ---- the four numbers there, where m and y are 0 below and d and g above
module _ (d g : ℤ) (far : is_far d ≡ true) (hd : nat_abs d ≤ 2 ^ 33 + 2 ^ 20) (hg : nat_abs g ≤ 262144) where
  abbrev m : ℤ
  m = cond (lt_z d (pos 0)) (pos 0) d

  abbrev y : ℤ
  y = cond (lt_z d (pos 0)) (pos 0) g

  m_small : nat_abs m ≤ 2 ^ 33 + 2 ^ 20
  m_small = either_size (lt_z d (pos 0)) d (pos 0) (2 ^ 33 + 2 ^ 20) hd (omega arith)

  y_small : nat_abs y ≤ 262144
  y_small = either_size (lt_z d (pos 0)) g (pos 0) 262144 hg (omega arith)

  first_is : m +ℤ y ≡ one_plus (d +ℤ g)
  first_is = by_test (lt_z d (pos 0))
      (λ t. rw t (sym (below_add d g hg (far_low d far (true_lt d (pos 0) t)))))
      (λ t. rw t (sym (above_add d g hg (far_high d far (false_lt d (pos 0) t)))))

  second_is : m -ℤ y ≡ one_plus (d -ℤ g)
  second_is = by_test (lt_z d (pos 0))
      (λ t. rw t (sym (below_less d g hg (far_low d far (true_lt d (pos 0) t)))))
      (λ t. rw t (sym (above_less d g hg (far_high d far (false_lt d (pos 0) t)))))

  neither_is : m ≡ one_plus d
  neither_is = by_test (lt_z d (pos 0))
      (λ t. rw t (sym (below_here d (far_low d far (true_lt d (pos 0) t)))))
      (λ t. rw t (sym (above_here d (far_high d far (false_lt d (pos 0) t)))))

  pub far_values : (m' y' : ℤ) → m' ≡ m → y' ≡ y
      → (w : ℕ) → value_of (record { first = to_z w64 (of_z w64 (m' +ℤ y')); second = to_z w64 (of_z w64 (m' -ℤ y')); gap = to_z w64 (of_z w64 g); neither = m' }) w ≡ mix_value d g w
  far_values m' y' em ey =
      mix_values _ d g
      (rw (em, ey) (read_small w64 (m +ℤ y) (omega (arith, add_abs m y, m_small, y_small)) ∙ first_is))
      (rw (em, ey) (read_small w64 (m -ℤ y) (omega (arith, minus_abs m y, m_small, y_small)) ∙ second_is))
      (read_small w64 g (omega arith))
      (em ∙ neither_is)
