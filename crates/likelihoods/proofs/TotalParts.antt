-- The parts of a total: what a variant and a fragment add, how far from 0 each is, and that they make up the total of the case that the
-- slices hold. Assumes nothing.
use mathlib.Core.Path.{◌≡◌, refl, sym, ap, ◌∙◌}
use mathlib.Core.List.{List}
use Prim.Native.Nat.{ℕ, ◌+◌, ◌-◌, ◌*◌, ◌^◌, ◌<◌, ◌≤◌}
use native.Mathlib.Omega.{arith}
use borrow.Author.Tests.{eq-eqb, ne_eqb}
use mir.Syntax.{w64}
use mir.Val.{to_z, of_z}
use lib.Signed.{mag}
use lib.IntN.{ℤ, pos, nat_abs, ◌+ℤ◌, ◌-ℤ◌}
use lib.ListN.{get_or}
use Rattle.steps.specs.Logs.{add_exp, mix_of}
use Rattle.steps.proofs.Signed.{minus_abs, minus_read, zlin, parts_add, parts_minus, read_small, read_back}
use Rattle.steps.proofs.AddExp.{add_exp_from, mix_small}
use Rattle.variants_and_fragments.specs.Sums.{sum_over, sum_to}
use Rattle.variants_and_fragments.specs.Decode.{tabulate}
use Rattle.sweeps.specs.Sweeps.{SweepCase, allele0, allele1, read_share, total_of}
use Rattle.variants_and_fragments.proofs.Sums.{sum_to_cong}
use Rattle.pileup.specs.Inner.Packed.{group_start}
use Rattle.likelihoods.specs.declared.likelihoods.ReadLikelihoods.{ReadLikelihoods}
use Rattle.likelihoods.specs.Inner.Held.{Within}
use Rattle.likelihoods.specs.Inner.Likelihoods.{calls_of, flagged, LikelihoodsAre}
use Rattle.likelihoods.specs.Inner.Totals.{pair_prior, held_case, prior_share, fragment_share, standing_share, PriorsIn}
use Rattle.likelihoods.proofs.RunningSums.{table_sum}
use Rattle.likelihoods.proofs.CallShares.{on_first}

-- two sums of equal parts
pub same_sum : {a b m n : ℤ} → a ≡ b → m ≡ n → a +ℤ m ≡ b +ℤ n
same_sum p q = cc

-- ---- a fragment
-- mixed likelihoods are the second one, z, and ln(1 + exp(d)) for how far d the first is above it
pub mixed_from : (x y z d : ℤ) → x -ℤ pos 4096 ≡ z +ℤ d → y -ℤ pos 4096 ≡ z → mix_of x y ≡ z +ℤ add_exp d (pos 0)
unfolding mix_of
mixed_from x y z d e f = ap (λ (u : ℤ). add_exp u (y -ℤ pos 4096)) e ∙ ap (λ (u : ℤ). add_exp (z +ℤ d) u) f ∙ add_exp_from d z

pub mixed_over : (x y : ℤ) → mix_of x y ≡ (y -ℤ pos 4096) +ℤ add_exp (x -ℤ y) (pos 0)
mixed_over x y =
    let z = y -ℤ pos 4096 in
    mixed_from x y z (x -ℤ y) (omega (zlin, parts_minus x (pos 4096), parts_minus y (pos 4096), parts_minus x y, parts_add z (x -ℤ y))) refl

-- the code's sum, where rise is what the first adds
pub mixed_read : (a b rise : ℤ) → nat_abs a ≤ 2 ^ 34 → nat_abs b ≤ 2 ^ 34 → mag rise < 2 ^ 63 → rise ≡ add_exp (to_z w64 (of_z w64 (to_z w64 (of_z w64 a) -ℤ to_z w64 (of_z w64 b)))) (pos 0)
    → to_z w64 (of_z w64 (to_z w64 (of_z w64 b) -ℤ pos 4096)) +ℤ to_z w64 (of_z w64 rise) ≡ mix_of a b
mixed_read a b rise ha hb hr e =
    rw (read_small w64 b (omega arith), read_small w64 (b -ℤ pos 4096) (omega (arith, minus_abs b (pos 4096))), read_back w64 rise hr, e, minus_read w64 a b (omega arith)) (sym (mixed_over a b))

-- what read f adds, and how far from 0 that is: 262144 steps for each of its rows, and 8192
pub fragment_is : (rows ends hap mask : List ℕ) (f : ℕ) (r : ReadLikelihoods) (term : ℤ) → LikelihoodsAre rows (group_start ends f) (get_or ends f 0) hap mask r → term ≡ mix_of r.first.0 r.second.0
    → (term ≡ fragment_share rows ends hap mask f) × (nat_abs term ≤ 262144 * (get_or ends f 0 - group_start ends f) + 8192)
unfolding fragment_share calls_of
fragment_is rows ends hap mask f r term k e = (
  e ∙ cc (k.first_is, k.second_is),
  rw e (mix_small r.first.0 r.second.0 _ k.first_small k.second_small),
)

-- the same of the likelihoods that stand
pub standing_is : (lik : List ℤ) (f : ℕ) (r : ReadLikelihoods) (term : ℤ) → Within (2 ^ 32) lik → (r.first.0 ≡ get_or lik (2 * f) (pos 0)) × (r.second.0 ≡ get_or lik (2 * f + 1) (pos 0)) → term ≡ mix_of r.first.0 r.second.0
    → (term ≡ standing_share lik f) × (nat_abs term ≤ 2 ^ 32 + 8192)
unfolding standing_share
standing_is lik f r term h is e =
    let m : term ≡ mix_of (get_or lik (2 * f) (pos 0)) (get_or lik (2 * f + 1) (pos 0)) = rw (is.0, is.1) at e in
    (m, rw m (mix_small _ _ (2 ^ 32) (h (2 * f)) (h (2 * f + 1))))

-- ---- a variant
module _ (ks : List ℕ) (pri : List ℤ) (hap mask : List ℕ) (v : ℕ) where
  pub share_flagged : get_or mask v 0 ≡ 1 → pair_prior ks pri v (allele0 hap v) (allele1 hap v) ≡ prior_share ks pri hap mask v
  unfolding prior_share flagged
  share_flagged e = rw (eq-eqb (get_or mask v 0) 1 e)

  pub share_unflagged : (get_or mask v 0 ≡ 1 → ⊥) → pos 0 ≡ prior_share ks pri hap mask v
  unfolding prior_share flagged
  share_unflagged e = rw (ne_eqb (get_or mask v 0) 1 e)

module _ {n : ℕ} {ks : List ℕ} {pri : List ℤ} {hap mask : List ℕ} (k : PriorsIn n ks pri hap mask) (v : ℕ) (h : v < n) where
  -- its prior as it is read, where its flag is 1
  pub share_read : get_or mask v 0 ≡ 1
      → let x = to_z w64 (of_z w64 (get_or pri (9 * v + (get_or hap (2 * v) 0 * get_or ks v 0 + get_or hap (2 * v + 1) 0)) (pos 0))) in (x ≡ prior_share ks pri hap mask v) × (nat_abs x ≤ 2 ^ 21)
  unfolding pair_prior
  share_read e =
      let s = k.small v h in
      rw (read_small w64 (pair_prior ks pri v (allele0 hap v) (allele1 hap v)) (omega (arith, s))) (share_flagged ks pri hap mask v e, s)

  pub share_left_out : (get_or mask v 0 ≡ 1 → ⊥) → (pos 0 ≡ prior_share ks pri hap mask v) × (0 ≤ 2 ^ 21)
  share_left_out e = (share_unflagged ks pri hap mask v e, omega arith)

-- what holds of the priors holds of fewer
pub priors_fewer : {n m : ℕ} {ks : List ℕ} {pri : List ℤ} {hap mask : List ℕ} → m ≤ n → PriorsIn n ks pri hap mask → PriorsIn m ks pri hap mask
priors_fewer h p = record {
  variants_top = omega (arith, p.variants_top);
  ks_long = omega (arith, p.ks_long);
  mask_long = omega (arith, p.mask_long);
  hap_long = omega (arith, p.hap_long);
  pri_long = omega (arith, p.pri_long);
  pair_in = λ v l. p.pair_in v (omega arith);
  small = λ v l. p.small v (omega arith);
}

-- ---- the total of the case that the slices hold
module _ (n f : ℕ) (ks : List ℕ) (pri : List ℤ) (rows ends hap mask : List ℕ) where
  abbrev H : SweepCase
  H = held_case n f ks pri rows ends mask

  read_share_lem : (g : ℕ) → read_share H (flagged mask) hap (calls_of rows ends g) ≡ fragment_share rows ends hap mask g
  unfolding held_case read_share fragment_share
  read_share_lem g = rw (on_first (flagged mask) hap (calls_of rows ends g))

  fragments_sum : sum_over (tabulate f (calls_of rows ends)) (read_share H (flagged mask) hap) ≡ sum_to f (fragment_share rows ends hap mask)
  fragments_sum =
      table_sum (calls_of rows ends) (read_share H (flagged mask) hap) 0 f
      ∙ sum_to_cong f (λ j. read_share H (flagged mask) hap (calls_of rows ends (0 + j))) (fragment_share rows ends hap mask)
      (λ j h. let e : 0 + j ≡ j = omega arith in rw e (read_share_lem j))

  pub total_parts : sum_to n (prior_share ks pri hap mask) +ℤ sum_to f (fragment_share rows ends hap mask) ≡ total_of H (flagged mask) hap
  unfolding total_of held_case prior_share
  total_parts = ap (λ (z : ℤ). sum_to n (prior_share ks pri hap mask) +ℤ z) (sym fragments_sum)
