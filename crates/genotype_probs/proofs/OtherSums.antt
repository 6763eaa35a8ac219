-- The sum over the pairs other than a called one and its mirror: as a loop goes through it, its size, and that none of them has more.
-- Assumes nothing.
use mathlib.Core.Path.{◌≡◌, refl, sym, ap, ◌∙◌}
use mathlib.Core.Bool.{Bool, true, false, cond}
use mathlib.Core.List.{List, map}
use Prim.Native.Nat.{ℕ, zero, suc, ◌+◌, ◌*◌, ◌-◌, ◌/◌, ◌%◌, ◌^◌, ◌≤◌, ◌<◌}
use native.Mathlib.Decide.{ℕ_discrete}
use native.Mathlib.Nat.{mul-le-mul_left, div-add-mod'}
use native.Mathlib.Omega.{arith}
use borrow.Author.Tests.{eq-eqb, ne_eqb}
use lib.IntN.{ℤ, pos, nat_abs}
use lib.ListN.{get_or}
use lib.Signed.{◌≤ℤ◌}
use Rattle.steps.specs.Logs.{Log, mark, steps, ln_add_exp, ln_sum_from, ln_sum_exp}
use Rattle.steps.specs.Inner.Logs.{size}
use Rattle.steps.proofs.AddExp.{add_least}
use Rattle.steps.proofs.Marks.{log_size, size_steps}
use Rattle.steps.proofs.Signed.{by_test, zlin}
use Rattle.variants_and_fragments.specs.Decode.{tabulate_from}
use Rattle.variants_and_fragments.specs.Pileup.{only}
use Rattle.variants_and_fragments.proofs.Tabulated.{table_start, table_more, table_end}
use Rattle.genotype_probs.specs.Posteriors.{mirror, is_other, others, other_sum, OthersCounted}
use Rattle.genotype_probs.proofs.TableSums.{place_in}

-- ---- the test
pub not_itself : (p m q : ℕ) → q ≡ p → is_other p m q ≡ false
unfolding is_other
not_itself p m q e = rw (eq-eqb q p e)

pub not_mirror : (p m q : ℕ) → (q ≡ p → ⊥) → q ≡ m → is_other p m q ≡ false
unfolding is_other
not_mirror p m q h e = rw (ne_eqb q p h, eq-eqb q m e)

pub an_other : (p m q : ℕ) → (q ≡ p → ⊥) → (q ≡ m → ⊥) → is_other p m q ≡ true
unfolding is_other
an_other p m q h e = rw (ne_eqb q p h, ne_eqb q m e)

-- ---- the sum
-- the entries of the n pairs from a on that are kept
abbrev pub kept : List ℤ → (ℕ → Bool) → ℕ → ℕ → List Log
kept tab keep a n = map (λ (q : ℕ). steps (get_or tab q (pos 0))) (only keep (tabulate_from (λ q. q) a n))

-- what is left of it from q on
pub left_over : List ℤ → ℕ → ℕ → ℕ → List Log
left_over tab k p q = kept tab (is_other p (mirror k p)) q (k * k - q)

-- `sum` is that of the pairs before q
pub record Adding (tab : List ℤ) (k p : ℕ) (sum : Log) (q : ℕ) : Type 0 where
  pub inside : q ≤ k * k
  pub small : size sum ≤ 2 ^ 40 + 4096 * q
  pub rest : ln_sum_from sum (left_over tab k p q) ≡ other_sum tab k p

pub adding_start : (tab : List ℤ) (k p : ℕ) → Adding tab k p mark 0
unfolding left_over other_sum others ln_sum_exp size
adding_start tab k p = record {
  inside = omega arith;
  small = omega arith;
  rest = rw (table_start (λ (i : ℕ). i) (k * k));
}

module _ (tab : List ℤ) (k p : ℕ) (sum : Log) (q : ℕ) (a : Adding tab k p sum q) where
  -- one more pair
  sum_more : (t : Bool) → is_other p (mirror k p) q ≡ t → q < k * k → ln_sum_from (cond t (ln_add_exp sum (steps (get_or tab q (pos 0)))) sum) (left_over tab k p (q + 1)) ≡ ln_sum_from sum (left_over tab k p q)
  unfolding left_over only ln_sum_from
  sum_more true e h = rw (table_more (λ (i : ℕ). i) (k * k) q h, e)
  sum_more false e h = rw (table_more (λ (i : ℕ). i) (k * k) q h, e)

  more_small : (t : Bool) → nat_abs (get_or tab q (pos 0)) ≤ 2 ^ 40 → size (cond t (ln_add_exp sum (steps (get_or tab q (pos 0)))) sum) ≤ 2 ^ 40 + 4096 * (q + 1)
  more_small true h =
      let s = a.small in
      let e = size_steps (get_or tab q (pos 0)) in
      omega (arith, log_size sum (steps (get_or tab q (pos 0))) (2 ^ 40 + 4096 * q) s (omega arith))
  more_small false h = let s = a.small in omega arith

  pub adding_more : (next : Log) → q < k * k → nat_abs (get_or tab q (pos 0)) ≤ 2 ^ 40 → next ≡ cond (is_other p (mirror k p) q) (ln_add_exp sum (steps (get_or tab q (pos 0)))) sum → Adding tab k p next (q + 1)
  adding_more next h l e = rw e (record {
    inside = omega arith;
    small = more_small (is_other p (mirror k p) q) l;
    rest = sum_more (is_other p (mirror k p) q) refl h ∙ a.rest;
  })

  pub adding_end : k * k ≤ q → sum ≡ other_sum tab k p
  unfolding left_over only ln_sum_from
  adding_end h = rw (table_end (λ (i : ℕ). i) (k * k) q h) at a.rest

-- ---- none of the pairs added has more
-- a log probability is no less than z steps
abbrev at_least : ℤ → Log → Type 0
at_least z mark = ⊥
at_least z (steps x) = z ≤ℤ x

still : (z x : ℤ) (a : Log) → at_least z a → at_least z (ln_add_exp a (steps x))
unfolding ln_add_exp
still z x mark h = absurd h
still z x (steps a) h = let l = (add_least a x).0 in omega zlin

added : (x : ℤ) (a : Log) → at_least x (ln_add_exp a (steps x))
unfolding ln_add_exp
added x mark = omega zlin
added x (steps a) = (add_least a x).1

module _ (tab : List ℤ) (keep : ℕ → Bool) where
  sum_still : (z : ℤ) (a n : ℕ) (s : Log) → at_least z s → at_least z (ln_sum_from s (kept tab keep a n))
  unfolding only tabulate_from ln_sum_from
  sum_still z a zero s h = h
  sum_still z a (suc n) s h =
      by_test (keep a)
      (λ t. rw t (sum_still z (suc a) n (ln_add_exp s (steps (get_or tab a (pos 0)))) (still z (get_or tab a (pos 0)) s h)))
      (λ t. rw t (sum_still z (suc a) n s h))

  sum_most : (q a n : ℕ) (s : Log) → a ≤ q → q < a + n → keep q ≡ true → at_least (get_or tab q (pos 0)) (ln_sum_from s (kept tab keep a n))
  unfolding only tabulate_from ln_sum_from
  sum_most q a zero s h l t = absurd (omega arith)
  sum_most q a (suc n) s h l t =
      elim (ℕ_discrete q a) [
        | yes e ↦ rw (sym e, t) (sum_still (get_or tab q (pos 0)) (suc q) n (ln_add_exp s (steps (get_or tab q (pos 0)))) (added (get_or tab q (pos 0)) s))
        | no e ↦ by_test (keep a)
            (λ u. rw u (sum_most q (suc a) n (ln_add_exp s (steps (get_or tab a (pos 0)))) (omega arith) (omega arith) t))
            (λ u. rw u (sum_most q (suc a) n s (omega arith) (omega arith) t))
      ]

-- number 0 alone has the mirror of number 0
module _ (k p : ℕ) (low : 1 ≤ k) where
  mirror_zero : mirror k p ≡ 0 → p ≡ 0
  unfolding mirror
  mirror_zero e =
      let a : p / k ≡ 0 = omega arith in
      omega (arith, div-add-mod' p k, mul-le-mul_left (p % k) low, ap (λ (i : ℕ). i * k) a)

  zero_mirror : p ≡ 0 → mirror k p ≡ 0
  unfolding mirror
  zero_mirror e =
      let d = div-add-mod' p k in
      let b : p % k ≡ 0 = omega arith in
      omega (arith, mul-le-mul_left (p / k) low, ap (λ (j : ℕ). j * k) b)

-- at two alleles or more there is another pair: (0, 0), or (0, 1) where that is the called one
another : (k p : ℕ) → 2 ≤ k → (q : ℕ) × ((q < k * k) × (is_other p (mirror k p) q ≡ true))
another k p two =
    let low : 1 ≤ k = omega arith in
    elim (ℕ_discrete p 0) [
      | yes e ↦ let m = zero_mirror k p low e in (1, (omega (arith, place_in 0 1 k low two), an_other p (mirror k p) 1 (λ f. omega arith) (λ f. omega arith)))
      | no e ↦ (0, (omega (arith, place_in 0 0 k low low), an_other p (mirror k p) 0 (λ f. e (sym f)) (λ f. e (mirror_zero k p low (sym f)))))
    ]

pub others_counted : (tab : List ℤ) (k p : ℕ) → 2 ≤ k → OthersCounted tab k p
unfolding other_sum others ln_sum_exp
others_counted tab k p two = go (other_sum tab k p) refl (λ q l t. sum_most tab (is_other p (mirror k p)) q 0 (k * k) mark (omega arith) (omega arith) t)
  where
    go : (s : Log) → other_sum tab k p ≡ s → ((q : ℕ) → q < k * k → is_other p (mirror k p) q ≡ true → at_least (get_or tab q (pos 0)) s) → OthersCounted tab k p
    go mark e most = let o = another k p two in absurd (most o.0 o.1.0 o.1.1)
    go (steps z) e most = record { sum = z; sum_is = e; most = most }
