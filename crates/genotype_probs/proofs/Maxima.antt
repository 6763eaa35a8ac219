-- The search for the first maximum meets its statement, which one number alone meets.
-- Assumes nothing.
use mathlib.Core.Path.{◌≡◌, refl, sym, ap, ◌∙◌, subst}
use mathlib.Core.Bool.{Bool, true, false, cond}
use mathlib.Core.List.{List}
use Prim.Native.Nat.{ℕ, zero, suc, ◌+◌, ◌*◌, ◌≤◌, ◌<◌}
use native.Mathlib.Nat.{le_antisymm}
use native.Mathlib.Omega.{arith}
use native.Mathlib.Numerals.{add-one}
use native.Mathlib.Decide.{ℕ_discrete}
use lib.IntN.{ℤ, ◌-ℤ◌}
use lib.Signed.{lt_z, ◌≤ℤ◌, ◌<ℤ◌}
use Rattle.std.proofs.Common.{Ordering, Less, Equal, Greater, is_lt, int_cmp}
use Rattle.std.specs.Ordering.{MatchOrdering}
use Rattle.std.specs.Cmp.{int_ranks}
use Rattle.steps.proofs.Signed.{by_test, cases, zlin, lt_true, true_lt, false_lt, parts_minus}
use Rattle.genotype_probs.specs.Posteriors.{FirstMaximum, first_maximum, post_at, max_genotype}
use Rattle.genotype_probs.proofs.TableSums.{place_in}

-- whether the order of two numbers is Less
pub lt_test : (a b : ℤ) → is_lt (int_cmp a b) ≡ lt_z a b
lt_test a b = go (int_cmp a b) (int_ranks a b)
  where
    go : (o : Ordering) → MatchOrdering o (a <ℤ b) (a ≡ b) (b <ℤ a) → is_lt o ≡ lt_z a b
    go Less m = sym (lt_true a b m)
    go Equal m = let l : lt_z a b ≡ false = omega zlin in sym l
    go Greater m = let l : lt_z a b ≡ false = omega zlin in sym l

self : (z : ℤ) → z ≤ℤ z
self z = omega zlin

module _ (f : ℕ → ℤ) where
  -- one more number looked at
  more : (n b : ℕ) → FirstMaximum f n b → FirstMaximum f (suc n) (cond (lt_z (f b) (f n)) n b)
  more n b m =
      let h = m.inside in
      by_test (lt_z (f b) (f n))
      (λ t.
      let l = true_lt (f b) (f n) t in
      rw t
      (record {
        inside = omega arith;
        greatest = λ p k. elim (ℕ_discrete p n) [
          | yes e ↦ subst (λ (q : ℕ). f q ≤ℤ f n) (sym e) (self (f n))
          | no e ↦ let g = m.greatest p (omega arith) in omega zlin
        ];
        first = λ p k. let g = m.greatest p k in omega zlin;
      }))
      (λ t.
      let l = false_lt (f b) (f n) t in
      rw t
      (record {
        inside = omega arith;
        greatest = λ p k. elim (ℕ_discrete p n) [
          | yes e ↦ subst (λ (q : ℕ). f q ≤ℤ f b) (sym e) l
          | no e ↦ m.greatest p (omega arith)
        ];
        first = m.first;
      }))

  one : FirstMaximum f 1 0
  one =
      record {
        inside = omega arith;
        greatest = λ p k. let e : p ≡ 0 = omega arith in subst (λ (q : ℕ). f q ≤ℤ f 0) (sym e) (self (f 0));
        first = λ p k. absurd (omega arith);
      }

  pub maximum_one : ◌≡◌ {A = ℕ} 0 (first_maximum f 1)
  unfolding first_maximum
  maximum_one = by_test (lt_z (f 0) (f 0)) (λ t. rw t) (λ t. rw t)

  pub meets : (n : ℕ) → 0 < n → FirstMaximum f n (first_maximum f n)
  unfolding first_maximum
  meets zero h = absurd (omega arith)
  meets (suc zero) h = subst (λ (r : ℕ). FirstMaximum f 1 r) maximum_one one
  meets (suc (suc n)) h = more (suc n) (first_maximum f (suc n)) (meets (suc n) (omega arith))

  -- one number alone meets it
  not_before : (n r s : ℕ) → FirstMaximum f n r → FirstMaximum f n s → r ≤ s
  not_before n r s x y =
      cases s r (λ h. let a = x.first s h in let b = y.greatest r x.inside in absurd (omega zlin)) (λ h. h)

  pub one_maximum : (n r s : ℕ) → FirstMaximum f n r → FirstMaximum f n s → r ≡ s
  one_maximum n r s x y = le_antisymm (not_before n r s x y) (not_before n s r y x)

  -- a loop's turn: one more number looked at, and no greater one found or a greater one
  pub maximum_more : (b n : ℕ) → b ≡ first_maximum f n → lt_z (f b) (f n) ≡ true → n ≡ first_maximum f (n + 1)
  unfolding first_maximum
  maximum_more b n e t = rw (add-one, ← e, t)

  pub maximum_kept : (b n : ℕ) → b ≡ first_maximum f n → lt_z (f b) (f n) ≡ false → b ≡ first_maximum f (n + 1)
  unfolding first_maximum
  maximum_kept b n e t = rw (add-one, ← e, t)

-- it is among the numbers looked at, and goes by them alone
by_pick : (t : Bool) (a b n : ℕ) → a ≤ n → b ≤ n → cond t a b ≤ n
by_pick true a b n h k = h
by_pick false a b n h k = k

maximum_in : (f : ℕ → ℤ) (n : ℕ) → first_maximum f n ≤ n
unfolding first_maximum
maximum_in f zero = omega arith
maximum_in f (suc n) = by_pick (lt_z (f (first_maximum f n)) (f n)) n (first_maximum f n) (suc n) (omega arith) (omega (arith, maximum_in f n))

pub maximum_same : (f g : ℕ → ℤ) (n : ℕ) → ((p : ℕ) → p < n → f p ≡ g p) → first_maximum f n ≡ first_maximum g n
unfolding first_maximum
maximum_same f g zero h = refl
maximum_same f g (suc n) h =
    let e = maximum_same f g n (λ p l. h p (omega arith)) in
    let b = maximum_in f n in
    let x : f (first_maximum f n) ≡ g (first_maximum g n) = h (first_maximum f n) (omega arith) ∙ ap g e in
    rw (x, h n (omega arith), e)

-- what is taken from all numbers does not matter for the first of the greatest
less_test : (x y c : ℤ) → lt_z (x -ℤ c) (y -ℤ c) ≡ lt_z x y
less_test x y c =
    by_test (lt_z x y)
    (λ t. let h : lt_z (x -ℤ c) (y -ℤ c) ≡ true = omega (zlin, parts_minus x c, parts_minus y c) in h ∙ sym t)
    (λ t. let h : lt_z (x -ℤ c) (y -ℤ c) ≡ false = omega (zlin, parts_minus x c, parts_minus y c) in h ∙ sym t)

pub maximum_shifted : (f : ℕ → ℤ) (c : ℤ) (n : ℕ) → first_maximum (λ g. f g -ℤ c) n ≡ first_maximum f n
unfolding first_maximum
maximum_shifted f c zero = refl
maximum_shifted f c (suc n) = rw (maximum_shifted f c n, less_test (f (first_maximum f n)) (f n) c)

-- the genotype that is kept is the first maximum of its table
pub genotype_maximum : (phased : Bool) (tab : List ℤ) (k : ℕ) → 1 ≤ k → FirstMaximum (post_at phased tab k) (k * k) (max_genotype phased tab k)
unfolding max_genotype
genotype_maximum phased tab k h = meets (post_at phased tab k) (k * k) (omega (arith, place_in 0 0 k h h))
