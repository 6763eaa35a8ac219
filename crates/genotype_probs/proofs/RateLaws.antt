-- What accepted rates are, and the sizes of what is made of them: each rate lies in −262144..−1, `ln_one_minus_exp` of steps below 0 is at
-- most 57,344 steps down. Assumes nothing.
use mathlib.Core.Path.{◌≡◌, refl, sym, ap, ◌∙◌}
use mathlib.Core.Bool.{true}
use mathlib.Core.List.{List, [], ◌∷◌, map}
use Prim.Native.Nat.{ℕ, zero, suc, ◌≤◌, ◌<◌, ◌^◌}
use native.Mathlib.Omega.{arith}
use borrow.Author.Tests.{leb-true}
use lib.Dec.{leb}
use lib.ListN.{get_or}
use lib.IntN.{ℤ, pos, negsuc, neg_ℤ, nat_abs, ◌+ℤ◌}
use lib.Signed.{lt_z, ◌≤ℤ◌}
use mir.Syntax.{w64}
use mir.Val.{to_z, of_z}
use Rattle.steps.specs.Logs.{steps, add_exp, ln_sum_exp, sum_exp}
use Rattle.steps.specs.Inner.Logs.{log_of}
use Rattle.steps.specs.OneMinus.{low, first, ln_one_minus_exp}
use Rattle.steps.proofs.Signed.{by_test, true_false, cases, zlin, neg_abs, parts_add, true_lt, up_pos, dn_pos, read_small}
use Rattle.steps.proofs.AddExp.{add_size}
use Rattle.steps.proofs.Marks.{of_small, log_injective}
use Rattle.steps.proofs.Sums.{sum_steps}
use Rattle.steps.proofs.OneMinus.{search_least, lowest_of, of_below, down_le}
use Rattle.variants_and_fragments.specs.First.{first_fail}
use Rattle.variants_and_fragments.specs.Refusals.{Outcome, done, each}
use Rattle.variants_and_fragments.proofs.First.{first_all, first_end, first_le}
use Rattle.variants_and_fragments.proofs.Outcomes.{each_past}
use Rattle.steps.specs.declared.LogProb.{LogProb}
use Rattle.genotype_probs.specs.declared.Rates.{Rates}
use Rattle.variants_and_fragments.specs.Words.{within}
use Rattle.genotype_probs.specs.Rates.{hom_snv_rate, het_snv_rate, hom_indel_rate, het_indel_rate, ts_rate, tv_rate, rate_ok, rate_sum, rate_tests, rate_test}
use Rattle.genotype_probs.specs.Inner.Rates.{rates_fault}
use Rattle.genotype_probs.specs.Priors.{finite, one_minus_exp}

-- ---- one rate
pub rate_size : (z : ℤ) → rate_ok z ≡ true → nat_abs z ≤ 262144
unfolding rate_ok within
rate_size (pos n) t = true_false t refl
rate_size (negsuc n) t = by_test (leb n 262143) (λ h. omega (arith, leb-true n 262143 h)) (λ h. true_false t (rw h))

pub rate_below : (z : ℤ) → rate_ok z ≡ true → lt_z z (pos 0) ≡ true
unfolding rate_ok within
rate_below (pos n) t = true_false t refl
rate_below (negsuc n) t = refl

-- what the machine reads back of it
pub rate_read : (z : ℤ) → rate_ok z ≡ true → to_z w64 (of_z w64 z) ≡ z
rate_read z t = let h = rate_size z t in read_small w64 z (omega arith)

-- ---- accepted rates
pub record RatesIn (rates : Rates) : Type 0 where
  pub hom_snv : rate_ok (hom_snv_rate rates) ≡ true
  pub het_snv : rate_ok (het_snv_rate rates) ≡ true
  pub hom_indel : rate_ok (hom_indel_rate rates) ≡ true
  pub het_indel : rate_ok (het_indel_rate rates) ≡ true
  pub ts_in : rate_ok (ts_rate rates) ≡ true
  pub tv_in : rate_ok (tv_rate rates) ≡ true
  pub sum_below : lt_z (rate_sum rates) (pos 0) ≡ true

pub rates_in : (rates : Rates) → rates_fault rates ≡ 7 → RatesIn rates
unfolding rates_fault rate_test rate_tests
rates_in rates e =
    let all = first_all (rate_test rates) 7 (omega (arith, e)) in
    record {
      hom_snv = all 0 (omega arith);
      het_snv = all 1 (omega arith);
      hom_indel = all 2 (omega arith);
      het_indel = all 3 (omega arith);
      ts_in = all 4 (omega arith);
      tv_in = all 5 (omega arith);
      sum_below = all 6 (omega arith);
    }

pub fault_top : (rates : Rates) → rates_fault rates ≤ 7
unfolding rates_fault
fault_top rates = first_le (rate_test rates) 7

-- ---- number 6: where the rates are accepted, and where not
module _ {X : Type 0} (rates : Rates) (rest : Outcome X) where
  pub rates_past : (x : X) → each 6 (rate_test rates) 0 7 rest ≡ done x → (rates_fault rates ≡ 7) × (rest ≡ done x)
  unfolding rates_fault first_fail
  rates_past x e = let p = each_past 6 (rate_test rates) 0 7 rest x e in (omega (arith, p.0, fault_top rates), p.1)

-- where each test holds
pub all_accepted : (rates : Rates) → ((p : ℕ) → p < 7 → rate_test rates p ≡ true) → rates_fault rates ≡ 7
unfolding rates_fault
all_accepted rates h = sym (first_end (rate_test rates) 7 7 h refl)

-- the first six tests are of the six rates
abbrev pub six_rates : Rates → List LogProb
six_rates rates = rates.hom_snv ∷ rates.het_snv ∷ rates.hom_indel ∷ rates.het_indel ∷ rates.ts ∷ rates.tv ∷ []

pub six_tests : (rates : Rates) (p : ℕ) (d : LogProb) → p < 6 → rate_test rates p ≡ rate_ok (get_or (six_rates rates) p d).0
unfolding rate_test rate_tests
six_tests rates zero d h = refl
six_tests rates (suc zero) d h = refl
six_tests rates (suc (suc zero)) d h = refl
six_tests rates (suc (suc (suc zero))) d h = refl
six_tests rates (suc (suc (suc (suc zero)))) d h = refl
six_tests rates (suc (suc (suc (suc (suc zero))))) d h = refl
six_tests rates (suc (suc (suc (suc (suc (suc p)))))) d h = absurd (omega arith)

-- and the last is of their sum
pub last_test : (rates : Rates) → rate_test rates 6 ≡ lt_z (rate_sum rates) (pos 0)
unfolding rate_test rate_tests
last_test rates = refl

-- ---- sums of rates
pub rate_sum_lem : (rates : Rates) → ln_sum_exp (map steps (hom_snv_rate rates ∷ het_snv_rate rates ∷ hom_indel_rate rates ∷ het_indel_rate rates ∷ [])) ≡ steps (rate_sum rates)
unfolding rate_sum
rate_sum_lem rates = sum_steps (hom_snv_rate rates) (het_snv_rate rates ∷ hom_indel_rate rates ∷ het_indel_rate rates ∷ [])

-- each of four is small
pub four_small : (n : ℕ) (a b c d : ℤ) → nat_abs a ≤ n → nat_abs b ≤ n → nat_abs c ≤ n → nat_abs d ≤ n → (k : ℕ) → k < 4 → nat_abs (get_or (a ∷ b ∷ c ∷ d ∷ []) k (pos 0)) ≤ n
four_small n a b c d ha hb hc hd zero h = ha
four_small n a b c d ha hb hc hd (suc zero) h = hb
four_small n a b c d ha hb hc hd (suc (suc zero)) h = hc
four_small n a b c d ha hb hc hd (suc (suc (suc zero))) h = hd
four_small n a b c d ha hb hc hd (suc (suc (suc (suc k)))) h = absurd (omega arith)

pub sum_rates : (rates : Rates) → rate_sum rates ≡ add_exp (add_exp (add_exp (hom_snv_rate rates) (het_snv_rate rates)) (hom_indel_rate rates)) (het_indel_rate rates)
unfolding rate_sum sum_exp
sum_rates rates = refl

pub sum_small : (rates : Rates) → RatesIn rates → nat_abs (rate_sum rates) ≤ 274432
sum_small rates good =
    let a = rate_size (hom_indel_rate rates) good.hom_indel in
    let b = rate_size (het_indel_rate rates) good.het_indel in
    let x = add_size (hom_snv_rate rates) (het_snv_rate rates) 262144 (rate_size _ good.hom_snv) (rate_size _ good.het_snv) in
    let y = add_size (add_exp (hom_snv_rate rates) (het_snv_rate rates)) (hom_indel_rate rates) 266240 (omega arith) (omega arith) in
    rw (sum_rates rates)
    (add_size (add_exp (add_exp (hom_snv_rate rates) (het_snv_rate rates)) (hom_indel_rate rates)) (het_indel_rate rates) 270336 (omega arith) (omega arith))

pub below_sum : (a b : ℤ) → lt_z a (pos 0) ≡ true → lt_z b (pos 0) ≡ true → lt_z (a +ℤ b) (pos 0) ≡ true
below_sum a b h k = let z = up_pos 0 in let y = dn_pos 0 in omega (zlin, parts_add a b)

-- ---- ln_one_minus_exp of steps below 0
pub record Finite (p : ℤ) : Type 0 where
  pub is_steps : ln_one_minus_exp (steps p) ≡ steps (one_minus_exp p)
  pub small : nat_abs (one_minus_exp p) ≤ 57344
  pub not_above : one_minus_exp p ≤ℤ pos 0

one_minus_value : (p q : ℤ) → ln_one_minus_exp (steps p) ≡ steps q → one_minus_exp p ≡ q
unfolding one_minus_exp finite
one_minus_value p q e = ap finite e

steps_finite : (p : ℤ) (r : ℕ) → r ≤ 57344 → ln_one_minus_exp (steps p) ≡ steps (neg_ℤ (pos r)) → Finite p
steps_finite p r h e =
    let v = one_minus_value p (neg_ℤ (pos r)) e in
    record {
      is_steps = rw v e;
      small = rw v (omega (arith, neg_abs (pos r)));
      not_above = rw v (down_le 0 r (omega arith));
    }

pub one_minus_finite : (p : ℤ) → lt_z p (pos 0) ≡ true → Finite p
one_minus_finite (pos n) t = absurd (let l = true_lt (pos n) (pos 0) t in let a = up_pos n in let z = up_pos 0 in let b = dn_pos n in let y = dn_pos 0 in omega zlin)
one_minus_finite (negsuc n) t =
    let w = search_least n in
    let r = first (low (negsuc n)) 16 0 in
    let l : r ≤ 57344 = cases 57344 r (λ m. true_false (lowest_of (negsuc n) t) (w.none 57344 m)) (λ m. m) in
    steps_finite (negsuc n) r l (of_below (negsuc n) r t w)

-- what the code's i64 is
pub one_minus_is : (p r : ℤ) → nat_abs p < 2 ^ 63 → lt_z p (pos 0) ≡ true → log_of r ≡ ln_one_minus_exp (log_of p) → r ≡ one_minus_exp p
one_minus_is p r h t e =
    let f = one_minus_finite p t in
    let s = f.small in
    log_injective r (one_minus_exp p) (e ∙ ap ln_one_minus_exp (of_small p h) ∙ f.is_steps ∙ sym (of_small (one_minus_exp p) (omega arith)))
