-- How far below 0 the priors lie: a rate at most 262,144 steps, a letter's value at most twice that, that of two letters at most four times
-- that, and a prior at most 4,096 more. Assumes nothing.
use mathlib.Core.Path.{◌≡◌}
use mathlib.Core.List.{List}
use mathlib.Core.Bool.{Bool, true, false, cond}
use Prim.Native.Nat.{ℕ, ◌+◌, ◌≤◌}
use native.Mathlib.Omega.{arith}
use lib.IntN.{ℤ, pos, nat_abs, ◌+ℤ◌}
use lib.Signed.{◌≤ℤ◌}
use Rattle.steps.proofs.Signed.{zlin, up_pos, dn_pos, parts_add, add_abs}
use Rattle.genotype_probs.specs.declared.Rates.{Rates}
use Rattle.genotype_probs.specs.Rates.{het_snv_rate, het_indel_rate, ts_rate, tv_rate, rate_ok, rate_sum}
use Rattle.genotype_probs.specs.Letters.{Base, Letter, same_letter, Change, same, transition, transversion, indel, change}
use Rattle.genotype_probs.specs.Priors.{ln_half, ln_quarter, one_minus_exp, haploid, homozygous, diploid, letters_prior, base_at, compared, alleles_prior}
use Rattle.genotype_probs.proofs.RateLaws.{rate_size, rate_below, RatesIn, below_sum, Finite, one_minus_finite}

-- z is at most 0, and at most n steps down
pub record Down (n : ℕ) (z : ℤ) : Type 0 where
  pub not_above : z ≤ℤ pos 0
  pub most : nat_abs z ≤ n

pub down_more : {m n : ℕ} {z : ℤ} → m ≤ n → Down m z → Down n z
down_more h d = record { not_above = d.not_above; most = omega (arith, d.most) }

pub down_add : {m n : ℕ} {a b : ℤ} → Down m a → Down n b → Down (m + n) (a +ℤ b)
down_add {m} {n} {a} {b} d e =
    let z = up_pos 0 in
    let y = dn_pos 0 in
    let p = d.not_above in
    let q = e.not_above in
    record { not_above = omega (zlin, parts_add a b); most = omega (arith, add_abs a b, d.most, e.most) }

pub rate_down : (z : ℤ) → rate_ok z ≡ true → Down 262144 z
rate_down z t =
    let h = rate_below z t in
    record { not_above = omega zlin; most = rate_size z t }

half_down : Down 4096 ln_half
half_down = record { not_above = record { le = tt }; most = omega arith }

quarter_down : Down 8192 ln_quarter
quarter_down = record { not_above = record { le = tt }; most = omega arith }

one_minus_down : (p : ℤ) → Finite p → Down 57344 (one_minus_exp p)
one_minus_down p f = record { not_above = f.not_above; most = f.small }

by_cond : {n : ℕ} (t : Bool) (a b : ℤ) → Down n a → Down n b → Down n (cond t a b)
by_cond true a b d e = d
by_cond false a b d e = e

module _ (rates : Rates) (good : RatesIn rates) where
  ts_down : Down 262144 (ts_rate rates)
  ts_down = rate_down _ good.ts_in

  tv_down : Down 262144 (tv_rate rates)
  tv_down = rate_down _ good.tv_in

  -- the rate of a transition or of a transversion
  pub change_down : (t : Bool) → Down 262144 (cond t (ts_rate rates) (tv_rate rates))
  change_down t = by_cond t (ts_rate rates) (tv_rate rates) ts_down tv_down

  gap_down : {z : ℤ} → Down 262144 z → Down 524288 (z +ℤ ln_half +ℤ ln_quarter)
  gap_down d = down_more (omega arith) (down_add (down_add d half_down) quarter_down)

  pub haploid_down : (c : Change) → Down 524288 (haploid rates c)
  unfolding haploid
  haploid_down same =
      down_more (omega arith)
      (one_minus_down (het_snv_rate rates +ℤ het_indel_rate rates) (one_minus_finite _ (below_sum (het_snv_rate rates) (het_indel_rate rates) (rate_below _ good.het_snv) (rate_below _ good.het_indel))))
  haploid_down transition = down_add (rate_down _ good.het_snv) ts_down
  haploid_down transversion = down_add (rate_down _ good.het_snv) tv_down
  haploid_down indel = gap_down (rate_down _ good.het_indel)

  homozygous_down : (c : Change) → Down 524288 (homozygous rates c)
  unfolding homozygous
  homozygous_down same = down_more (omega arith) (one_minus_down (rate_sum rates) (one_minus_finite _ good.sum_below))
  homozygous_down transition = down_add (rate_down _ good.hom_snv) ts_down
  homozygous_down transversion = down_add (rate_down _ good.hom_snv) tv_down
  homozygous_down indel = gap_down (rate_down _ good.hom_indel)

  -- ---- two letters
  pub diploid_down : (ref : Base) (first second : Letter) → Down 1048576 (diploid rates ref first second)
  unfolding diploid
  diploid_down ref first second =
      by_cond (same_letter first second) _ _
      (down_more (omega arith) (homozygous_down (change ref first)))
      (down_add (haploid_down (change ref first)) (haploid_down (change ref second)))

  zero_down : {n : ℕ} → Down n (pos 0)
  zero_down = record { not_above = record { le = tt }; most = omega arith }

  -- ---- priors: each is in −1,052,672..0, so within 2^21 steps of 0
  letters_down : (ref : Base) (first second : Letter) → Down 1052672 (letters_prior rates ref first second)
  unfolding letters_prior
  letters_down ref first second =
      down_add (diploid_down ref first second) (by_cond (same_letter first second) (pos 0) ln_half zero_down half_down)

  pub prior_down : (reference first second : List ℕ) → Down 1052672 (alleles_prior rates reference first second)
  unfolding alleles_prior
  prior_down reference first second =
      let one = compared reference first (base_at reference 0) in
      let two = compared reference second one.base in letters_down two.base one.letter two.letter
