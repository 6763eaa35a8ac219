-- How far below 0 scores and totals lie, whatever the haplotypes are: a prior at most 2^21 steps; a fragment's mixed
-- likelihoods at most 262,144 steps a call and 4,096 more, and never above 0; so the sum of all of them, there being
-- 16,384 calls and 4,096 fragments at most, less than 2^33 steps. Assumes nothing.
use mathlib.Core.Path.{◌≡◌}
use mathlib.Core.Bool.{Bool, cond}
use mathlib.Core.List.{List, [], ◌∷◌, map}
use Prim.Native.Nat.{ℕ, zero, suc, ◌+◌, ◌*◌, ◌/◌, ◌%◌, ◌^◌, ◌≤◌}
use native.Mathlib.Omega.{arith}
use lib.Dec.{T}
use lib.IntN.{ℤ, pos, neg_ℤ, nat_abs, ◌-ℤ◌}
use lib.ListN.{length}
use Rattle.steps.proofs.Signed.{zlin, up_pos, dn_pos, neg_up, neg_dn, nat_abs_parts, parts_add, parts_minus}
use Rattle.steps.proofs.AddExp.{add_least, add_below}
use Rattle.variants_and_fragments.specs.declared.Sizes.{Sizes}
use Rattle.variants_and_fragments.specs.Case.{Case, Variant, Fragment, Call, variant_of, allele_of}
use Rattle.variants_and_fragments.specs.Inner.Case.{rising, All, GoodCase, GoodFragment}
use Rattle.variants_and_fragments.specs.Check.{check_case_outcome}
use Rattle.variants_and_fragments.specs.Refusals.{done}
use Rattle.variants_and_fragments.specs.Decode.{decode}
use Rattle.variants_and_fragments.specs.Pileup.{usable_calls}
use Rattle.variants_and_fragments.specs.Sums.{sum_over, count_over, sum_to}
use Rattle.variants_and_fragments.specs.Inner.Sums.{DownTo}
use Rattle.variants_and_fragments.proofs.Alls.{all_imp, all_map}
use Rattle.variants_and_fragments.proofs.Bounds.{down_low, down_high, down_in, down_zero, down_more, down_add, down_sum, calls_sum}
use Rattle.variants_and_fragments.proofs.GoodCases.{good_case}
use Rattle.variants_and_fragments.proofs.Usable.{usable_fewer, usable_in, usable_rises}
use Rattle.genotype_probs.specs.declared.Rates.{Rates}
use Rattle.genotype_probs.specs.Inner.Rates.{rates_fault}
use Rattle.genotype_probs.specs.Priors.{get_prior}
use Rattle.genotype_probs.proofs.ListLaws.{down_abs}
use Rattle.genotype_probs.proofs.PriorBounds.{Down, prior_down}
use Rattle.genotype_probs.proofs.RateLaws.{rates_in}
use Rattle.sweeps.specs.Sweeps.{SweepCase, allele0, allele1, put_pair, likelihood, per_call, read_share, with_own, score_with, score, total_of}
use Rattle.steps.specs.Logs.{mix_of}
use Rattle.sweeps.specs.Inner.Sweeps.{has_call}
use Rattle.sweeps.proofs.Basics.{one_call}
use Rattle.likelihoods.specs.Inner.Likelihoods.{call_share}
use Rattle.likelihoods.specs.SweepCaseOf.{sweep_case_of}
use Rattle.likelihoods.proofs.SweepCases.{likelihood_sum, cond_down, share_down, variants_are, mix_is}

-- ---- numbers in −n..0
from_down : {n : ℕ} {z : ℤ} → Down n z → DownTo n z
from_down {n} {z} d =
    let a = nat_abs_parts z in
    let m = d.most in
    let l = d.not_above in down_in n z (omega arith) (omega (zlin, up_pos 0, dn_pos 0))

-- two likelihoods mixed: at least the smaller less 4,096, and at most 0
mix_down : (n : ℕ) (a b : ℤ) → DownTo n a → DownTo n b → DownTo (n + 4096) (mix_of a b)
unfolding mix_of
mix_down n a b d e =
    let x = a -ℤ pos 4096 in
    let y = b -ℤ pos 4096 in
    let c = neg_ℤ (pos 4096) in
    let p = parts_minus a (pos 4096) in
    let q = parts_minus b (pos 4096) in
    let u = up_pos 4096 in
    let v = dn_pos 4096 in
    let r = neg_up (pos 4096) in
    let t = neg_dn (pos 4096) in
    let i = down_low n a d in
    let j = down_high n a d in
    let k = down_high n b e in
    down_in (n + 4096) _
    (omega (zlin, (add_least x y).0))
    (omega (zlin, parts_add c (pos 4096), add_below x y c (omega zlin) (omega zlin)))

-- ---- a fragment's likelihoods
-- what a fragment's usable calls have: each likelihood over them, and that they rise
record FragmentIn (cs : List Call) : Type 0 where
  likelihood_in : (counts : ℕ → Bool) (a : ℕ → ℕ) → DownTo (262144 * length cs) (likelihood counts a cs)
  rises : T (rising cs)

module _ (cutoff : ℤ) {variants : List Variant} (fragment : Fragment) (good : GoodFragment variants fragment) where
  abbrev calls : List Call
  calls = usable_calls cutoff fragment

  fragment_in : FragmentIn calls
  fragment_in = record {
    likelihood_in = λ counts a.
        rw (likelihood_sum counts a calls)
        (calls_sum calls (call_share counts a) (all_imp (λ c g. share_down counts a c g.qual_in g.one_minus_qual_in) (usable_in cutoff good)));
    rises = rw (usable_rises cutoff good) tt;
  }

-- ---- sums
-- what all fragments together lack to 0 at most
share_top : List Call → ℕ
share_top cs = 262144 * length cs + 4096

shares_top : (part : Fragment → List Call) → ((fragment : Fragment) → length (part fragment) ≤ length fragment.calls) → (fragments : List Fragment)
    → count_over (map part fragments) share_top ≤ 262144 * count_over fragments (λ fragment. length fragment.calls) + 4096 * length fragments
unfolding count_over share_top
shares_top part fewer [] = omega arith
shares_top part fewer (x ∷ xs) = omega (arith, fewer x, shares_top part fewer xs)

sum_to_down : (n : ℕ) (f : ℕ → ℤ) → ((v : ℕ) → DownTo 1052672 (f v)) → DownTo (1052672 * n) (sum_to n f)
unfolding sum_to
sum_to_down zero f h = down_zero 0
sum_to_down (suc n) f h = down_more (1052672 * n + 1052672) (1052672 * suc n) _ (omega arith) (down_add (1052672 * n) 1052672 _ _ (sum_to_down n f h) (h n))

-- ---- the case of the sweeps of an accepted case
module _ (rates : Rates) (phased : ℕ → Bool) (w : List ℤ) (b : List ℕ) (s : Sizes) (accepted : check_case_outcome w b ≡ done s) (good_rates : rates_fault rates ≡ 7) where
  abbrev case : Case
  case = decode w b

  abbrev C : SweepCase
  C = sweep_case_of rates phased case

  good : GoodCase case
  good = good_case w b s accepted

  prior_in : (v i j : ℕ) → DownTo 1052672 (C.prior v i j)
  unfolding sweep_case_of get_prior
  prior_in v i j =
      from_down (prior_down rates (rates_in rates good_rates) (allele_of (variant_of case v) 0) (allele_of (variant_of case v) i) (allele_of (variant_of case v) j))

  frags_in : All FragmentIn C.frags
  unfolding sweep_case_of
  frags_in = all_map (usable_calls case.cutoff) case.fragments (all_imp (fragment_in case.cutoff) good.fragments_in)

  frags_top : count_over C.frags share_top ≤ 2 ^ 32 + 2 ^ 24
  unfolding sweep_case_of
  frags_top = omega (arith, shares_top (usable_calls case.cutoff) (usable_fewer case.cutoff) case.fragments, good.calls_top, good.fragments_top)

  share_in : (counts : ℕ → Bool) (h : List ℕ) (cs : List Call) → FragmentIn cs → DownTo (share_top cs) (read_share C counts h cs)
  unfolding read_share share_top
  share_in counts h cs f =
      rw (mix_is rates phased case (likelihood counts (allele0 h) cs) (likelihood counts (allele1 h) cs))
      (mix_down (262144 * length cs) (likelihood counts (allele0 h) cs) (likelihood counts (allele1 h) cs) (f.likelihood_in counts (allele0 h)) (f.likelihood_in counts (allele1 h)))

  -- a fragment has one call at v at most
  own_in : (v : ℕ) (h : List ℕ) (cs : List Call) → FragmentIn cs → DownTo (share_top cs) (per_call v cs (read_share C (with_own C v) h cs))
  own_in v h cs f =
      rw (one_call v 0 cs (read_share C (with_own C v) h cs) f.rises)
      (cond_down _ (has_call v cs) _ (pos 0) (share_in (with_own C v) h cs f) (down_zero (share_top cs)))

  -- ---- scores
  score_down : (v : ℕ) (h : List ℕ) (i j : ℕ) → DownTo (2 ^ 36) (score_with C v h i j)
  unfolding score_with
  score_down v h i j =
      let own : List Call → ℤ = λ cs. per_call v cs (read_share C (with_own C v) (put_pair h v i j) cs) in
      down_more (1052672 + count_over C.frags share_top) (2 ^ 36) _ (omega (arith, frags_top))
      (down_add 1052672 (count_over C.frags share_top) (C.prior v i j) (sum_over C.frags own) (prior_in v i j) (down_sum C.frags share_top own (all_imp (own_in v (put_pair h v i j)) frags_in)))

  pub score_in : (v : ℕ) (h : List ℕ) (i j : ℕ) → DownTo (2 ^ 40) (score_with C v h i j)
  score_in v h i j = down_more (2 ^ 36) (2 ^ 40) (score_with C v h i j) (omega arith) (score_down v h i j)

  -- the same of the pair with the row-major number g, with what a sum over the pairs needs
  pub number_small : (v : ℕ) (h : List ℕ) (g : ℕ) → nat_abs (score C v h g) ≤ 2 ^ 36
  unfolding score
  number_small v h g = down_abs (2 ^ 36) (score_with C v h (g / C.k v) (g % C.k v)) (score_down v h (g / C.k v) (g % C.k v))

  -- ---- totals
  prior_share_lem : (counts : ℕ → Bool) (h : List ℕ) (v : ℕ) → DownTo 1052672 (cond (counts v) (C.prior v (allele0 h v) (allele1 h v)) (pos 0))
  prior_share_lem counts h v = cond_down _ (counts v) _ (pos 0) (prior_in v (allele0 h v) (allele1 h v)) (down_zero 1052672)

  pub total_in : (counts : ℕ → Bool) (h : List ℕ) → DownTo (2 ^ 40) (total_of C counts h)
  unfolding total_of
  total_in counts h =
      down_more (1052672 * C.n + count_over C.frags share_top) (2 ^ 40) _ (omega (arith, frags_top, variants_are rates phased case, good.variants_top))
      (down_add (1052672 * C.n) (count_over C.frags share_top) _ _ (sum_to_down C.n _ (prior_share_lem counts h)) (down_sum C.frags share_top (read_share C counts h) (all_imp (share_in counts h) frags_in)))
