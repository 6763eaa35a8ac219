-- Request 1: fresh values of a good case lie in their ranges, whatever the haplotypes are. A likelihood is a sum over the calls of one fragment; a
-- count is at most the number of fragments, since a fragment's calls rise and one of them at most is at a variant; and the total is what the
-- variants have, at most 1,052,672 steps each, and the shares, at most 262,144 steps a call and 4,096 more.
-- Assumes nothing.
use mathlib.Core.Path.{◌≡◌, refl}
use mathlib.Core.Bool.{Bool, true}
use mathlib.Core.List.{List, [], ◌∷◌}
use Prim.Native.Nat.{ℕ, zero, suc, ◌+◌, ◌*◌, ◌/◌, ◌%◌, ◌^◌, ◌≤◌, ◌<◌}
use native.Mathlib.Omega.{arith}
use borrow.Author.Tests.{eqb-true, le-leb}
use lib.Dec.{eqb}
use lib.IntN.{ℤ, pos, neg_ℤ, ◌+ℤ◌, ◌-ℤ◌}
use lib.ListN.{length, get_or}
use Rattle.steps.specs.Logs.{mix_of}
use Rattle.steps.proofs.AddExp.{add_least, add_below}
use Rattle.steps.proofs.Signed.{zlin, up_pos, dn_pos, neg_up, neg_dn, nat_abs_parts, parts_add, parts_minus}
use Rattle.variants_and_fragments.specs.Case.{Case, Fragment, Call, Variant, variant_of, allele_of}
use Rattle.variants_and_fragments.specs.First.{holds_below}
use Rattle.variants_and_fragments.specs.Inner.Case.{All, end, also, GoodFragment, GoodCase}
use Rattle.variants_and_fragments.specs.Inner.Sums.{DownTo}
use Rattle.variants_and_fragments.specs.Pileup.{usable_calls}
use Rattle.variants_and_fragments.specs.Sums.{sum_over, count_over, sum_to}
use Rattle.variants_and_fragments.specs.Words.{within}
use Rattle.variants_and_fragments.proofs.Alls.{all_imp}
use Rattle.variants_and_fragments.proofs.Bools.{both}
use Rattle.variants_and_fragments.proofs.Bounds.{down_low, down_high, down_in, down_zero, down_more, down_add, down_sum, calls_sum}
use Rattle.variants_and_fragments.proofs.First.{first_end, below_all}
use Rattle.variants_and_fragments.proofs.Usable.{usable_fewer, usable_in, one_at}
use Rattle.genotype_probs.specs.declared.Rates.{Rates}
use Rattle.genotype_probs.specs.Inner.Rates.{rates_fault}
use Rattle.genotype_probs.specs.Priors.{get_prior}
use Rattle.genotype_probs.proofs.PriorBounds.{prior_down}
use Rattle.genotype_probs.proofs.RateLaws.{rates_in}
use Rattle.haplotype_assembly.specs.Phase.{phased_flags}
use Rattle.sweeps.specs.Sweeps.{likelihood}
use Rattle.likelihoods.specs.Inner.Likelihoods.{call_share}
use Rattle.likelihoods.proofs.SweepCases.{likelihood_sum, cond_down, share_down, frags_length, likelihood_in}
use Rattle.late_reads.specs.Values.{Values, Fixed, likelihood_on, counted, read_count, lowest_total, max_count, in_range}
use Rattle.late_reads.specs.LateReads.{fixed_by}
use Rattle.afresh.specs.Fresh.{sweeps_of, Fresh}
use Rattle.afresh.proofs.Parts.{share, priors_total, in_parts}

-- ---- tests
-- what holds of each number below n
holds_below_lem : (p : ℕ → Bool) (n : ℕ) → ((j : ℕ) → j < n → p j ≡ true) → holds_below p n ≡ true
holds_below_lem p n h = below_all p n (omega (arith, first_end p n n h refl))

down_within : (z : ℤ) → DownTo (2 ^ 40) z → within lowest_total (pos 0) z ≡ true
unfolding within
down_within z d = rw (d.low, d.high)

count_within : (n : ℕ) → n ≤ max_count → within (pos 0) (pos max_count) (pos n) ≡ true
unfolding within
count_within n h = rw (le-leb 0 n (omega arith), le-leb n max_count h)

-- ---- counts
count_once : {X : Type 0} (n : X → ℕ) (xs : List X) → All (λ x. n x ≤ 1) xs → count_over xs n ≤ length xs
unfolding count_over
count_once n [] end = omega arith
count_once n (x ∷ xs) (also h hs) = omega (arith, h, count_once n xs hs)

read_once : (cutoff : ℤ) {variants : List Variant} (x : Fragment) → GoodFragment variants x → (e : ℕ) → read_count cutoff x e ≤ 1
unfolding read_count
read_once cutoff x good e = one_at (e / 10) _ (λ call h. eqb-true call.variant (e / 10) (both (eqb call.variant (e / 10)) (counted cutoff x (e % 10) call) h).0) 0 x.calls good.rises

-- ---- the total
-- two likelihoods mixed: at least the first less 4,096, and at most 0
mix_down : (n : ℕ) (a b : ℤ) → DownTo n a → DownTo n b → DownTo (n + 4096) (mix_of a b)
unfolding mix_of
mix_down n a b d e =
    let x = a -ℤ pos 4096 in
    let y = b -ℤ pos 4096 in
    let c = neg_ℤ (pos 4096) in
    let p = parts_minus a (pos 4096) in
    let q = parts_minus b (pos 4096) in
    let u = up_pos 4096 in
    let v = dn_pos 4096 in
    let r = neg_up (pos 4096) in
    let t = neg_dn (pos 4096) in
    let i = down_low n a d in
    let j = down_high n a d in
    let k = down_high n b e in
    down_in (n + 4096) _
    (omega (zlin, (add_least x y).0))
    (omega (zlin, parts_add c (pos 4096), add_below x y c (omega zlin) (omega zlin)))

-- what a fragment's share lacks to 0 at most
abbrev share_top : Fragment → ℕ
share_top x = 262144 * length x.calls + 4096

shares_top : (xs : List Fragment) → count_over xs share_top ≡ 262144 * count_over xs (λ x. length x.calls) + 4096 * length xs
unfolding count_over
shares_top [] = omega arith
shares_top (x ∷ xs) = omega (arith, shares_top xs)

module _ (fixed : Fixed) {variants : List Variant} (x : Fragment) (good : GoodFragment variants x) where
  abbrev calls : List Call
  calls = usable_calls fixed.cutoff x

  likelihood_down : (i : ℕ) → DownTo (262144 * length x.calls) (likelihood_on fixed x i)
  unfolding likelihood_on
  likelihood_down i =
      let a : ℕ → ℕ = λ v. get_or fixed.haps (2 * v + i) 0 in
      down_more (262144 * length calls) (262144 * length x.calls) _ (omega (arith, usable_fewer fixed.cutoff x))
      (rw (likelihood_sum fixed.phased a calls)
      (calls_sum calls (call_share fixed.phased a) (all_imp (λ c g. share_down fixed.phased a c g.qual_in g.one_minus_qual_in) (usable_in fixed.cutoff good))))

  share_in : DownTo (share_top x) (share fixed x)
  unfolding share
  share_in = mix_down (262144 * length x.calls) (likelihood_on fixed x 0) (likelihood_on fixed x 1) (likelihood_down 0) (likelihood_down 1)

sum_to_down : (m n : ℕ) (f : ℕ → ℤ) → ((v : ℕ) → DownTo m (f v)) → DownTo (m * n) (sum_to n f)
unfolding sum_to
sum_to_down m zero f h = down_zero (m * 0)
sum_to_down m (suc n) f h = down_more (m * n + m) (m * suc n) _ (omega arith) (down_add (m * n) m _ _ (sum_to_down m n f h) (h n))

-- ---- of a good case, at accepted rates
module _ (rates : Rates) (case : Case) (phase haps : List ℕ) (good : GoodCase case) (good_rates : rates_fault rates ≡ 7) where
  abbrev fixed : Fixed
  fixed = fixed_by case phase haps

  prior_in : (v i j : ℕ) → DownTo 1052672 (get_prior rates (variant_of case v) i j)
  unfolding get_prior
  prior_in v i j =
      let d = prior_down rates (rates_in rates good_rates) (allele_of (variant_of case v) 0) (allele_of (variant_of case v) i) (allele_of (variant_of case v) j) in
      let a = nat_abs_parts (get_prior rates (variant_of case v) i j) in
      let m = d.most in
      let l = d.not_above in down_in 1052672 _ (omega arith) (omega (zlin, up_pos 0, dn_pos 0))

  priors_in : DownTo (1052672 * length case.variants) (priors_total rates case phase haps)
  unfolding priors_total
  priors_in = sum_to_down 1052672 (length case.variants) _ (λ v. cond_down 1052672 (phased_flags case phase v) _ (pos 0) (prior_in v _ _) (down_zero 1052672))

  total_in : DownTo (2 ^ 40) (priors_total rates case phase haps +ℤ sum_over case.fragments (share fixed))
  total_in =
      let top = count_over case.fragments share_top in
      down_more (1052672 * length case.variants + top) (2 ^ 40) _ (omega (arith, shares_top case.fragments, good.calls_top, good.fragments_top, good.variants_top))
      (down_add (1052672 * length case.variants) top _ _ priors_in (down_sum case.fragments share_top (share fixed) (all_imp (share_in fixed) good.fragments_in)))

  -- element e of the counts
  count_in : (e : ℕ) → count_over case.fragments (λ y. read_count case.cutoff y e) ≤ max_count
  count_in e =
      omega (
        arith,
        good.fragments_top,
        count_once (λ y. read_count case.cutoff y e) case.fragments (all_imp (λ y g. read_once case.cutoff y g e) good.fragments_in),
      )

  -- element e of the likelihoods
  likelihood_of : (e : ℕ) → e < 2 * length case.fragments
      → DownTo (2 ^ 40) (likelihood (phased_flags case phase) (λ v. get_or haps (2 * v + e % 2) 0) (get_or (sweeps_of rates case phase).frags (e / 2) []))
  likelihood_of e h =
      down_more (2 ^ 32) (2 ^ 40) _ (omega arith)
      (likelihood_in rates (phased_flags case phase) case good (phased_flags case phase) (λ v. get_or haps (2 * v + e % 2) 0) (e / 2) (omega (arith, frags_length rates (phased_flags case phase) case)))

  -- fresh values are in range
  pub fresh_in_range : (x : Values) → Fresh rates case phase haps x → in_range (length case.variants) (length case.fragments) x ≡ true
  unfolding in_range
  fresh_in_range x fresh =
      let parts = in_parts rates case phase haps fresh in
      rw (
        down_within x.total (rw parts.total total_in),
        holds_below_lem (λ e. within lowest_total (pos 0) (get_or x.likelihoods e (pos 0))) (2 * length case.fragments)
            (λ e h. down_within _ (rw (fresh.likelihoods e h) (likelihood_of e h))),
        holds_below_lem (λ e. within (pos 0) (pos max_count) (get_or x.counts e (pos 0))) (10 * length case.variants)
            (λ e h. rw (parts.counts e h) (count_within _ (count_in e))),
      )
