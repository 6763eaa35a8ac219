-- 01, section 6: the case that the lent slices hold by fragment, over which a total is recomputed; and the total of likelihoods that stand.
-- Assumes nothing.
use Rattle.std.specs.Prelude.{cond, List, ℕ, ◌+◌, ◌*◌, ◌^◌, ◌≤◌, ◌<◌, ℤ, pos, nat_abs, ◌+ℤ◌, length, get_or}
use Rattle.variants_and_fragments.specs.Decode.{tabulate}
use Rattle.variants_and_fragments.specs.Sums.{sum_to}
use Rattle.sweeps.specs.Sweeps.{SweepCase, allele0, allele1, likelihood}
use Rattle.steps.specs.Logs.{mix_of}
use Rattle.likelihoods.specs.Inner.Likelihoods.{calls_of, flagged, allele_on}

-- the prior of the pair (i, j) at v, 9 places per variant
unfoldable pub pair_prior : List ℕ → List ℤ → ℕ → ℕ → ℕ → ℤ
pair_prior ks pri v i j = get_or pri (9 * v + (i * get_or ks v 0 + j)) (pos 0)

-- n variants, the flagged ones phased, and f fragments
unfoldable pub held_case : ℕ → ℕ → List ℕ → List ℤ → List ℕ → List ℕ → List ℕ → SweepCase
held_case n f ks pri rows ends mask = record {
  n = n;
  k = λ v. get_or ks v 0;
  phased = flagged mask;
  prior = pair_prior ks pri;
  frags = tabulate f (calls_of rows ends);
  mix = mix_of;
}

-- what variant v adds to a total: its pair's prior where it is flagged
unfoldable pub prior_share : List ℕ → List ℤ → List ℕ → List ℕ → ℕ → ℤ
prior_share ks pri hap mask v = cond (flagged mask v) (pair_prior ks pri v (allele0 hap v) (allele1 hap v)) (pos 0)

-- the mixed likelihoods of fragment f
unfoldable pub fragment_share : List ℕ → List ℕ → List ℕ → List ℕ → ℕ → ℤ
fragment_share rows ends hap mask f =
    mix_of (likelihood (flagged mask) (allele_on hap 0) (calls_of rows ends f)) (likelihood (flagged mask) (allele_on hap 1) (calls_of rows ends f))

-- the same of the likelihoods that stand in lik, 2 per fragment
unfoldable pub standing_share : List ℤ → ℕ → ℤ
standing_share lik f = mix_of (get_or lik (2 * f) (pos 0)) (get_or lik (2 * f + 1) (pos 0))

-- the priors of n variants and the mixed likelihoods of f fragments, as these stand
unfoldable pub standing_total : ℕ → ℕ → List ℕ → List ℤ → List ℤ → List ℕ → List ℕ → ℤ
standing_total n f ks pri lik hap mask = sum_to n (prior_share ks pri hap mask) +ℤ sum_to f (standing_share lik)

-- each of n variants has its k, its flag, its pair and its nine priors, and the pair's prior is one of them, at most 2^21 steps from 0
pub record PriorsIn (n : ℕ) (ks : List ℕ) (pri : List ℤ) (hap mask : List ℕ) : Type 0 where
  pub variants_top : n ≤ 1024
  pub ks_long : n ≤ length ks
  pub mask_long : n ≤ length mask
  pub hap_long : 2 * n ≤ length hap
  pub pri_long : 9 * n ≤ length pri
  pub pair_in : (v : ℕ) → v < n → allele0 hap v * get_or ks v 0 + allele1 hap v < 9
  pub small : (v : ℕ) → v < n → nat_abs (pair_prior ks pri v (allele0 hap v) (allele1 hap v)) ≤ 2 ^ 21
