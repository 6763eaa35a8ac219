-- What the lent slices hold of a case of the sweeps: alleles, phased variants, priors, the pile of each variant, haplotypes and likelihoods.
-- Assumes nothing.
use Rattle.std.specs.Prelude.{◌≡◌, cond, Bool, List, [], ℕ, ◌+◌, ◌*◌, ◌/◌, ◌%◌, ◌^◌, ◌<◌, ◌≤◌, length, get_or, ℤ, pos, nat_abs}
use Rattle.pileup.specs.Inner.Packed.{Grouped}
use Rattle.variants_and_fragments.specs.Inner.Sums.{DownTo}
use Rattle.sweeps.specs.Sweeps.{SweepCase, allele0, allele1, likelihood}
use Rattle.steps.specs.Logs.{mix_of}
use Rattle.sweeps.specs.Inner.Sweeps.{GoodSweepCase}
use Rattle.sweeps.specs.Inner.Incremental.{pileup_from}

-- what the sweeps read: each variant's number of alleles, its flag (1 where it is phased), its nine priors, and the piles
pub record SweepReads : Type 0 where
  pub ks : List ℕ
  pub ph : List ℕ
  pub pri : List ℤ
  pub ends : List ℕ
  pub piles : List ℕ

abbrev pub sweep_reads : List ℕ → List ℕ → List ℤ → List ℕ → List ℕ → SweepReads
sweep_reads ks ph pri ends piles = record { ks = ks; ph = ph; pri = pri; ends = ends; piles = piles }

-- no element is further from 0 than n
abbrev pub Within : ℕ → List ℤ → Type 0
Within n l = (i : ℕ) → nat_abs (get_or l i (pos 0)) ≤ n

-- the slices hold the case C
pub record Held (C : SweepCase) (reads : SweepReads) : Type 0 where
  pub variants_top : C.n ≤ 1024
  pub fragments_top : length C.frags ≤ 4096
  pub mix_is : (a b : ℤ) → C.mix a b ≡ mix_of a b
  pub good : GoodSweepCase C
  pub ks_long : C.n ≤ length reads.ks
  pub ks_are : (v : ℕ) → v < C.n → get_or reads.ks v 0 ≡ C.k v
  pub ph_long : C.n ≤ length reads.ph
  pub ph_are : (v : ℕ) → v < C.n → get_or reads.ph v 0 ≡ cond (C.phased v) 1 0
  pub pri_long : 9 * C.n ≤ length reads.pri
  pub pri_are : (v p : ℕ) → v < C.n → p < C.k v * C.k v → get_or reads.pri (9 * v + p) (pos 0) ≡ C.prior v (p / C.k v) (p % C.k v)
  pub pri_small : (v p : ℕ) → v < C.n → p < C.k v * C.k v → nat_abs (get_or reads.pri (9 * v + p) (pos 0)) ≤ 2 ^ 21
  -- the pile of each variant
  pub piles_are : Grouped C.n (length C.frags) C.n (λ v. pileup_from v 0 C.frags) reads.ends reads.piles
  -- every likelihood is in −2^32..0
  pub likelihoods_in : (counts : ℕ → Bool) (a : ℕ → ℕ) (f : ℕ) → f < length C.frags → DownTo (2 ^ 32) (likelihood counts a (get_or C.frags f []))

-- lik holds each fragment's likelihoods on the two haplotypes, over its usable calls at phased variants
pub record Liks (C : SweepCase) (h : List ℕ) (lik : List ℤ) : Type 0 where
  pub long : length lik ≡ 2 * length C.frags
  pub firsts : (f : ℕ) → f < length C.frags → get_or lik (2 * f) (pos 0) ≡ likelihood C.phased (allele0 h) (get_or C.frags f [])
  pub seconds : (f : ℕ) → f < length C.frags → get_or lik (2 * f + 1) (pos 0) ≡ likelihood C.phased (allele1 h) (get_or C.frags f [])
