-- The total of the case that the slices hold is that of the sweeps' case of an accepted case; and what the slices hold is
-- as `total` and `standing_total` want it.
-- Assumes nothing.
use mathlib.Core.Path.{◌≡◌, sym, ap, ◌∙◌}
use mathlib.Core.Bool.{Bool, true, cond}
use mathlib.Core.List.{List, []}
use Prim.Native.Nat.{ℕ, ◌+◌, ◌*◌, ◌^◌, ◌≤◌, ◌<◌}
use native.Mathlib.Omega.{arith}
use lib.Arith.{digits_div, digits_mod}
use lib.IntN.{ℤ, pos, nat_abs, ◌+ℤ◌}
use lib.ListN.{length, get_or}
use lib.Seq.{ext_get_or}
use Rattle.variants_and_fragments.specs.declared.Sizes.{Sizes}
use Rattle.variants_and_fragments.specs.Case.{Call}
use Rattle.variants_and_fragments.specs.Check.{check_case_outcome}
use Rattle.variants_and_fragments.specs.Refusals.{done}
use Rattle.variants_and_fragments.specs.Sums.{sum_over, sum_to}
use Rattle.variants_and_fragments.specs.Decode.{tabulate, decode}
use Rattle.pileup.specs.Inner.Rows.{RowsMade}
use Rattle.variants_and_fragments.proofs.Decoded.{tabulate_length, tabulate_at}
use Rattle.genotype_probs.specs.declared.Rates.{Rates}
use Rattle.genotype_probs.proofs.AlleleLaws.{nine}
use Rattle.genotype_probs.proofs.TableSums.{place_in}
use Rattle.sweeps.specs.Sweeps.{SweepCase, allele0, allele1, likelihood, read_share, total_of, phased_total, source_total}
use Rattle.sweeps.specs.Inner.Sweeps.{GoodHaps}
use Rattle.variants_and_fragments.proofs.Sums.{sum_to_cong}
use Rattle.likelihoods.specs.Inner.Held.{SweepReads, Held, Liks}
use Rattle.likelihoods.specs.SweepCaseOf.{sweep_case_of}
use Rattle.likelihoods.specs.Inner.Likelihoods.{calls_of, flagged}
use Rattle.likelihoods.specs.Inner.Totals.{pair_prior, held_case, prior_share, fragment_share, standing_share, standing_total, PriorsIn}
use Rattle.likelihoods.proofs.RunningSums.{table_sum}
use Rattle.likelihoods.proofs.LikelihoodsHeld.{flag_is, frag_held, likelihood0_is, likelihood1_is}
use Rattle.likelihoods.proofs.HeldCases.{counted, frags_counted}
use Rattle.likelihoods.proofs.SweepCases as cases
use Rattle.likelihoods.proofs.TotalParts.{total_parts}

-- ---- the priors of a pair of haplotypes
module _ {C : SweepCase} {reads : SweepReads} {hap : List ℕ} (held : Held C reads) (haps : GoodHaps C hap) (v : ℕ) (h : v < C.n) where
  -- the place of v's pair
  abbrev place : ℕ
  place = allele0 hap v * C.k v + allele1 hap v

  inside : place < C.k v * C.k v
  inside = place_in (allele0 hap v) (allele1 hap v) (C.k v) (haps.low v h) (haps.high v h)

  place_is : pair_prior reads.ks reads.pri v (allele0 hap v) (allele1 hap v) ≡ get_or reads.pri (9 * v + place) (pos 0)
  unfolding pair_prior
  place_is = rw (held.ks_are v h)

  pair_prior_lem : pair_prior reads.ks reads.pri v (allele0 hap v) (allele1 hap v) ≡ C.prior v (allele0 hap v) (allele1 hap v)
  pair_prior_lem =
      place_is
      ∙ held.pri_are v place h inside
      ∙ rw (digits_div (allele0 hap v) (haps.high v h), digits_mod (allele0 hap v) (haps.high v h))

  pair_small : nat_abs (pair_prior reads.ks reads.pri v (allele0 hap v) (allele1 hap v)) ≤ 2 ^ 21
  pair_small = rw place_is (held.pri_small v place h inside)

  pair_below : allele0 hap v * get_or reads.ks v 0 + allele1 hap v < 9
  pair_below = rw (held.ks_are v h) (omega (arith, inside, nine (C.k v) (held.good.three_alleles v h)))

pub priors_in : {C : SweepCase} {reads : SweepReads} {hap : List ℕ} (n : ℕ) (mask : List ℕ) → Held C reads → GoodHaps C hap → C.n ≡ n → n ≤ length mask → PriorsIn n reads.ks reads.pri hap mask
priors_in n mask held haps e l = record {
  variants_top = omega (arith, held.variants_top);
  ks_long = omega (arith, held.ks_long);
  mask_long = l;
  hap_long = omega (arith, haps.len);
  pri_long = omega (arith, held.pri_long);
  pair_in = λ v h. pair_below held haps v (omega arith);
  small = λ v h. pair_small held haps v (omega arith);
}

-- ---- the total
module _
    (rates : Rates)
    (phased : ℕ → Bool)
    (w : List ℤ)
    (b : List ℕ)
    (s : Sizes)
    {rows ends ambiguous : List ℕ}
    {count : ℕ}
    {reads : SweepReads}
    {hap : List ℕ}
    (accepted : check_case_outcome w b ≡ done s)
    (made : RowsMade w s rows ends ambiguous count)
    (held : Held (sweep_case_of rates phased (decode w b)) reads)
    (haps : GoodHaps (sweep_case_of rates phased (decode w b)) hap) where
  abbrev C : SweepCase
  C = sweep_case_of rates phased (decode w b)

  variants : C.n ≡ s.n
  variants = counted rates phased w b s accepted

  fragments : length C.frags ≡ s.f
  fragments = frags_counted rates phased w b s accepted

  -- the case that the slices hold, with the variants of a mask
  abbrev held_with : List ℕ → SweepCase
  held_with mask = held_case s.n s.f reads.ks reads.pri rows ends mask

  frags_are : C.frags ≡ tabulate s.f (calls_of rows ends)
  frags_are =
      ext_get_or [] C.frags (tabulate s.f (calls_of rows ends))
      (fragments ∙ sym (tabulate_length s.f (calls_of rows ends)))
      (λ f h. let l : f < s.f = omega (arith, fragments) in
      sym (frag_held rates phased w b s accepted made f l) ∙ sym (tabulate_at s.f (calls_of rows ends) f [] l))

  module _ (counts : ℕ → Bool) (mask : List ℕ) (flags : (v : ℕ) → v < s.n → get_or mask v 0 ≡ cond (counts v) 1 0) where
    prior_is : (v : ℕ) → v < s.n → prior_share reads.ks reads.pri hap mask v ≡ cond (counts v) (C.prior v (allele0 hap v) (allele1 hap v)) (pos 0)
    unfolding prior_share flagged
    prior_is v h =
        rw (flag_is (counts v) (get_or mask v 0) (flags v h), pair_prior_lem held haps v (omega (arith, variants)))

    share_is : (f : ℕ) → f < s.f → read_share C counts hap (calls_of rows ends f) ≡ fragment_share rows ends hap mask f
    unfolding read_share fragment_share
    share_is f h =
        ap (read_share C counts hap) (frag_held rates phased w b s accepted made f h)
        ∙ cases.mix_is rates phased (decode w b) (likelihood counts (allele0 hap) (get_or C.frags f [])) (likelihood counts (allele1 hap) (get_or C.frags f []))
        ∙ cc (likelihood0_is rates phased w b s accepted made counts hap mask flags f h, likelihood1_is rates phased w b s accepted made counts hap mask flags f h)

    priors_sum : sum_to s.n (prior_share reads.ks reads.pri hap mask) ≡ sum_to C.n (λ v. cond (counts v) (C.prior v (allele0 hap v) (allele1 hap v)) (pos 0))
    priors_sum =
        sum_to_cong s.n (prior_share reads.ks reads.pri hap mask) (λ v. cond (counts v) (C.prior v (allele0 hap v) (allele1 hap v)) (pos 0)) prior_is
        ∙ ap (λ (n : ℕ). sum_to n (λ v. cond (counts v) (C.prior v (allele0 hap v) (allele1 hap v)) (pos 0))) (sym (variants))

    fragments_sum : sum_to s.f (fragment_share rows ends hap mask) ≡ sum_over C.frags (read_share C counts hap)
    fragments_sum =
        sym (sum_to_cong s.f (λ j. read_share C counts hap (calls_of rows ends (0 + j))) (fragment_share rows ends hap mask) (λ j h. let e : 0 + j ≡ j = omega arith in rw e (share_is j h)))
        ∙ sym (table_sum (calls_of rows ends) (read_share C counts hap) 0 s.f)
        ∙ ap (λ (l : List (List Call)). sum_over l (read_share C counts hap)) (sym frags_are)

    -- what `total` answers is the total of the sweeps' case
    pub total_held : total_of (held_with mask) (flagged mask) hap ≡ total_of C counts hap
    unfolding total_of
    total_held = sym (total_parts s.n s.f reads.ks reads.pri rows ends hap mask) ∙ cc (priors_sum, fragments_sum)

  flags_held : (v : ℕ) → v < s.n → get_or reads.ph v 0 ≡ cond (C.phased v) 1 0
  flags_held v h = held.ph_are v (omega (arith, variants))

  -- with the flags of the phased variants it is the phased total
  phased_total_held : total_of (held_with reads.ph) (flagged reads.ph) hap ≡ phased_total C hap
  phased_total_held = total_held C.phased reads.ph flags_held

  -- and so is the total of the likelihoods that stand
  module _ {lik : List ℤ} (liks : Liks C hap lik) where
    standing_is : (f : ℕ) → f < s.f → standing_share lik f ≡ fragment_share rows ends hap reads.ph f
    unfolding standing_share fragment_share
    standing_is f h =
        let l : f < length C.frags = omega (arith, fragments) in
        cc (liks.firsts f l, liks.seconds f l, likelihood0_is rates phased w b s accepted made C.phased hap reads.ph flags_held f h, likelihood1_is rates phased w b s accepted made C.phased hap reads.ph flags_held f h)

    pub standing_total_held : standing_total s.n s.f reads.ks reads.pri lik hap reads.ph ≡ phased_total C hap
    unfolding standing_total
    standing_total_held =
        ap (λ (z : ℤ). sum_to s.n (prior_share reads.ks reads.pri hap reads.ph) +ℤ z) (sum_to_cong s.f (standing_share lik) (fragment_share rows ends hap reads.ph) standing_is)
        ∙ total_parts s.n s.f reads.ks reads.pri rows ends hap reads.ph
        ∙ phased_total_held

  -- with each flag 1 it is the source's total
  pub source_total_held : (ones : List ℕ) → ((v : ℕ) → v < s.n → get_or ones v 0 ≡ 1) → total_of (held_with ones) (flagged ones) hap ≡ source_total C hap
  source_total_held ones all = total_held (λ v. true) ones all
