-- The slices of an operation hold the sweeps' case of an accepted case: allele counts, flags and priors as they are written, and the piles.
-- Assumes nothing.
use mathlib.Core.Path.{◌≡◌, sym, ap, ◌∙◌}
use mathlib.Core.Bool.{Bool, cond}
use mathlib.Core.List.{List}
use Prim.Native.Nat.{ℕ, ◌+◌, ◌*◌, ◌/◌, ◌%◌, ◌^◌, ◌≤◌, ◌<◌}
use native.Mathlib.Omega.{arith}
use borrow.Author.Tests.{lt-ltb}
use lib.IntN.{ℤ, pos, nat_abs}
use lib.ListN.{length, get_or}
use Rattle.variants_and_fragments.specs.declared.Sizes.{Sizes}
use Rattle.variants_and_fragments.specs.Case.{Case, variant_of, allele_count}
use Rattle.variants_and_fragments.specs.Inner.Case.{GoodCase}
use Rattle.variants_and_fragments.specs.Layout.{allele_count_at}
use Rattle.variants_and_fragments.specs.Check.{check_case_outcome}
use Rattle.variants_and_fragments.specs.Refusals.{done}
use Rattle.variants_and_fragments.specs.Inner.Accepted.{CaseIn}
use Rattle.variants_and_fragments.specs.Decode.{decode}
use Rattle.pileup.specs.Inner.Packed.{Grouped}
use Rattle.pileup.specs.Inner.Piles.{PilesMade}
use Rattle.pileup.proofs.CaseRows.{piles_are}
use Rattle.pileup.proofs.Groups.{group_same}
use Rattle.variants_and_fragments.specs.Written.{written}
use Rattle.variants_and_fragments.proofs.Accepted.{case_in}
use Rattle.variants_and_fragments.proofs.Decoded.{variants_are, fragments_are, allele_count_is}
use Rattle.variants_and_fragments.proofs.GoodCases.{good_case}
use Rattle.variants_and_fragments.proofs.Written.{written_at, written_length}
use Rattle.genotype_probs.specs.declared.Rates.{Rates}
use Rattle.genotype_probs.specs.Inner.Rates.{rates_fault}
use Rattle.genotype_probs.specs.Priors.{get_prior, all_priors, prior_at}
use Rattle.genotype_probs.proofs.AlleleLaws.{nine}
use Rattle.genotype_probs.proofs.PriorSizes.{prior_small}
use Rattle.sweeps.specs.Sweeps.{SweepCase}
use Rattle.sweeps.specs.Inner.Incremental.{pileup_from}
use Rattle.likelihoods.specs.Inner.Held.{sweep_reads, Held}
use Rattle.likelihoods.specs.SweepCaseOf.{sweep_case_of}
use Rattle.likelihoods.proofs.SweepCases as cases

-- the prior at place p of variant v
place_is : (rates : Rates) (case : Case) (v p : ℕ) → p < allele_count (variant_of case v) * allele_count (variant_of case v) → p < 9
    → prior_at rates case (9 * v + p) ≡ get_prior rates (variant_of case v) (p / allele_count (variant_of case v)) (p % allele_count (variant_of case v))
unfolding prior_at all_priors
place_is rates case v p h l =
    let q : (9 * v + p) / 9 ≡ v = omega arith in
    let r : (9 * v + p) % 9 ≡ p = omega arith in
    rw (q, r, lt-ltb p (allele_count (variant_of case v) * allele_count (variant_of case v)) h)

module _ (rates : Rates) (phased : ℕ → Bool) (w : List ℤ) (b : List ℕ) (s : Sizes) (accepted : check_case_outcome w b ≡ done s) where
  abbrev case : Case
  case = decode w b

  abbrev C : SweepCase
  C = sweep_case_of rates phased case

  good : GoodCase case
  good = good_case w b s accepted

  known : CaseIn w s
  known = case_in w b s accepted

  pub counted : C.n ≡ s.n
  counted = cases.variants_are rates phased case ∙ variants_are known b

  pub frags_counted : length C.frags ≡ s.f
  frags_counted = cases.frags_length rates phased case ∙ fragments_are known b

  pub alleles_are : (v : ℕ) → v < s.n → C.k v ≡ allele_count_at w v
  unfolding sweep_case_of
  alleles_are v h = allele_count_is known b v h

  few_alleles : (v : ℕ) → v < s.n → C.k v ≤ 3
  few_alleles v h = (cases.good_sweep_case rates phased case good).three_alleles v (omega (arith, counted))

  -- the prior at place p of variant v
  prior_is : (v p : ℕ) → v < s.n → p < C.k v * C.k v → prior_at rates case (9 * v + p) ≡ C.prior v (p / C.k v) (p % C.k v)
  unfolding sweep_case_of
  prior_is v p h l = place_is rates case v p l (omega (arith, nine (allele_count (variant_of case v)) (few_alleles v h)))

  prior_in : rates_fault rates ≡ 7 → (v i j : ℕ) → nat_abs (C.prior v i j) ≤ 2 ^ 21
  unfolding sweep_case_of
  prior_in e v i j = prior_small rates e (variant_of case v) i j

  -- the piles of the case are those of the sweeps' case
  piles_held : {ends piles : List ℕ} → PilesMade w s ends piles → Grouped C.n (length C.frags) C.n (λ v. pileup_from v 0 C.frags) ends piles
  piles_held made = rw (counted, frags_counted) (group_same (cases.pile_is_pileup rates phased case) (piles_are known b made))

  -- What an operation has of an accepted case before its first sweep: the slice of allele counts, the flags of the phased variants, the priors
  -- and the piles
  module _
      (ks₀ ks ph : List ℕ)
      (pri₀ pri : List ℤ)
      {ends piles : List ℕ}
      (good_rates : rates_fault rates ≡ 7)
      (ks-room : s.n ≤ length ks₀)
      (ks-written : ks ≡ written (allele_count_at w) s.n ks₀)
      (ph-room : s.n ≤ length ph)
      (ph-written : (v : ℕ) → v < s.n → get_or ph v 0 ≡ cond (phased v) 1 0)
      (pri_room : 9 * s.n ≤ length pri₀)
      (pri-written : pri ≡ written (prior_at rates case) (9 * s.n) pri₀)
      (made : PilesMade w s ends piles) where
    inside : (v : ℕ) → v < C.n → v < s.n
    inside v h = omega (arith, counted)

    prior_here : (v p : ℕ) → v < C.n → p < C.k v * C.k v → get_or pri (9 * v + p) (pos 0) ≡ C.prior v (p / C.k v) (p % C.k v)
    prior_here v p h l =
        let i = inside v h in
        let t = nine (C.k v) (few_alleles v i) in
        ap (λ (x : List ℤ). get_or x (9 * v + p) (pos 0)) pri-written
        ∙ written_at (prior_at rates case) (9 * s.n) pri₀ (pos 0) pri_room (9 * v + p) (omega arith)
        ∙ prior_is v p i l

    pub held : Held C (sweep_reads ks ph pri ends piles)
    held =
        let n = counted in
        record {
          variants_top = omega (arith, known.sized.n_top);
          fragments_top = omega (arith, frags_counted, known.sized.f_top);
          mix_is = cases.mix_is rates phased case;
          good = cases.good_sweep_case rates phased case good;
          ks_long = omega (arith, ap length ks-written, written_length (allele_count_at w) s.n ks₀);
          ks_are = λ v h. ap (λ (x : List ℕ). get_or x v 0) ks-written ∙ written_at (allele_count_at w) s.n ks₀ 0 ks-room v (inside v h) ∙ sym (alleles_are v (inside v h));
          ph_long = omega arith;
          ph_are = λ v h. rw (cases.phased_is rates phased case v) (ph-written v (inside v h));
          pri_long = omega (arith, ap length pri-written, written_length (prior_at rates case) (9 * s.n) pri₀);
          pri_are = prior_here;
          pri_small = λ v p h l. rw (prior_here v p h l) (prior_in good_rates v (p / C.k v) (p % C.k v));
          piles_are = piles_held made;
          likelihoods_in = cases.likelihood_in rates phased case good;
        }
