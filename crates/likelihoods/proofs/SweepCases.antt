-- The case of the sweeps that an accepted case gives: it is good, its piles are the case's, and each of its likelihoods lies in −2^32..0,
-- being a sum over some of the case's calls. Assumes nothing.
use mathlib.Core.Path.{◌≡◌, refl, ap}
use mathlib.Core.Bool.{Bool, true, false, cond}
use mathlib.Core.List.{List, [], ◌∷◌, map}
use Prim.Native.Nat.{ℕ, ◌^◌, ◌<◌}
use native.Mathlib.Omega.{arith}
use lib.Dec.{T, eqb}
use lib.IntN.{ℤ, pos, ◌+ℤ◌}
use lib.ListN.{length, get_or, length-map, get_or-map}
use Rattle.variants_and_fragments.specs.Case.{Case, Call, no_fragment, fragment_of}
use Rattle.variants_and_fragments.specs.Inner.Case.{rising, All, end, also, GoodCase}
use Rattle.variants_and_fragments.specs.Sums.{sum_over}
use Rattle.variants_and_fragments.specs.Inner.Sums.{DownTo}
use Rattle.variants_and_fragments.specs.Pileup.{only, usable_calls, pile_of}
use Rattle.variants_and_fragments.proofs.Alls.{all_imp, all_map}
use Rattle.variants_and_fragments.proofs.Bounds.{down_zero, fragment_sum_top}
use Rattle.variants_and_fragments.proofs.GoodCases.{fragment_in}
use Rattle.variants_and_fragments.proofs.Usable.{usable_fewer, usable_in, usable_rises}
use Rattle.genotype_probs.specs.declared.Rates.{Rates}
use Rattle.variants_and_fragments.specs.Inner.Accepted.{allb as all_of}
use Rattle.sweeps.specs.Sweeps.{SweepCase, call_term, likelihood}
use Rattle.steps.specs.Logs.{mix_of}
use Rattle.sweeps.specs.Inner.Sweeps.{GoodSweepCase}
use Rattle.sweeps.specs.Inner.Incremental.{pileup_from}
use Rattle.sweeps.proofs.Basics.{and_in}
use Rattle.sweeps.proofs.Piled.{pile_is}
use Rattle.likelihoods.specs.SweepCaseOf.{sweep_case_of}
use Rattle.likelihoods.specs.Inner.Likelihoods.{call_share}

-- ---- tests
all_true : {X : Type 0} (b : X → Bool) (xs : List X) → All (λ x. b x ≡ true) xs → T (all_of b xs)
unfolding all_of
all_true b [] end = tt
all_true b (x ∷ xs) (also e h) = and_in (b x) (all_of b xs) (rw e tt) (all_true b xs h)

-- ---- a likelihood is a sum over the calls
pub likelihood_sum : (counts : ℕ → Bool) (a : ℕ → ℕ) (cs : List Call) → likelihood counts a cs ≡ sum_over cs (call_share counts a)
unfolding likelihood sum_over
likelihood_sum counts a [] = refl
likelihood_sum counts a (c ∷ cs) = ap (λ (z : ℤ). call_share counts a c +ℤ z) (likelihood_sum counts a cs)

pub cond_down : (n : ℕ) (t : Bool) (x y : ℤ) → DownTo n x → DownTo n y → DownTo n (cond t x y)
cond_down n true x y d e = d
cond_down n false x y d e = e

pub share_down : (counts : ℕ → Bool) (a : ℕ → ℕ) (c : Call) → DownTo 262144 c.qual → DownTo 262144 c.one_minus_qual → DownTo 262144 (call_share counts a c)
unfolding call_term
share_down counts a c q o = cond_down 262144 (counts c.variant) _ (pos 0) (cond_down 262144 (eqb c.allele (a c.variant)) _ _ o q) (down_zero 262144)

module _ (rates : Rates) (phased : ℕ → Bool) (case : Case) where
  abbrev C : SweepCase
  C = sweep_case_of rates phased case

  pub variants_are : C.n ≡ length case.variants
  unfolding sweep_case_of
  variants_are = refl

  pub phased_is : (v : ℕ) → C.phased v ≡ phased v
  unfolding sweep_case_of
  phased_is v = refl

  pub mix_is : (a b : ℤ) → C.mix a b ≡ mix_of a b
  unfolding sweep_case_of
  mix_is a b = refl

  pub frags_length : length C.frags ≡ length case.fragments
  unfolding sweep_case_of
  frags_length = length-map case.fragments (usable_calls case.cutoff)

  -- each read's calls
  pub frag_is : (f : ℕ) → get_or C.frags f [] ≡ usable_calls case.cutoff (fragment_of case f)
  unfolding sweep_case_of usable_calls only
  frag_is f = get_or-map (usable_calls case.cutoff) case.fragments f no_fragment

  pub pile_is_pileup : (v : ℕ) → pile_of case v ≡ pileup_from v 0 C.frags
  unfolding sweep_case_of
  pile_is_pileup v = pile_is case v

  module _ (good : GoodCase case) where
    pub good_sweep_case : GoodSweepCase C
    unfolding sweep_case_of
    good_sweep_case = record {
      some_allele = λ v h. (good.variants_in v h).some_allele;
      three_alleles = λ v h. (good.variants_in v h).three_alleles;
      rise = all_true rising (map (usable_calls case.cutoff) case.fragments) (all_map (usable_calls case.cutoff) case.fragments (all_imp (λ x g. usable_rises case.cutoff g) good.fragments_in));
    }

    -- every likelihood is in −2^32..0
    pub likelihood_in : (counts : ℕ → Bool) (a : ℕ → ℕ) (f : ℕ) → f < length C.frags → DownTo (2 ^ 32) (likelihood counts a (get_or C.frags f []))
    likelihood_in counts a f h =
        let l : f < length case.fragments = omega (arith, frags_length) in
        rw (frag_is f, likelihood_sum counts a (usable_calls case.cutoff (fragment_of case f)))
        (fragment_sum_top good (usable_calls case.cutoff) (usable_fewer case.cutoff) f l (call_share counts a)
        (all_imp (λ c g. share_down counts a c g.qual_in g.one_minus_qual_in) (usable_in case.cutoff (fragment_in good f l))))
