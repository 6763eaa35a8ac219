-- The likelihoods over the rows of an accepted case are those of the sweeps' case. Assumes nothing.
use mathlib.Core.Path.{◌≡◌, refl, sym, ap, ◌∙◌}
use mathlib.Core.Logic.{◌⊎◌, inl, inr}
use mathlib.Core.Bool.{Bool, true, false, cond}
use mathlib.Core.List.{List, [], ◌∷◌}
use Prim.Native.Nat.{ℕ, ◌+◌, ◌*◌, ◌<◌}
use native.Mathlib.Omega.{arith}
use lib.Dec.{T, eqb, eqb→eq}
use lib.IntN.{ℤ, pos}
use lib.ListN.{length, get_or}
use Rattle.variants_and_fragments.specs.declared.Sizes.{Sizes}
use Rattle.variants_and_fragments.specs.Case.{Case, Call, fragment_of}
use Rattle.variants_and_fragments.specs.Inner.Case.{All, also}
use Rattle.variants_and_fragments.specs.Inner.Accepted.{CaseIn}
use Rattle.variants_and_fragments.specs.Check.{check_case_outcome}
use Rattle.variants_and_fragments.specs.Refusals.{done}
use Rattle.variants_and_fragments.specs.Decode.{decode}
use Rattle.variants_and_fragments.specs.Pileup.{usable_calls}
use Rattle.pileup.specs.Inner.Rows.{RowsMade}
use Rattle.variants_and_fragments.specs.Written.{written}
use Rattle.variants_and_fragments.proofs.Accepted.{case_in}
use Rattle.variants_and_fragments.proofs.Alls.{all_imp}
use Rattle.variants_and_fragments.proofs.Decoded.{variants_are, fragments_are}
use Rattle.variants_and_fragments.proofs.GoodCases.{good_case, fragment_in}
use Rattle.variants_and_fragments.proofs.Usable.{usable_in}
use Rattle.variants_and_fragments.proofs.Written.{written_at, written_length}
use Rattle.genotype_probs.specs.declared.Rates.{Rates}
use Rattle.sweeps.specs.Sweeps.{SweepCase, allele0, allele1, likelihood}
use Rattle.sweeps.specs.Inner.Sweeps.{has_call}
use Rattle.sweeps.proofs.Basics.{or_cases, lik_cong}
use Rattle.likelihoods.specs.Inner.Held.{Liks}
use Rattle.likelihoods.specs.SweepCaseOf.{sweep_case_of}
use Rattle.likelihoods.specs.Inner.Likelihoods.{calls_of, flagged, allele_on, likelihood_at}
use Rattle.likelihoods.proofs.CallShares.{on_first, likelihood_first, likelihood_second}
use Rattle.likelihoods.proofs.SweepCases as cases
use Rattle.likelihoods.proofs.CallsHeld.{calls_are}
use Rattle.likelihoods.proofs.HeldCases.{frags_counted}

pub flag_is : (t : Bool) (x : ℕ) → x ≡ cond t 1 0 → eqb x 1 ≡ t
flag_is true x e = rw e
flag_is false x e = rw e

call_below : {n : ℕ} (v : ℕ) (cs : List Call) → All (λ c. c.variant < n) cs → T (has_call v cs) → v < n
unfolding has_call
call_below v [] a t = absurd t
call_below {n} v (c ∷ cs) (also h a) t = go (or_cases (eqb c.variant v) (has_call v cs) t) (call_below v cs a)
  where
    go : T (eqb c.variant v) ⊎ T (has_call v cs) → (T (has_call v cs) → v < n) → v < n
    go (inl e) rest = omega (arith, eqb→eq c.variant v e)
    go (inr u) rest = rest u

module _
    (rates : Rates)
    (phased : ℕ → Bool)
    (w : List ℤ)
    (b : List ℕ)
    (s : Sizes)
    {rows ends ambiguous : List ℕ}
    {count : ℕ}
    (accepted : check_case_outcome w b ≡ done s)
    (made : RowsMade w s rows ends ambiguous count) where
  abbrev case : Case
  case = decode w b

  abbrev C : SweepCase
  C = sweep_case_of rates phased case

  known : CaseIn w s
  known = case_in w b s accepted

  fragments : length C.frags ≡ s.f
  fragments = frags_counted rates phased w b s accepted

  pub frag_held : (f : ℕ) → f < s.f → calls_of rows ends f ≡ get_or C.frags f []
  frag_held f h = calls_are known made b f h ∙ sym (cases.frag_is rates phased case f)

  -- the calls of a read are at variants of the case
  frag_in : (f : ℕ) → f < s.f → (v : ℕ) → T (has_call v (get_or C.frags f [])) → v < s.n
  frag_in f h v t =
      let l : f < length case.fragments = omega (arith, fragments_are known b) in
      let g = usable_in case.cutoff (fragment_in (good_case w b s accepted) f l) in
      call_below v (usable_calls case.cutoff (fragment_of case f))
      (all_imp (λ c q. rw (variants_are known b) at q.variant_in) g)
      (rw (cases.frag_is rates phased case f) at t)

  -- a likelihood over the rows of fragment f at flagged variants is that of the read
  module _ (counts : ℕ → Bool) (hap mask : List ℕ) (flags : (v : ℕ) → v < s.n → get_or mask v 0 ≡ cond (counts v) 1 0) (f : ℕ) (h : f < s.f) where
    mask_is : (v : ℕ) → T (has_call v (get_or C.frags f [])) → flagged mask v ≡ counts v
    unfolding flagged
    mask_is v t = flag_is (counts v) (get_or mask v 0) (flags v (frag_in f h v t))

    on_either : (i : ℕ) → likelihood (flagged mask) (allele_on hap i) (calls_of rows ends f) ≡ likelihood counts (allele_on hap i) (get_or C.frags f [])
    on_either i =
        ap (likelihood (flagged mask) (allele_on hap i)) (frag_held f h)
        ∙ lik_cong (flagged mask) counts (allele_on hap i) (allele_on hap i) (get_or C.frags f []) mask_is (λ v t u. refl)

    pub likelihood0_is : likelihood (flagged mask) (allele_on hap 0) (calls_of rows ends f) ≡ likelihood counts (allele0 hap) (get_or C.frags f [])
    likelihood0_is = on_either 0 ∙ on_first counts hap (get_or C.frags f [])

    pub likelihood1_is : likelihood (flagged mask) (allele_on hap 1) (calls_of rows ends f) ≡ likelihood counts (allele1 hap) (get_or C.frags f [])
    likelihood1_is = on_either 1

  -- the likelihoods as they are written are those that the sweeps start from
  module _
      (hap ph : List ℕ)
      (lik₀ lik : List ℤ)
      (flags : (v : ℕ) → v < s.n → get_or ph v 0 ≡ cond (phased v) 1 0)
      (long : length lik₀ ≡ 2 * s.f)
      (lik-written : lik ≡ written (likelihood_at rows ends hap ph) (2 * s.f) lik₀) where
    written_here : (e : ℕ) → e < 2 * s.f → get_or lik e (pos 0) ≡ likelihood_at rows ends hap ph e
    written_here e h =
        ap (λ (l : List ℤ). get_or l e (pos 0)) lik-written
        ∙ written_at (likelihood_at rows ends hap ph) (2 * s.f) lik₀ (pos 0) (omega arith) e h

    pub liks_held : Liks C hap lik
    unfolding calls_of
    liks_held =
        let n = fragments in
        let flags_of : (v : ℕ) → v < s.n → get_or ph v 0 ≡ cond (C.phased v) 1 0 = λ v h. rw (cases.phased_is rates phased case v) (flags v h) in
        record {
          long = ap length lik-written ∙ written_length (likelihood_at rows ends hap ph) (2 * s.f) lik₀ ∙ long ∙ ap (λ (m : ℕ). 2 * m) (sym fragments);
          firsts = λ f h. let l : f < s.f = omega arith in written_here (2 * f) (omega arith) ∙ likelihood_first rows ends hap ph f ∙ likelihood0_is C.phased hap ph flags_of f l;
          seconds = λ f h. let l : f < s.f = omega arith in written_here (2 * f + 1) (omega arith) ∙ likelihood_second rows ends hap ph f ∙ likelihood1_is C.phased hap ph flags_of f l;
        }
