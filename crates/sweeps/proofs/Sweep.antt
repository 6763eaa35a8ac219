-- A sweep: the total does not fall, and either the measure rises or no phased pair changes and every visited variant is fixed.
-- Assumes nothing.
use mathlib.Core.Path.{◌≡◌, refl, ap, ◌∙◌}
use mathlib.Core.Logic.{◌⊎◌, inl, inr}
use mathlib.Core.List.{List, [], ◌∷◌}
use Prim.Native.Nat.{ℕ, ◌<◌}
use lib.Dec.{T, eqb, eqb→eq, eqb_refl}
use lib.Signed.{◌≤ℤ◌, ≤ℤ_refl}
use Rattle.shuffle.specs.Permutation.{member}
use Rattle.sweeps.specs.Sweeps.{SweepCase, visit, sweep, phased_total}
use Rattle.sweeps.specs.Inner.Sweeps.{GoodSweepCase, GoodHaps}
use Rattle.sweeps.proofs.Basics.{or_l, or_r, or_cases}
use Rattle.steps.proofs.Signed.{zlin}
use Rattle.sweeps.proofs.Visit.{Agree, Gain, Fixed, Step, total_cong, places_cong, visit_good, visit_step, becomes_fixed, keeps_fixed, fixed_stays}

module _ (C : SweepCase) where
  pub record Quiet (vs h h' : List ℕ) : Type 0 where
    pub agree : Agree C h h'
    pub kept : (w : ℕ) → w < C.n → Fixed C w h → Fixed C w h'
    pub visited : (w : ℕ) → T (member w vs) → Fixed C w h'

  pub record Swept (vs h h' : List ℕ) : Type 0 where
    pub good : GoodHaps C h'
    pub mono : phased_total C h ≤ℤ phased_total C h'
    pub moves : Gain C 1 h h' ⊎ Quiet vs h h'

  agree_trans : (h h₁ h' : List ℕ) → Agree C h h₁ → Agree C h₁ h' → Agree C h h'
  agree_trans h h₁ h' a b w t = ((a w t).0 ∙ (b w t).0, (a w t).1 ∙ (b w t).1)

  module _ (g : GoodSweepCase C) (v : ℕ) (vs h : List ℕ) (k : v < C.n) (H : GoodHaps C h) where
    join : (h' : List ℕ) → Swept vs (visit C v h) h' → Swept (v ∷ vs) h h'
    unfolding member
    join h' r = record { good = r.good; mono = omega (zlin, r.mono, s.mono); moves = go s.moves r.moves }
      where
        s : Step C h (visit C v h)
        s = visit_step C g v k h H

        go : Gain C 1 h (visit C v h) ⊎ Agree C h (visit C v h) → Gain C 1 (visit C v h) h' ⊎ Quiet vs (visit C v h) h' → Gain C 1 h h' ⊎ Quiet (v ∷ vs) h h'
        go (inl a) (inl b) = inl (omega zlin)
        go (inl a) (inr q) = inl (omega (zlin, total_cong C (visit C v h) h' q.agree, places_cong C (visit C v h) h' q.agree))
        go (inr e) (inl b) = inl (omega (zlin, total_cong C h (visit C v h) e, places_cong C h (visit C v h) e))
        go (inr e) (inr q) = inr (record {
          agree = agree_trans h (visit C v h) h' e q.agree;
          kept = λ w l f. q.kept w l (keeps_fixed C g v k h H e w l f);
          visited = λ w t. vis w (or_cases (eqb v w) (member w vs) t);
        })
          where
            vis : (w : ℕ) → T (eqb v w) ⊎ T (member w vs) → Fixed C w h'
            vis w (inl t) = rw (← eqb→eq v w t) (q.kept v k (becomes_fixed C g v k h H e))
            vis w (inr t) = q.visited w t

  pub sweep_swept : (g : GoodSweepCase C) (vs h : List ℕ) → ((v : ℕ) → T (member v vs) → v < C.n) → GoodHaps C h → Swept vs h (sweep C vs h)
  unfolding sweep member
  sweep_swept g [] h m H = record {
    good = H;
    mono = ≤ℤ_refl (phased_total C h);
    moves = inr (record {
      agree = λ w t. (refl, refl);
      kept = λ w l f. f;
      visited = λ w t. absurd t;
    });
  }
  sweep_swept g (v ∷ vs) h m H =
      let k = m v (or_l (eqb v v) (member v vs) (eqb_refl v)) in
      join g v vs h k H (sweep C vs (visit C v h))
      (sweep_swept g vs (visit C v h) (λ w t. m w (or_r (eqb v w) (member w vs) t)) (visit_good C g v k h H))

  -- where every variant is fixed a sweep changes nothing
  pub fixed_sweep : (g : GoodSweepCase C) (vs h : List ℕ) → ((v : ℕ) → T (member v vs) → v < C.n) → GoodHaps C h
      → ((w : ℕ) → w < C.n → Fixed C w h) → sweep C vs h ≡ h
  unfolding sweep member
  fixed_sweep g [] h m H f = refl
  fixed_sweep g (v ∷ vs) h m H f =
      let k = m v (or_l (eqb v v) (member v vs) (eqb_refl v)) in
      ap (sweep C vs) (fixed_stays C g v k h H (f v k)) ∙ fixed_sweep g vs h (λ w t. m w (or_r (eqb v w) (member w vs) t)) H f
