-- From the model to the code: likelihoods by one call's change, sums by an index, the change flag. Assumes nothing.
use mathlib.Core.Path.{◌≡◌, refl, sym, ap, ◌∙◌}
use mathlib.Core.Logic.{◌≢◌, ◌⊎◌, inl, inr}
use mathlib.Core.Bool.{Bool, true, false, not, cond, ◌||◌}
use mathlib.Core.List.{List, [], ◌∷◌}
use Prim.Native.Nat.{ℕ, zero, suc, ◌<◌}
use lib.Dec.{T, eqb, eqb→eq, eqb_refl}
use lib.ListN.{length, get_or}
use lib.IntN.{ℤ, pos, ◌+ℤ◌, +ℤ_idl, +ℤ_comm}
use Rattle.variants_and_fragments.specs.Case.{Call}
use Rattle.variants_and_fragments.specs.Sums.{sum_over, sum_to}
use Rattle.variants_and_fragments.proofs.Bools.{T_not, not_T, is_true, is_false, which}
use Rattle.shuffle.specs.Permutation.{member}
use Rattle.sweeps.specs.Sweeps.{SweepCase, allele0, allele1, same_haps, call_term, likelihood, visit, sweep}
use Rattle.sweeps.specs.Inner.Sweeps.{GoodSweepCase, GoodHaps}
use Rattle.sweeps.specs.Inner.Incremental.{term_at, changed, distinct}
use Rattle.sweeps.proofs.Basics.{or_l, or_r, or_cases, and_l, and_r, eqb_no, at0_other, at1_other, same_eq, same_refl}
use Rattle.steps.proofs.Signed.{parts_add, zlin}
use Rattle.sweeps.proofs.Visit.{visit_good, visit_at0, visit_at1, fixed_stays}

-- ---- likelihoods: with v at a' v, from those with v at a v
not_or_l : (a b : Bool) → T (not (a || b)) → T (not a)
not_or_l true b t = t
not_or_l false b t = tt

not_or_r : (a b : Bool) → T (not (a || b)) → T (not b)
not_or_r true b t = absurd t
not_or_r false b t = t

swap_in : (x y l o q r : ℤ) → l +ℤ o ≡ q +ℤ r → (x +ℤ l) +ℤ (y +ℤ o) ≡ (y +ℤ q) +ℤ (x +ℤ r)
swap_in x y l o q r e =
    omega (zlin, parts_add l o, parts_add q r, parts_add x l, parts_add y o, parts_add (x +ℤ l) (y +ℤ o), parts_add y q, parts_add x r, parts_add (y +ℤ q) (x +ℤ r))

-- the call stands at v: x is its part after, y before
here_step : (m : Bool) (x y l o q r : ℤ) → l +ℤ cond m o (pos 0) ≡ q +ℤ r
    → (x +ℤ l) +ℤ cond m (y +ℤ o) (pos 0) ≡ (cond m y (pos 0) +ℤ q) +ℤ (x +ℤ r)
here_step true x y l o q r e = swap_in x y l o q r e
here_step false x y l o q r e = rw (← +ℤ_idl (pos 0)) (swap_in x (pos 0) l (pos 0) q r e)

-- it stands elsewhere
there_step : (m : Bool) (x l o q r : ℤ) → l +ℤ cond m o (pos 0) ≡ q +ℤ r
    → (x +ℤ l) +ℤ cond m (pos 0 +ℤ o) (pos 0) ≡ (x +ℤ q) +ℤ (pos 0 +ℤ r)
there_step m x l o q r e = rw (+ℤ_idl o, +ℤ_idl r)
    (omega (zlin, parts_add l (cond m o (pos 0)), parts_add q r, parts_add x l, parts_add (x +ℤ l) (cond m o (pos 0)), parts_add x q, parts_add (x +ℤ q) r))

module _ (m : ℕ → Bool) (v : ℕ) (a a' : ℕ → ℕ) (f : (w : ℕ) → w ≢ v → a' w ≡ a w) where
  pub lik_own : (cs : List Call) → likelihood (λ w. eqb w v || m w) a' cs +ℤ cond (m v) (term_at v cs (a v)) (pos 0) ≡ likelihood m a cs +ℤ term_at v cs (a' v)
  unfolding likelihood term_at call_term
  lik_own [] = none (m v)
    where
      none : (b : Bool) → pos 0 +ℤ cond b (pos 0) (pos 0) ≡ pos 0
      none true = refl
      none false = refl
  lik_own (c ∷ cs) = go (which (eqb c.variant v)) (lik_own cs)
    where
      go : T (eqb c.variant v) ⊎ T (not (eqb c.variant v)) → likelihood (λ w. eqb w v || m w) a' cs +ℤ cond (m v) (term_at v cs (a v)) (pos 0) ≡ likelihood m a cs +ℤ term_at v cs (a' v)
          → likelihood (λ w. eqb w v || m w) a' (c ∷ cs) +ℤ cond (m v) (term_at v (c ∷ cs) (a v)) (pos 0) ≡ likelihood m a (c ∷ cs) +ℤ term_at v (c ∷ cs) (a' v)
      go (inl t) i = rw (is_true (eqb c.variant v) t, eqb→eq c.variant v t)
          (here_step (m v) (call_term c (a' v)) (call_term c (a v)) (likelihood (λ w. eqb w v || m w) a' cs) (term_at v cs (a v)) (likelihood m a cs) (term_at v cs (a' v)) i)
      go (inr t) i = rw (is_false (eqb c.variant v) t, f c.variant (eqb_no c.variant v t))
          (there_step (m v) (cond (m c.variant) (call_term c (a c.variant)) (pos 0)) (likelihood (λ w. eqb w v || m w) a' cs) (term_at v cs (a v)) (likelihood m a cs) (term_at v cs (a' v)) i)

-- a sum over the fragments, by an index
assoc : (a b c s : ℤ) → s ≡ a +ℤ b → s +ℤ c ≡ a +ℤ (b +ℤ c)
assoc a b c s e = omega (zlin, parts_add a b, parts_add s c, parts_add b c, parts_add a (b +ℤ c))

pub sum_to_shift : (m : ℕ) (f : ℕ → ℤ) → sum_to (suc m) f ≡ f 0 +ℤ sum_to m (λ i. f (suc i))
unfolding sum_to
sum_to_shift zero f = +ℤ_comm (pos 0) (f 0)
sum_to_shift (suc m) f = assoc (f 0) (sum_to m (λ i. f (suc i))) (f (suc m)) (sum_to (suc m) f) (sum_to_shift m f)

pub sum_over_upto : (fs : List (List Call)) (f : List Call → ℤ) → sum_over fs f ≡ sum_to (length fs) (λ i. f (get_or fs i []))
unfolding sum_over sum_to
sum_over_upto [] f = refl
sum_over_upto (x ∷ xs) f = ap (λ z. f x +ℤ z) (sum_over_upto xs f) ∙ sym (sum_to_shift (length xs) (λ i. f (get_or (x ∷ xs) i [])))

-- ---- the change flag
module _ (C : SweepCase) where
  -- no flag: nothing changed
  pub flag_off : (vs h : List ℕ) → T (not (changed C vs h)) → sweep C vs h ≡ h
  unfolding changed sweep
  flag_off [] h t = refl
  flag_off (v ∷ vs) h t = go (same_haps h (visit C v h)) (same_eq h (visit C v h)) t (flag_off vs (visit C v h))
    where
      go : (b : Bool) → (T b → h ≡ visit C v h) → T (not (not b || changed C vs (visit C v h)))
          → (T (not (changed C vs (visit C v h))) → sweep C vs (visit C v h) ≡ visit C v h) → sweep C vs (visit C v h) ≡ h
      go true e u ih = ih u ∙ sym (e tt)
      go false e u ih = absurd u

  -- where no variant is visited twice, a flag means that some pair differs after the sweep
  pub record Differs (vs h h' : List ℕ) : Type 0 where
    pub where_it : ℕ
    pub in_it : T (member where_it vs)
    pub pair : (allele0 h' where_it ≡ allele0 h where_it) × (allele1 h' where_it ≡ allele1 h where_it) → ⊥

  visit_else0 : (v w : ℕ) (h : List ℕ) → w ≢ v → allele0 (visit C v h) w ≡ allele0 h w
  unfolding visit
  visit_else0 v w h e = at0_other h v _ _ w e

  visit_else1 : (v w : ℕ) (h : List ℕ) → w ≢ v → allele1 (visit C v h) w ≡ allele1 h w
  unfolding visit
  visit_else1 v w h e = at1_other h v _ _ w e

  unvisited : (vs h : List ℕ) (w : ℕ) → T (not (member w vs)) → (allele0 (sweep C vs h) w ≡ allele0 h w) × (allele1 (sweep C vs h) w ≡ allele1 h w)
  unfolding sweep member
  unvisited [] h w t = (refl, refl)
  unvisited (v ∷ vs) h w t =
      let e : w ≢ v = λ q. eqb_no v w (not_or_l (eqb v w) (member w vs) t) (sym q) in
      let r = unvisited vs (visit C v h) w (not_or_r (eqb v w) (member w vs) t) in
      (r.0 ∙ visit_else0 v w h e, r.1 ∙ visit_else1 v w h e)

  module _ (g : GoodSweepCase C) where
    -- a visit that changes something changes its own pair
    own_pair : (v : ℕ) (h : List ℕ) → v < C.n → GoodHaps C h → T (not (same_haps h (visit C v h)))
        → (allele0 (visit C v h) v ≡ allele0 h v) × (allele1 (visit C v h) v ≡ allele1 h v) → ⊥
    own_pair v h k H t e =
        let s : visit C v h ≡ h = fixed_stays C g v k h H (record { fst = sym e.0 ∙ visit_at0 C g v k h H; snd = sym e.1 ∙ visit_at1 C g v k h H }) in
        T_not (same_haps h (visit C v h)) t (rw s (same_refl h))

    pub flag_on : (vs h : List ℕ) → ((v : ℕ) → T (member v vs) → v < C.n) → T (distinct vs) → GoodHaps C h → T (changed C vs h) → Differs vs h (sweep C vs h)
    unfolding changed sweep member distinct
    flag_on [] h m d H t = absurd t
    flag_on (v ∷ vs) h m d H t =
        let k = m v (or_l (eqb v v) (member v vs) (eqb_refl v)) in
        go k (flag_on vs (visit C v h) (λ w u. m w (or_r (eqb v w) (member w vs) u)) (and_r (not (member v vs)) (distinct vs) d) (visit_good C g v k h H))
        (or_cases (not (same_haps h (visit C v h))) (changed C vs (visit C v h)) t)
      where
        out : T (not (member v vs))
        out = and_l (not (member v vs)) (distinct vs) d

        go : v < C.n → (T (changed C vs (visit C v h)) → Differs vs (visit C v h) (sweep C vs (visit C v h)))
            → T (not (same_haps h (visit C v h))) ⊎ T (changed C vs (visit C v h)) → Differs (v ∷ vs) h (sweep C vs (visit C v h))
        go k ih (inl u) =
            let r = unvisited vs (visit C v h) v out in
            record {
              where_it = v;
              in_it = or_l (eqb v v) (member v vs) (eqb_refl v);
              pair = λ e. own_pair v h k H u (sym r.0 ∙ e.0, sym r.1 ∙ e.1);
            }
        go k ih (inr u) =
            let r = ih u in
            let e : r.where_it ≢ v = λ q. T_not (member v vs) out (rw q at r.in_it) in
            record {
              where_it = r.where_it;
              in_it = or_r (eqb v r.where_it) (member r.where_it vs) r.in_it;
              pair = λ p. r.pair (p.0 ∙ sym (visit_else0 v r.where_it h e), p.1 ∙ sym (visit_else1 v r.where_it h e));
            }

    -- the flag says whether the haplotypes changed
    pub flag_same : (vs h : List ℕ) → ((v : ℕ) → T (member v vs) → v < C.n) → T (distinct vs) → GoodHaps C h → same_haps h (sweep C vs h) ≡ not (changed C vs h)
    flag_same vs h m d H = go (which (changed C vs h))
      where
        go : T (changed C vs h) ⊎ T (not (changed C vs h)) → same_haps h (sweep C vs h) ≡ not (changed C vs h)
        go (inl t) =
            let r = flag_on vs h m d H t in
            let e : T (same_haps h (sweep C vs h)) → ⊥ = λ u. let q = same_eq h (sweep C vs h) u in r.pair (rw (← q) (refl, refl)) in
            is_false (same_haps h (sweep C vs h)) (not_T (same_haps h (sweep C vs h)) e) ∙ sym (ap not (is_true (changed C vs h) t))
        go (inr t) = is_true (same_haps h (sweep C vs h)) (rw (flag_off vs h t) (same_refl h)) ∙ sym (ap not (is_false (changed C vs h) t))
