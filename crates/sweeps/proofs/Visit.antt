-- One visit: the phased total moves by the score, and either the measure rises or no phased pair changes. Assumes nothing.
use mathlib.Core.Path.{◌≡◌, refl, sym, ap, ◌∙◌}
use mathlib.Core.Logic.{◌≢◌, ◌⊎◌, inl, inr}
use mathlib.Core.Bool.{Bool, true, false, not, cond, ◌||◌}
use mathlib.Core.List.{List}
use Prim.Native.Nat.{ℕ, ◌+◌, ◌*◌, ◌/◌, ◌%◌, ◌<◌, ◌≤◌}
use native.Mathlib.Omega.{arith}
use native.Mathlib.Nat.{eq-or-lt_of_le, div-add-mod', mod-lt, div-lt_iff_lt-mul, mul-le-mul}
use lib.Arith.{digits_lt, digits_div, digits_mod}
use lib.Dec.{T, eqb, eqb→eq}
use lib.ListN.{length}
use lib.IntN.{ℤ, pos, ◌+ℤ◌}
use lib.Signed.{◌≤ℤ◌}
use Rattle.variants_and_fragments.specs.Case.{Call}
use Rattle.variants_and_fragments.specs.Inner.Case.{rising}
use Rattle.variants_and_fragments.specs.Inner.Accepted.{allb}
use Rattle.variants_and_fragments.specs.Sums.{sum_over, sum_to, count_to}
use Rattle.variants_and_fragments.proofs.Bools.{T_not, which, cond_yes}
use Rattle.sweeps.specs.Sweeps.{SweepCase, allele0, allele1, put_pair, read_share, per_call, total_of, with_own, score_with, score, best_pair, visit, phased_total, pair_number}
use Rattle.sweeps.specs.Inner.Sweeps.{has_call, GoodSweepCase, GoodHaps}
use Rattle.variants_and_fragments.proofs.Sums.{sum_to_cong, count_to_cong}
use Rattle.sweeps.proofs.Basics.{lt_or_ge, cond_under, eqb_no, length_put, at0_same, at1_same, at0_other, at1_other, put_self, sum_over_cong, sum_over_cong_of, one_call, less, less_n, sum_to_split, count_to_split, sum_over_split, mixed_cong}
use Rattle.steps.proofs.Signed.{up, dn, parts_add, zlin}
use Rattle.genotype_probs.specs.Posteriors.{FirstMaximum}
use Rattle.genotype_probs.proofs.Maxima.{meets, maximum_same}

or_not : (a b : Bool) → T (a || b) → T (not a) → T b
or_not true b t u = absurd u
or_not false b t u = t

or_of : (a b : Bool) → (T a → T b) → b ≡ (a || b)
or_of true true f = refl
or_of true false f = absurd (f tt)
or_of false b f = refl

regroup : {x y s p r q s' p' r' q' : ℤ} → s ≡ s' → p ≡ p' → r ≡ r' → q ≡ q' → x ≡ s +ℤ p → y ≡ r +ℤ q → x +ℤ y ≡ (s' +ℤ r') +ℤ (p' +ℤ q')
regroup {x} {y} {s} {p} {r} {q} {s'} {p'} {r'} {q'} a b c d e f =
    omega (zlin, parts_add x y, parts_add s p, parts_add r q, parts_add s' r', parts_add p' q', parts_add (s' +ℤ r') (p' +ℤ q'))

module _ (C : SweepCase) where
  -- the phased pairs are equal
  abbrev pub Agree : List ℕ → List ℕ → Type 0
  Agree h h' = (w : ℕ) → T (C.phased w) → (allele0 h w ≡ allele0 h' w) × (allele1 h w ≡ allele1 h' w)

  -- the sum of the phased pairs' numbers
  unfoldable pub places : List ℕ → ℕ
  places h = count_to C.n (λ w. cond (C.phased w) (pair_number C h w) 0)

  -- two haplotypes put to one pair at v, alike elsewhere at phased variants
  module _ (h h' : List ℕ) (v i j : ℕ) (l : 2 * v + 1 < length h) (l' : 2 * v + 1 < length h') (e : Agree h h') where
    own0 : (w : ℕ) → T (with_own C v w) → allele0 (put_pair h v i j) w ≡ allele0 (put_pair h' v i j) w
    own0 w t = go (which (eqb w v))
      where
        go : T (eqb w v) ⊎ T (not (eqb w v)) → allele0 (put_pair h v i j) w ≡ allele0 (put_pair h' v i j) w
        go (inl q) = rw (eqb→eq w v q) (at0_same h v i j l ∙ sym (at0_same h' v i j l'))
        go (inr q) = at0_other h v i j w (eqb_no w v q) ∙ (e w (or_not (eqb w v) (C.phased w) t q)).0 ∙ sym (at0_other h' v i j w (eqb_no w v q))

    own1 : (w : ℕ) → T (with_own C v w) → allele1 (put_pair h v i j) w ≡ allele1 (put_pair h' v i j) w
    own1 w t = go (which (eqb w v))
      where
        go : T (eqb w v) ⊎ T (not (eqb w v)) → allele1 (put_pair h v i j) w ≡ allele1 (put_pair h' v i j) w
        go (inl q) = rw (eqb→eq w v q) (at1_same h v i j l ∙ sym (at1_same h' v i j l'))
        go (inr q) = at1_other h v i j w (eqb_no w v q) ∙ (e w (or_not (eqb w v) (C.phased w) t q)).1 ∙ sym (at1_other h' v i j w (eqb_no w v q))

    pub score_with_cong : score_with C v h i j ≡ score_with C v h' i j
    unfolding score_with
    score_with_cong = ap (λ x. C.prior v i j +ℤ x) (sum_over_cong C.frags _ _ (λ cs. ap (per_call v cs) (mixed_cong C (with_own C v) (with_own C v) (put_pair h v i j) (put_pair h' v i j) cs (λ w t. refl) (λ w t u. own0 w u) (λ w t u. own1 w u))))

  -- the total without v: the priors of the other phased variants, and the fragments with no call at v
  prior_at : List ℕ → ℕ → ℤ
  prior_at h w = cond (C.phased w) (C.prior w (allele0 h w) (allele1 h w)) (pos 0)

  pub rest : List ℕ → ℕ → ℤ
  rest h v = sum_to C.n (less v (prior_at h)) +ℤ sum_over C.frags (λ cs. cond (has_call v cs) (pos 0) (read_share C C.phased h cs))

  module _ (h : List ℕ) (v i j : ℕ) (l : 2 * v + 1 < length h) (p : T (C.phased v)) (rise : T (allb rising C.frags)) where
    priors_rest : sum_to C.n (less v (prior_at (put_pair h v i j))) ≡ sum_to C.n (less v (prior_at h))
    unfolding prior_at
    priors_rest = sum_to_cong C.n _ _ (λ w k. go w (which (eqb w v)))
      where
        go : (w : ℕ) → T (eqb w v) ⊎ T (not (eqb w v)) → less v (prior_at (put_pair h v i j)) w ≡ less v (prior_at h) w
        go w (inl t) = cond_yes (eqb w v) (pos 0) (prior_at (put_pair h v i j) w) t ∙ sym (cond_yes (eqb w v) (pos 0) (prior_at h w) t)
        go w (inr t) = cc (at0_other h v i j w (eqb_no w v t), at1_other h v i j w (eqb_no w v t))

    prior_own : prior_at (put_pair h v i j) v ≡ C.prior v i j
    unfolding prior_at
    prior_own = cond_yes (C.phased v) _ (pos 0) p ∙ cc (at0_same h v i j l, at1_same h v i j l)

    frags_rest : sum_over C.frags (λ cs. cond (has_call v cs) (pos 0) (read_share C C.phased (put_pair h v i j) cs)) ≡ sum_over C.frags (λ cs. cond (has_call v cs) (pos 0) (read_share C C.phased h cs))
    frags_rest = sum_over_cong C.frags _ _ (λ cs. go cs (which (has_call v cs)))
      where
        ne : (cs : List Call) → T (not (has_call v cs)) → (w : ℕ) → T (has_call w cs) → w ≢ v
        ne cs t w u e = T_not (has_call v cs) t (rw e at u)

        go : (cs : List Call) → T (has_call v cs) ⊎ T (not (has_call v cs))
            → cond (has_call v cs) (pos 0) (read_share C C.phased (put_pair h v i j) cs) ≡ cond (has_call v cs) (pos 0) (read_share C C.phased h cs)
        go cs (inl t) = cond_yes (has_call v cs) (pos 0) _ t ∙ sym (cond_yes (has_call v cs) (pos 0) _ t)
        go cs (inr t) = ap (λ x. cond (has_call v cs) (pos 0) x) (mixed_cong C C.phased C.phased (put_pair h v i j) h cs (λ w t. refl)
            (λ w u q. at0_other h v i j w (ne cs t w u)) (λ w u q. at1_other h v i j w (ne cs t w u)))

    frags_own : sum_over C.frags (λ cs. cond (has_call v cs) (read_share C C.phased (put_pair h v i j) cs) (pos 0)) ≡ sum_over C.frags (λ cs. per_call v cs (read_share C (with_own C v) (put_pair h v i j) cs))
    frags_own = sum_over_cong_of rising C.frags _ _ rise (λ cs r. ap (λ x. cond (has_call v cs) x (pos 0))
        (mixed_cong C C.phased (with_own C v) (put_pair h v i j) (put_pair h v i j) cs (λ w t. mask w) (λ w t u. refl) (λ w t u. refl)) ∙ sym (one_call v 0 cs _ r))
      where
        mask : (w : ℕ) → C.phased w ≡ with_own C v w
        mask w = or_of (eqb w v) (C.phased w) (λ t. rw (eqb→eq w v t) p)

    pub total_put : v < C.n → phased_total C (put_pair h v i j) ≡ rest h v +ℤ score_with C v h i j
    unfolding total_of rest score_with prior_at
    total_put k =
        regroup priors_rest prior_own frags_rest frags_own
        (sum_to_split C.n v (prior_at (put_pair h v i j)) k)
        (sum_over_split C.frags (has_call v) (read_share C C.phased (put_pair h v i j)))

  -- what agrees on the phased pairs has one total and one sum of places
  module _ (h h' : List ℕ) (e : Agree h h') where
    pub total_cong : phased_total C h ≡ phased_total C h'
    unfolding total_of prior_at
    total_cong = cc (sum_to_cong C.n (prior_at h) (prior_at h') pri, frs)
      where
        pri : (w : ℕ) → w < C.n → prior_at h w ≡ prior_at h' w
        pri w k = cond_under (C.phased w) (pos 0) (λ t. cc ((e w t).0, (e w t).1))

        frs : sum_over C.frags (read_share C C.phased h) ≡ sum_over C.frags (read_share C C.phased h')
        frs = sum_over_cong C.frags _ _ (λ cs. mixed_cong C C.phased C.phased h h' cs (λ w t. refl) (λ w t u. (e w u).0) (λ w t u. (e w u).1))

    pub places_cong : places h ≡ places h'
    unfolding places
    places_cong = count_to_cong C.n _ _ (λ w k. cond_under (C.phased w) 0 (λ t. cc ((e w t).0, (e w t).1)))

  -- the measure 9 * total − places rises by d at least
  abbrev pub Gain : ℕ → List ℕ → List ℕ → Type 0
  Gain d h h' = 9 * up (phased_total C h) + 9 * dn (phased_total C h') + places h' + d ≤ 9 * up (phased_total C h') + 9 * dn (phased_total C h) + places h

  -- v's pair is the first of the greatest
  pub record Fixed (v : ℕ) (h : List ℕ) : Type 0 where
    pub fst : allele0 h v ≡ best_pair C v h / C.k v
    pub snd : allele1 h v ≡ best_pair C v h % C.k v

  pub record Step (h h' : List ℕ) : Type 0 where
    pub mono : phased_total C h ≤ℤ phased_total C h'
    pub moves : Gain 1 h h' ⊎ Agree h h'

  module _ (good : GoodSweepCase C) (v : ℕ) (k : v < C.n) where
    k_pos : 0 < C.k v
    k_pos = good.some_allele v k

    square_pos : 0 < C.k v * C.k v
    square_pos = omega (arith, mul-le-mul k_pos k_pos)

    pub square_nine : C.k v * C.k v ≤ 9
    square_nine = omega (arith, mul-le-mul (good.three_alleles v k) (good.three_alleles v k))

    module _ (h : List ℕ) (H : GoodHaps C h) where
      has_room : 2 * v + 1 < length h
      has_room = omega (arith, H.len)

      pub best_first : FirstMaximum (score C v h) (C.k v * C.k v) (best_pair C v h)
      unfolding best_pair
      best_first = meets (score C v h) (C.k v * C.k v) square_pos

      low_fits : best_pair C v h / C.k v < C.k v
      low_fits = (div-lt_iff_lt-mul k_pos).1 best_first.inside

      high_fits : best_pair C v h % C.k v < C.k v
      high_fits = mod-lt (best_pair C v h) k_pos

      pub visit_at0 : allele0 (visit C v h) v ≡ best_pair C v h / C.k v
      unfolding visit
      visit_at0 = at0_same h v _ _ has_room

      pub visit_at1 : allele1 (visit C v h) v ≡ best_pair C v h % C.k v
      unfolding visit
      visit_at1 = at1_same h v _ _ has_room

      pub visit_other0 : (w : ℕ) → w ≢ v → allele0 (visit C v h) w ≡ allele0 h w
      unfolding visit
      visit_other0 = at0_other h v _ _

      pub visit_other1 : (w : ℕ) → w ≢ v → allele1 (visit C v h) w ≡ allele1 h w
      unfolding visit
      visit_other1 = at1_other h v _ _

      pub visit_good : GoodHaps C (visit C v h)
      unfolding visit
      visit_good = record {
        len = length_put h v _ _ ∙ H.len;
        low = λ w l. lo w l (which (eqb w v));
        high = λ w l. hi w l (which (eqb w v));
      }
        where
          lo : (w : ℕ) → w < C.n → T (eqb w v) ⊎ T (not (eqb w v)) → allele0 (visit C v h) w < C.k w
          lo w l (inl t) = rw (eqb→eq w v t, visit_at0) low_fits
          lo w l (inr t) = rw (visit_other0 w (eqb_no w v t)) (H.low w l)

          hi : (w : ℕ) → w < C.n → T (eqb w v) ⊎ T (not (eqb w v)) → allele1 (visit C v h) w < C.k w
          hi w l (inl t) = rw (eqb→eq w v t, visit_at1) high_fits
          hi w l (inr t) = rw (visit_other1 w (eqb_no w v t)) (H.high w l)

      -- the pair that stands, by its number
      pub idx_below : pair_number C h v < C.k v * C.k v
      idx_below = digits_lt (H.low v k) (H.high v k)

      pub score_stands : score C v h (pair_number C h v) ≡ score_with C v h (allele0 h v) (allele1 h v)
      unfolding score
      score_stands = rw (digits_div (allele0 h v) (H.high v k), digits_mod (allele0 h v) (H.high v k))

      -- v phased
      module _ (p : T (C.phased v)) where
        total_after : phased_total C (visit C v h) ≡ rest h v +ℤ score C v h (best_pair C v h)
        unfolding visit score
        total_after = total_put h v _ _ has_room p good.rise k

        total_before : phased_total C h ≡ rest h v +ℤ score C v h (pair_number C h v)
        total_before = ap (phased_total C) (sym (put_self h v)) ∙ total_put h v _ _ has_room p good.rise k ∙ cc score_stands

        place_rest : ℕ
        place_rest = count_to C.n (less_n v (λ w. cond (C.phased w) (pair_number C h w) 0))

        places_before : places h ≡ place_rest + pair_number C h v
        unfolding places place_rest
        places_before = count_to_split C.n v _ k ∙ rw (cond_yes (C.phased v) (pair_number C h v) 0 p)

        places_after : places (visit C v h) ≡ place_rest + best_pair C v h
        unfolding places place_rest
        places_after = count_to_split C.n v _ k ∙ cc (cond_yes (C.phased v) (pair_number C (visit C v h) v) 0 p, idx_after, count_to_cong C.n _ _ others)
          where
            idx_after : pair_number C (visit C v h) v ≡ best_pair C v h
            idx_after = cc (visit_at0, visit_at1, div-add-mod' (best_pair C v h) (C.k v))

            others : (w : ℕ) → w < C.n → less_n v (λ x. cond (C.phased x) (pair_number C (visit C v h) x) 0) w ≡ less_n v (λ x. cond (C.phased x) (pair_number C h x) 0) w
            others w l = go (which (eqb w v))
              where
                go : T (eqb w v) ⊎ T (not (eqb w v)) → less_n v (λ x. cond (C.phased x) (pair_number C (visit C v h) x) 0) w ≡ less_n v (λ x. cond (C.phased x) (pair_number C h x) 0) w
                go (inl t) = cond_yes (eqb w v) 0 _ t ∙ sym (cond_yes (eqb w v) 0 _ t)
                go (inr t) = cc (visit_other0 w (eqb_no w v t), visit_other1 w (eqb_no w v t))

        stands : best_pair C v h ≡ pair_number C h v → visit C v h ≡ h
        unfolding visit
        stands e = rw (e, digits_div (allele0 h v) (H.high v k), digits_mod (allele0 h v) (H.high v k)) (put_self h v)

        phased_step : Step h (visit C v h)
        phased_step = record { mono = up_or_same; moves = go (lt_or_ge (best_pair C v h) (pair_number C h v)) }
          where
            up_or_same : phased_total C h ≤ℤ phased_total C (visit C v h)
            up_or_same = omega (
              zlin,
              total_before,
              total_after,
              best_first.greatest (pair_number C h v) idx_below,
              parts_add (rest h v) (score C v h (best_pair C v h)),
              parts_add (rest h v) (score C v h (pair_number C h v)),
            )

            go : (best_pair C v h < pair_number C h v) ⊎ (pair_number C h v ≤ best_pair C v h) → Gain 1 h (visit C v h) ⊎ Agree h (visit C v h)
            go (inl l) = inl (omega (zlin, up_or_same, places_before, places_after))
            go (inr l) = go' (eq-or-lt_of_le l)
              where
                go' : (pair_number C h v ≡ best_pair C v h) ⊎ (pair_number C h v < best_pair C v h) → Gain 1 h (visit C v h) ⊎ Agree h (visit C v h)
                go' (inl e) = inr (rw (stands (sym e)) (λ w t. (refl, refl)))
                go' (inr l') = inl (omega (
                  zlin,
                  total_before,
                  total_after,
                  best_first.first (pair_number C h v) l',
                  best_first.inside,
                  square_nine,
                  places_before,
                  places_after,
                  parts_add (rest h v) (score C v h (best_pair C v h)),
                  parts_add (rest h v) (score C v h (pair_number C h v)),
                ))

      -- v not phased: no phased pair changes
      unphased_agrees : T (not (C.phased v)) → Agree h (visit C v h)
      unphased_agrees p w t = (sym (visit_other0 w ne), sym (visit_other1 w ne))
        where
          ne : w ≢ v
          ne e = T_not (C.phased v) p (rw e at t)

      agree_step : Agree h (visit C v h) → Step h (visit C v h)
      agree_step e = record { mono = omega (zlin, total_cong h (visit C v h) e); moves = inr e }

      pub visit_step : Step h (visit C v h)
      visit_step = go (which (C.phased v))
        where
          go : T (C.phased v) ⊎ T (not (C.phased v)) → Step h (visit C v h)
          go (inl p) = phased_step p
          go (inr p) = agree_step (unphased_agrees p)

      -- a fixed variant is left as it is
      pub fixed_stays : Fixed v h → visit C v h ≡ h
      unfolding visit
      fixed_stays f = rw (← f.fst, ← f.snd) (put_self h v)

    -- the choice looks at phased pairs only
    pub best_cong : (h h' : List ℕ) → GoodHaps C h → GoodHaps C h' → Agree h h' → best_pair C v h ≡ best_pair C v h'
    unfolding best_pair score
    best_cong h h' H H' e = maximum_same _ _ (C.k v * C.k v) (λ g l. score_with_cong h h' v _ _ (has_room h H) (has_room h' H') e)

  -- where no phased pair changes, the visited variant becomes fixed, and a fixed one stays so
  module _ (good : GoodSweepCase C) (v : ℕ) (k : v < C.n) (h : List ℕ) (H : GoodHaps C h) (e : Agree h (visit C v h)) where
    pub becomes_fixed : Fixed v (visit C v h)
    becomes_fixed =
        let b = best_cong good v k h (visit C v h) H (visit_good good v k h H) e in
        record { fst = cc (visit_at0 good v k h H, b); snd = cc (visit_at1 good v k h H, b) }

    pub keeps_fixed : (w : ℕ) → w < C.n → Fixed w h → Fixed w (visit C v h)
    keeps_fixed w l f = go (which (eqb w v))
      where
        go : T (eqb w v) ⊎ T (not (eqb w v)) → Fixed w (visit C v h)
        go (inl t) = rw (eqb→eq w v t) becomes_fixed
        go (inr t) =
            let b = best_cong good w l h (visit C v h) H (visit_good good v k h H) e in
            record {
              fst = cc (visit_other0 good v k h H w (eqb_no w v t), b, f.fst);
              snd = cc (visit_other1 good v k h H w (eqb_no w v t), b, f.snd);
            }
