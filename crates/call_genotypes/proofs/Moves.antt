-- The likelihoods after a visit: each call of the pile moves its read's likelihood by its own change, and the result is the likelihood of
-- the new haplotypes. Assumes nothing.
use mathlib.Core.Path.{◌≡◌, refl, sym, ap, ◌∙◌}
use mathlib.Core.Logic.{◌≢◌, ◌⊎◌, inl, inr}
use mathlib.Core.Bool.{Bool, true, false, not, cond, ◌||◌}
use mathlib.Core.List.{List, [], ◌∷◌}
use Prim.Native.Nat.{ℕ, zero, suc, ◌+◌, ◌*◌, ◌<◌, ◌≤◌}
use native.Mathlib.Omega.{arith}
use borrow.Author.Tests.{eq-eqb, ne_eqb}
use lib.Dec.{T, eqb, eqb→eq}
use lib.ListN.{length, get_or, set}
use lib.IntN.{ℤ, pos, ◌+ℤ◌, ◌-ℤ◌, +ℤ_idl, +ℤ_idr}
use Rattle.steps.proofs.Signed.{zlin, parts_add, parts_minus, true_false}
use Rattle.variants_and_fragments.specs.Case.{Call}
use Rattle.variants_and_fragments.specs.Pileup.{Row, row_of}
use Rattle.variants_and_fragments.specs.Sums.{sum_over}
use Rattle.sweeps.specs.Sweeps.{SweepCase, allele0, allele1, put_pair, call_term, likelihood}
use Rattle.sweeps.specs.Inner.Incremental.{rows_within, pileup_from, term_at}
use Rattle.sweeps.proofs.Basics.{lik_cong, at0_same, at1_same, at0_other, at1_other}
use Rattle.sweeps.proofs.Link.{lik_own}
use Rattle.sweeps.proofs.Scored.{lik_stays}
use Rattle.variants_and_fragments.proofs.Bools.{is_true, is_false, which}
use Rattle.variants_and_fragments.proofs.Sums.{sum_append}
use Rattle.pileup.specs.Inner.Packed.{rows_at}
use Rattle.call_genotypes.specs.Inner.Piles.{PileIs}
use Rattle.likelihoods.specs.Inner.Held.{Liks}
use Rattle.likelihoods.specs.declared.pair.Pair.{Pair}
use Rattle.likelihoods.specs.Inner.Pairs.{pair_at}
use Rattle.call_genotypes.proofs.Linked.{pile_rows, phased_yes, phased_no}
use Rattle.call_genotypes.specs.Inner.Visits.{move_of, Moved, Movable, PairPut}

-- ---- the sum over the pile of what moves one likelihood
module _ (v old new : ℕ) (t : ℕ → Bool) where
  abbrev term : Row → ℤ
  term row = cond (t row.fragment) (call_term row.call new -ℤ call_term row.call old) (pos 0)

  join : (c d x y : ℤ) → (c -ℤ d) +ℤ (x -ℤ y) ≡ (c +ℤ x) -ℤ (d +ℤ y)
  join c d x y = omega (zlin, parts_minus c d, parts_minus x y, parts_add (c -ℤ d) (x -ℤ y), parts_add c x, parts_add d y, parts_minus (c +ℤ x) (d +ℤ y))

  rows_on : (f : ℕ) (cs : List Call) → t f ≡ true → sum_over (rows_within v f cs) term ≡ term_at v cs new -ℤ term_at v cs old
  unfolding rows_within sum_over term_at
  rows_on f [] e = refl
  rows_on f (c ∷ cs) e = go (eqb c.variant v) (rows_on f cs e)
    where
      go : (b : Bool) → sum_over (rows_within v f cs) term ≡ term_at v cs new -ℤ term_at v cs old
          → sum_over (cond b (row_of f c ∷ rows_within v f cs) (rows_within v f cs)) term ≡ (cond b (call_term c new) (pos 0) +ℤ term_at v cs new) -ℤ (cond b (call_term c old) (pos 0) +ℤ term_at v cs old)
      go true r = rw (e, r) (join (call_term c new) (call_term c old) (term_at v cs new) (term_at v cs old))
      go false r = rw (+ℤ_idl (term_at v cs new), +ℤ_idl (term_at v cs old)) r

  rows_off : (f : ℕ) (cs : List Call) → t f ≡ false → sum_over (rows_within v f cs) term ≡ pos 0
  unfolding rows_within sum_over
  rows_off f [] e = refl
  rows_off f (c ∷ cs) e = go (eqb c.variant v) (rows_off f cs e)
    where
      go : (b : Bool) → sum_over (rows_within v f cs) term ≡ pos 0 → sum_over (cond b (row_of f c ∷ rows_within v f cs) (rows_within v f cs)) term ≡ pos 0
      go true r = rw (e, r)
      go false r = r

  pub pile_off : (f : ℕ) (fs : List (List Call)) → ((j : ℕ) → f ≤ j → t j ≡ false) → sum_over (pileup_from v f fs) term ≡ pos 0
  unfolding pileup_from sum_over
  pile_off f [] e = refl
  pile_off f (cs ∷ fs) e =
      sum_append (rows_within v f cs) (pileup_from v (suc f) fs) term ∙ rw (rows_off f cs (e f (omega arith)), pile_off (suc f) fs (λ j l. e j (omega arith)))

  pub pile_on : (i : ℕ) (fs : List (List Call)) (f : ℕ) → f < length fs → t (i + f) ≡ true → ((j : ℕ) → (j ≡ i + f → ⊥) → t j ≡ false)
      → sum_over (pileup_from v i fs) term ≡ term_at v (get_or fs f []) new -ℤ term_at v (get_or fs f []) old
  unfolding pileup_from
  pile_on i [] f l on off = absurd (omega arith)
  pile_on i (cs ∷ fs) zero l on off =
      let z : i + 0 ≡ i = omega arith in
      sum_append (rows_within v i cs) (pileup_from v (suc i) fs) term
      ∙ rw (rows_on i cs (rw z at on), pile_off (suc i) fs (λ j k. off j (omega arith)), +ℤ_idr)
  pile_on i (cs ∷ fs) (suc f) l on off =
      let z : i + suc f ≡ suc i + f = omega arith in
      sum_append (rows_within v i cs) (pileup_from v (suc i) fs) term
      ∙ rw (rows_off i cs (off i (omega arith)), +ℤ_idl) (pile_on (suc i) fs f (omega arith) (rw z at on) (λ j k. off j (λ r. k (r ∙ z))))

-- ---- a likelihood with v at a' v, from the one with v at a v
module _ (m : ℕ → Bool) (v : ℕ) (a a' : ℕ → ℕ) (f : (w : ℕ) → w ≢ v → a' w ≡ a w) (cs : List Call) where
  over : (x y o n : ℤ) → x +ℤ o ≡ y +ℤ n → x ≡ y +ℤ (n -ℤ o)
  over x y o n e = omega (zlin, parts_add x o, parts_add y n, parts_minus n o, parts_add y (n -ℤ o))

  mask : m v ≡ true → likelihood (λ w. eqb w v || m w) a' cs ≡ likelihood m a' cs
  mask p = lik_cong (λ w. eqb w v || m w) m a' a' cs (λ w t. go w (which (eqb w v))) (λ w t u. refl)
    where
      go : (w : ℕ) → T (eqb w v) ⊎ T (not (eqb w v)) → (eqb w v || m w) ≡ m w
      go w (inl t) = rw (is_true (eqb w v) t, eqb→eq w v t) (sym p)
      go w (inr t) = rw (is_false (eqb w v) t)

  pub lik_terms : m v ≡ true → likelihood m a' cs ≡ likelihood m a cs +ℤ (term_at v cs (a' v) -ℤ term_at v cs (a v))
  lik_terms p = over (likelihood m a' cs) (likelihood m a cs) (term_at v cs (a v)) (term_at v cs (a' v)) (rw (← mask p) (rw p at (lik_own m v a a' f cs)))

  pub lik_same : m v ≡ false → likelihood m a' cs ≡ likelihood m a cs
  lik_same p = lik_stays m v a a' f cs (λ w t u e. true_false (is_true (m w) u) (ap m e ∙ p))

-- ---- both haplotypes
module _ (C : SweepCase) (h : List ℕ) (v i j : ℕ) (lik : List ℤ) (l : 2 * v + 1 < length h) (L : Liks C h lik) where
  -- at an unphased v they stay
  pub liks_stay : C.phased v ≡ false → Liks C (put_pair h v i j) lik
  liks_stay p = record {
    long = L.long;
    firsts = λ f k. L.firsts f k ∙ sym (lik_same C.phased v (allele0 h) (allele0 (put_pair h v i j)) (λ w n. at0_other h v i j w n) (get_or C.frags f []) p);
    seconds = λ f k. L.seconds f k ∙ sym (lik_same C.phased v (allele1 h) (allele1 (put_pair h v i j)) (λ w n. at1_other h v i j w n) (get_or C.frags f []) p);
  }

  module _ (p : C.phased v ≡ true) (lik1 lik2 : List ℤ) (M0 : Moved 0 (allele0 h v) i (pileup_from v 0 C.frags) lik lik1) (M1 : Moved 1 (allele1 h v) j (pileup_from v 0 C.frags) lik1 lik2) where
    -- what moves the likelihood of fragment f on its own side
    own_sum : (side old new f : ℕ) → side ≤ 1 → f < length C.frags
        → sum_over (pileup_from v 0 C.frags) (move_of side old new (2 * f + side)) ≡ term_at v (get_or C.frags f []) new -ℤ term_at v (get_or C.frags f []) old
    unfolding move_of
    own_sum side old new f s k = pile_on v old new (λ x. eqb (2 * x + side) (2 * f + side)) 0 C.frags f k
        (eq-eqb (2 * (0 + f) + side) (2 * f + side) (omega arith)) (λ x n. ne_eqb (2 * x + side) (2 * f + side) (omega arith))

    -- and on the other
    other_sum : (old new i : ℕ) (side : ℕ) → ((f : ℕ) → 2 * f + side ≡ i → ⊥) → sum_over (pileup_from v 0 C.frags) (move_of side old new i) ≡ pos 0
    unfolding move_of
    other_sum old new i side n = pile_off v old new (λ x. eqb (2 * x + side) i) 0 C.frags (λ x k. ne_eqb (2 * x + side) i (n x))

    pub liks_move : Liks C (put_pair h v i j) lik2
    liks_move = record { long = M1.long ∙ M0.long ∙ L.long; firsts = first; seconds = second }
      where
        first : (f : ℕ) → f < length C.frags → get_or lik2 (2 * f) (pos 0) ≡ likelihood C.phased (allele0 (put_pair h v i j)) (get_or C.frags f [])
        first f k =
            let z : 2 * f + 0 ≡ 2 * f = omega arith in
            let cs = get_or C.frags f [] in
            M1.moved (2 * f) (omega (arith, M0.long, L.long))
            ∙ rw (other_sum (allele1 h v) j (2 * f) 1 (λ g e. omega arith), +ℤ_idr, M0.moved (2 * f) (omega (arith, L.long)), rw z at (own_sum 0 (allele0 h v) i f (omega arith) k), L.firsts f k)
            (rw (at0_same h v i j l) at (sym (lik_terms C.phased v (allele0 h) (allele0 (put_pair h v i j)) (λ w n. at0_other h v i j w n) cs p)))

        second : (f : ℕ) → f < length C.frags → get_or lik2 (2 * f + 1) (pos 0) ≡ likelihood C.phased (allele1 (put_pair h v i j)) (get_or C.frags f [])
        second f k =
            let cs = get_or C.frags f [] in
            M1.moved (2 * f + 1) (omega (arith, M0.long, L.long))
            ∙ rw (own_sum 1 (allele1 h v) j f (omega arith) k, M0.moved (2 * f + 1) (omega (arith, L.long)), other_sum (allele0 h v) i (2 * f + 1) 0 (λ g e. omega arith), +ℤ_idr, L.seconds f k)
            (rw (at1_same h v i j l) at (sym (lik_terms C.phased v (allele1 h) (allele1 (put_pair h v i j)) (λ w n. at1_other h v i j w n) cs p)))

-- ---- the same from what the code has: the pile
module _ {C : SweepCase} {ph ends piles h : List ℕ} {lik : List ℤ} {v : ℕ} (M : Movable C ph ends piles h lik v) where
  pub put_in : 2 * v + 1 < length h
  put_in = omega (arith, M.haps.len, M.v_in)

  module _ (new : Pair) (h' : List ℕ) (e : h' ≡ set (set h (2 * v) new.first) (2 * v + 1) new.second) where
    put : (lik' : List ℤ) → Liks C (put_pair h v new.first new.second) lik' → PairPut C v new h h' lik'
    unfolding put_pair
    put lik' L = record { haps = e; liks = rw e L }

    pub pair_stays : get_or ph v 0 ≡ 0 → PairPut C v new h h' lik
    pair_stays n = put lik (liks_stay C h v new.first new.second lik put_in M.liks (phased_no M.held v M.v_in n))

    pub pair_moves : (pile : List ℕ) (old : Pair) (lik1 lik2 : List ℤ) → (get_or ph v 0 ≡ 0 → ⊥) → PileIs ends piles v pile → old ≡ pair_at h v
        → Moved 0 old.first new.first (rows_at pile 0 (length pile)) lik lik1 → Moved 1 old.second new.second (rows_at pile 0 (length pile)) lik1 lik2
        → PairPut C v new h h' lik2
    pair_moves pile old lik1 lik2 n P eo M0 M1 =
        let R = pile_rows M.held v M.v_in in
        put lik2 (liks_move C h v new.first new.second lik put_in M.liks (phased_yes M.held v M.v_in n) lik1 lik2 (rw (P.rows, R, eo) at M0) (rw (P.rows, R, eo) at M1))
