-- A visit from what its code computes: the best pair is the first with the greatest score, and the flag says whether it is another one.
-- Assumes nothing.
use mathlib.Core.Path.{◌≡◌, refl, sym, ap, ◌∙◌}
use mathlib.Core.Bool.{Bool, true, false, not, ◌&&◌}
use mathlib.Core.List.{List}
use Prim.Native.Nat.{ℕ, ◌+◌, ◌*◌, ◌<◌}
use native.Mathlib.Omega.{arith}
use lib.Dec.{T, eqb, eqb→eq, eqb_refl}
use lib.ListN.{length, get_or}
use lib.IntN.{ℤ, pos, ◌-ℤ◌}
use Rattle.variants_and_fragments.proofs.Decoded.{tabulate_length, tabulate_at}
use Rattle.sweeps.specs.Sweeps.{SweepCase, allele0, allele1, put_pair, same_haps, score, best_pair, visit}
use Rattle.sweeps.proofs.Basics.{and_in, and_l, and_r, same_eq, same_refl, put_self, at0_same, at1_same}
use Rattle.genotype_probs.proofs.Maxima.{maximum_same, maximum_shifted}
use Rattle.variants_and_fragments.proofs.Bools.{is_true}
use Rattle.likelihoods.specs.Inner.Held.{SweepReads}
use Rattle.likelihoods.specs.declared.pair.Pair.{Pair}
use Rattle.likelihoods.specs.Inner.Pairs.{pair_at}
use Rattle.call_genotypes.specs.Inner.Scores.{SweepState, sweep_state, VisitStart, over_first, scored_at}
use Rattle.call_genotypes.specs.Inner.Visits.{best_at, BestPair, Movable, PairPut, Visited}
use Rattle.call_genotypes.proofs.Linked.{in_haps}
use Rattle.call_genotypes.proofs.Tables.{sets_at}
use Rattle.genotype_probs.proofs.AlleleLaws.{nine}

-- two tests that follow from each other are one
iff : (a b : Bool) → (T a → T b) → (T b → T a) → a ≡ b
iff true true f g = refl
iff true false f g = absurd (f tt)
iff false true f g = absurd (g tt)
iff false false f g = refl

pub same_put : (h : List ℕ) (v i j : ℕ) → 2 * v + 1 < length h → same_haps h (put_pair h v i j) ≡ (eqb (allele0 h v) i && eqb (allele1 h v) j)
same_put h v i j l = iff _ _
    (λ t. let e = same_eq h (put_pair h v i j) t in
    and_in (eqb (allele0 h v) i) _ (rw (ap (λ (x : List ℕ). allele0 x v) e, at0_same h v i j l) (eqb_refl i)) (rw (ap (λ (x : List ℕ). allele1 x v) e, at1_same h v i j l) (eqb_refl j)))
    (λ t. let p = eqb→eq (allele0 h v) i (and_l (eqb (allele0 h v) i) (eqb (allele1 h v) j) t) in
    let q = eqb→eq (allele1 h v) j (and_r (eqb (allele0 h v) i) (eqb (allele1 h v) j) t) in
    rw (← p, ← q, put_self h v) (same_refl h))

module _ {C : SweepCase} {reads : SweepReads} {before : SweepState} {v : ℕ} (S : VisitStart C reads before v) where
  abbrev h : List ℕ
  h = before.hap

  k_is : get_or reads.ks v 0 ≡ C.k v
  k_is = S.standing.held.ks_are v S.v_in

  pub movable : Movable C reads.ph reads.ends reads.piles h before.lik v
  movable = record { ks = reads.ks; pri = reads.pri; held = S.standing.held; haps = S.standing.haps; liks = S.standing.liks; v_in = S.v_in }

  table : List ℤ
  table = over_first (C.k v) (score C v h)

  table_nine : length table ≡ C.k v * C.k v
  unfolding table
  table_nine = tabulate_length (C.k v * C.k v) (λ p. score C v h p -ℤ score C v h 0)

  module _ (post' : List ℤ) (old new : Pair) (ep : post' ≡ scored_at C v before) (eo : old ≡ pair_at h v) (B : BestPair post' v (get_or reads.ks v 0) new) where
    score_at : (g : ℕ) → g < C.k v * C.k v → get_or post' (9 * v + g) (pos 0) ≡ score C v h g -ℤ score C v h 0
    unfolding table
    score_at g l =
        let m = nine (C.k v) (S.standing.held.good.three_alleles v S.v_in) in
        rw ep (sets_at (pos 0) table before.post (9 * v) g (omega (arith, table_nine)) (omega (arith, table_nine, S.standing.room, S.v_in)) ∙ tabulate_at (C.k v * C.k v) (λ p. score C v h p -ℤ score C v h 0) g (pos 0) l)

    best_is : best_at post' v (C.k v) ≡ best_pair C v h
    unfolding best_pair
    best_is =
        maximum_same (λ g. get_or post' (9 * v + g) (pos 0)) (λ g. score C v h g -ℤ score C v h 0) (C.k v * C.k v) score_at
        ∙ maximum_shifted (score C v h) (score C v h 0) (C.k v * C.k v)

    visit_is : visit C v h ≡ put_pair h v new.first new.second
    unfolding visit
    visit_is = rw (B.first, B.second, k_is, best_is)

    -- whether the pair is the one that stands
    same_is : (t : Bool) → t ≡ (eqb old.first new.first && eqb old.second new.second) → t ≡ same_haps h (visit C v h)
    same_is t e = (rw eo at e) ∙ sym (same_put h v new.first new.second (in_haps S)) ∙ ap (same_haps h) (sym visit_is)

    pub visited_same : (t : Bool) → t ≡ (eqb old.first new.first && eqb old.second new.second) → t ≡ true → Visited C v before (sweep_state h before.lik post') false
    visited_same t e y =
        let u : T (same_haps h (visit C v h)) = rw (← same_is t e, y) tt in
        record { haps = same_eq h (visit C v h) u; liks = S.standing.liks; scores = ep; told = ap not (sym (is_true (same_haps h h) (same_refl h))) }

    pub visited_moved : (t : Bool) (h' : List ℕ) (lik' : List ℤ) → t ≡ (eqb old.first new.first && eqb old.second new.second) → t ≡ false
        → PairPut C v new h h' lik' → Visited C v before (sweep_state h' lik' post') true
    visited_moved t h' lik' e n P =
        let p : h' ≡ visit C v h = P.haps ∙ sym visit_is in
        let f : same_haps h h' ≡ false = ap (same_haps h) p ∙ sym (same_is t e) ∙ n in
        record { haps = p; liks = P.liks; scores = ep; told = rw f }
