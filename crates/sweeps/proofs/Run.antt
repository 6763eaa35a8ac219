-- Demand 3 of every accepted run: 9 × the phased total less the sum of the phased pairs' row-major numbers rises at each change of a
-- phased pair, and a sweep that changes unphased pairs alone is followed by one that changes nothing. Assumes nothing.
use mathlib.Core.Path.{◌≡◌, refl, sym, ap}
use mathlib.Core.Logic.{◌⊎◌, inl, inr}
use mathlib.Core.Bool.{Bool, true, false, not, cond}
use mathlib.Core.List.{List}
use Prim.Native.Nat.{ℕ, zero, suc, ◌+◌, ◌*◌, ◌<◌, ◌≤◌}
use native.Mathlib.Omega.{arith}
use native.Mathlib.Nat.{eq-or-lt_of_le, div-add-mod'}
use lib.Arith.{digits_lt, digits_div, digits_mod}
use lib.Dec.{T}
use lib.IntN.{ℤ, pos, neg_ℤ, ◌+ℤ◌, ◌-ℤ◌, ◌*ℤ◌}
use lib.Signed.{◌≤ℤ◌, ≤ℤ_refl}
use Rattle.variants_and_fragments.proofs.Bools.{T_not, is_true, is_false}
use Rattle.shuffle.specs.Permutation.{Permutation, member}
use Rattle.shuffle.proofs.Times.{times_member}
use Rattle.genotype_probs.specs.Posteriors.{FirstMaximum}
use Rattle.sweeps.specs.Sweeps.{SweepCase, RunResult, allele0, allele1, same_haps, score_with, score, best_pair, sweep, run, phased_total, pair_number, phased_count}
use Rattle.sweeps.specs.Inner.Sweeps.{GoodSweepCase, GoodHaps}
use Rattle.sweeps.specs.Demand3.{after, Stands, Ends, Demand3}
use Rattle.sweeps.proofs.Basics.{cond_ind, same_eq, same_refl, count_to_le}
use Rattle.steps.proofs.Signed.{up, dn, up_pos, dn_pos, parts_add, neg_up, neg_dn, parts_times, zlin}
use Rattle.sweeps.proofs.Visit.{Gain, Fixed, places, total_cong, places_cong, best_first, idx_below, square_nine}
use Rattle.sweeps.proofs.Sweep.{Quiet, Swept, sweep_swept, fixed_sweep}

pub each_of : {n : ℕ} {vs : List ℕ} → Permutation n vs → (v : ℕ) → v < n → T (member v vs)
each_of {n} {vs} q v l = times_member v vs (omega (arith, q.once v l))

module _ (C : SweepCase) (g : GoodSweepCase C) (o : ℕ → List ℕ) (ok : (s : ℕ) → Permutation C.n (o s)) where
  -- where every variant is fixed, the next sweep is the last
  pub record Rests (s : ℕ) (h : List ℕ) (r : RunResult) : Type 0 where
    pub same_haps_lem : r.haps ≡ h
    pub one_more : r.sweeps ≤ suc s

  rests : (f s : ℕ) (h : List ℕ) → GoodHaps C h → ((w : ℕ) → w < C.n → Fixed C w h) → Rests s h (run C o f s h)
  unfolding run
  rests zero s h H fx = record { same_haps_lem = refl; one_more = omega arith }
  rests (suc f) s h H fx = cond_ind (Rests s h) (same_haps h (sweep C (o s) h)) _ _
      (λ t. record { same_haps_lem = stay; one_more = omega arith })
      (λ t. absurd (T_not (same_haps h (sweep C (o s) h)) t (rw stay (same_refl h))))
    where
      stay : sweep C (o s) h ≡ h
      stay = fixed_sweep C g (o s) h (ok s).within H fx

  pub record Bound (s : ℕ) (h : List ℕ) (r : RunResult) : Type 0 where
    pub good : GoodHaps C r.haps
    pub mono : phased_total C h ≤ℤ phased_total C r.haps
    pub measure : 9 * up (phased_total C h) + 9 * dn (phased_total C r.haps) + places C r.haps + r.sweeps
        ≤ 9 * up (phased_total C r.haps) + 9 * dn (phased_total C h) + places C h + (s + 2)

  bound : (f s : ℕ) (h : List ℕ) → GoodHaps C h → Bound s h (run C o f s h)
  unfolding run
  bound zero s h H = record { good = H; mono = ≤ℤ_refl (phased_total C h); measure = omega arith }
  bound (suc f) s h H = cond_ind (Bound s h) (same_haps h h') _ _ stop (λ t. go (bound f (suc s) h' sw.good) sw.moves)
    where
      h' : List ℕ
      h' = sweep C (o s) h

      sw : Swept C (o s) h h'
      sw = sweep_swept C g (o s) h (ok s).within H

      stop : T (same_haps h h') → Bound s h (record { sweeps = suc s; settled = true; haps = h' })
      stop t =
          let e : h ≡ h' = same_eq h h' t in
          record { good = sw.good; mono = sw.mono; measure = omega (zlin, ap (phased_total C) e, ap (places C) e) }

      go : Bound (suc s) h' (run C o f (suc s) h') → Gain C 1 h h' ⊎ Quiet C (o s) h h' → Bound s h (run C o f (suc s) h')
      go b (inl a) = record { good = b.good; mono = omega (zlin, b.mono, sw.mono); measure = omega (arith, b.measure) }
      go b (inr q) =
          let r = rests f (suc s) h' sw.good (λ w l. q.visited w (each_of (ok s) w l)) in
          record {
            good = b.good;
            mono = omega (zlin, b.mono, sw.mono);
            measure = omega (zlin, r.one_more, ap (phased_total C) r.same_haps_lem, ap (places C) r.same_haps_lem, total_cong C h h' q.agree, places_cong C h h' q.agree);
          }

  -- (c)
  module _ (h : List ℕ) where
    pub record Goes (f s : ℕ) (r : RunResult) : Type 0 where
      pub last : ℕ
      pub from : s ≤ last
      pub counted : r.sweeps ≡ suc last
      pub reached : r.haps ≡ after C o h (suc last)
      pub quiet : r.settled ≡ same_haps (after C o h last) (after C o h (suc last))
      pub earlier : (q : ℕ) → s ≤ q → q < last → T (not (same_haps (after C o h q) (after C o h (suc q))))
      pub within : r.sweeps ≤ s + f
      pub used_up : T (not r.settled) → r.sweeps ≡ s + f

    -- the run ends with the sweep after s: settled where it changed nothing, and else at the limit only
    stop_here : (f s : ℕ) (settled : Bool) → settled ≡ same_haps (after C o h s) (after C o h (suc s)) → (T (not settled) → f ≡ 0)
        → Goes (suc f) s (record { sweeps = suc s; settled = settled; haps = after C o h (suc s) })
    stop_here f s settled e z = record {
      last = s;
      from = omega arith;
      counted = refl;
      reached = refl;
      quiet = e;
      earlier = λ q a b. absurd (omega arith);
      within = omega arith;
      used_up = λ u. omega (arith, z u);
    }

    settle_here : (f s : ℕ) → T (same_haps (after C o h s) (after C o h (suc s))) → Goes (suc f) s (record { sweeps = suc s; settled = true; haps = after C o h (suc s) })
    settle_here f s t = stop_here f s true (sym (is_true _ t)) (λ u. absurd u)

    go_on : (f s : ℕ) (r : RunResult) → T (not (same_haps (after C o h s) (after C o h (suc s)))) → Goes f (suc s) r → Goes (suc f) s r
    go_on f s r t b = record {
      last = b.last;
      from = omega (arith, b.from);
      counted = b.counted;
      reached = b.reached;
      quiet = b.quiet;
      earlier = λ q l k. pick q k (eq-or-lt_of_le l);
      within = omega (arith, b.within);
      used_up = λ u. omega (arith, b.used_up u);
    }
      where
        pick : (q : ℕ) → q < b.last → (s ≡ q) ⊎ (s < q) → T (not (same_haps (after C o h q) (after C o h (suc q))))
        pick q k (inl e) = rw (← e) t
        pick q k (inr l) = b.earlier q l k

    goes : (f s : ℕ) → Goes (suc f) s (run C o (suc f) s (after C o h s))
    unfolding run after
    goes zero s = cond_ind (Goes 1 s) (same_haps (after C o h s) (after C o h (suc s))) _ _ (settle_here 0 s) (λ t. stop_here 0 s false (sym (is_false _ t)) (λ u. refl))
    goes (suc f) s = cond_ind (Goes (suc (suc f)) s) (same_haps (after C o h s) (after C o h (suc s))) _ _ (settle_here (suc f) s)
        (λ t. go_on (suc f) s _ t (goes f (suc s)))

    pub ends : (limit : ℕ) → 1 ≤ limit → Ends C o limit h (run C o limit 0 h)
    unfolding after
    ends zero l = absurd (omega arith)
    ends (suc f) l =
        let r = goes f 0 in
        record {
          last = r.last;
          counted = r.counted;
          reached = r.reached;
          quiet = r.quiet;
          earlier = λ q k. r.earlier q (omega arith) k;
          within = omega (arith, r.within);
          used_up = λ u. omega (arith, r.used_up u);
        }

  -- (d): where the last sweep changed nothing, every variant is fixed
  pub fixed_all : (h : List ℕ) (s : ℕ) → GoodHaps C h → T (same_haps h (sweep C (o s) h)) → (w : ℕ) → w < C.n → Fixed C w (sweep C (o s) h)
  fixed_all h s H t w l = go sw.moves
    where
      sw : Swept C (o s) h (sweep C (o s) h)
      sw = sweep_swept C g (o s) h (ok s).within H

      e : h ≡ sweep C (o s) h
      e = same_eq h (sweep C (o s) h) t

      go : Gain C 1 h (sweep C (o s) h) ⊎ Quiet C (o s) h (sweep C (o s) h) → Fixed C w (sweep C (o s) h)
      go (inl a) = absurd (omega (zlin, ap (phased_total C) e, ap (places C) e))
      go (inr q) = q.visited w (each_of (ok s) w l)

  score_pair : (h : List ℕ) (v i j : ℕ) → j < C.k v → score C v h (i * C.k v + j) ≡ score_with C v h i j
  unfolding score
  score_pair h v i j b = rw (digits_div i b, digits_mod i b)

  fixed_stands : (h : List ℕ) → GoodHaps C h → (v : ℕ) → v < C.n → Fixed C v h → Stands C h v
  fixed_stands h H v l fx = record {
    most = λ i j a b. rw (← score_pair h v i j b, ← score_here) (r.greatest (i * C.k v + j) (digits_lt a b));
    first = λ i j a b c. rw (← score_pair h v i j b, ← score_here) (r.first (i * C.k v + j) (rw here at c));
  }
    where
      r : FirstMaximum (score C v h) (C.k v * C.k v) (best_pair C v h)
      r = best_first C g v l h H

      here : pair_number C h v ≡ best_pair C v h
      here = cc (fx.fst, fx.snd, div-add-mod' (best_pair C v h) (C.k v))

      score_here : score C v h (best_pair C v h) ≡ score_with C v h (allele0 h v) (allele1 h v)
      score_here = rw (← here) (score_pair h v (allele0 h v) (allele1 h v) (H.high v l))

  pub after_good : (h : List ℕ) (s : ℕ) → GoodHaps C h → GoodHaps C (after C o h s)
  unfolding after
  after_good h zero H = H
  after_good h (suc s) H = (sweep_swept C g (o s) (after C o h s) (ok s).within (after_good h s H)).good

  places_le : (h : List ℕ) → GoodHaps C h → places C h ≤ 8 * phased_count C
  unfolding places phased_count
  places_le h H = count_to_le C.n _ _ (λ w l. go w l (C.phased w))
    where
      go : (w : ℕ) → w < C.n → (b : Bool) → cond b (pair_number C h w) 0 ≤ 8 * cond b 1 0
      go w l true = omega (arith, idx_below C g w l h H, square_nine C g w l)
      go w l false = omega arith

  pub demand3 : (limit : ℕ) (h : List ℕ) → 1 ≤ limit → GoodHaps C h → Demand3 C o limit h (run C o limit 0 h)
  unfolding after
  demand3 limit h l H = record { gains = b.mono; bounded = few; ends = e; stands = st }
    where
      r : RunResult
      r = run C o limit 0 h

      b : Bound 0 h r
      b = bound limit 0 h H

      e : Ends C o limit h r
      e = ends h limit l

      gain : ℤ
      gain = phased_total C r.haps -ℤ phased_total C h

      few : pos r.sweeps ≤ℤ (pos 9 *ℤ gain +ℤ pos (8 * phased_count C + 2))
      few = omega (
        zlin,
        b.measure,
        places_le h H,
        parts_add (pos 9 *ℤ gain) (pos (8 * phased_count C + 2)),
        parts_times 9 gain,
        parts_add (phased_total C r.haps) (neg_ℤ (phased_total C h)),
        neg_up (phased_total C h),
        neg_dn (phased_total C h),
        up_pos r.sweeps,
        dn_pos r.sweeps,
        up_pos (8 * phased_count C + 2),
        dn_pos (8 * phased_count C + 2),
      )

      st : T r.settled → (v : ℕ) → v < C.n → Stands C r.haps v
      st t v k = fixed_stands r.haps b.good v k
          (rw e.reached (fixed_all (after C o h e.last) e.last (after_good h e.last H) (rw e.quiet at t) v k))
