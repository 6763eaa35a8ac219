-- A sweep under way: what is left of the order, from the haplotypes that stand, gives the whole sweep. Assumes nothing.
use mathlib.Core.Path.{◌≡◌, refl, sym, ap, ◌∙◌}
use mathlib.Core.Bool.{Bool, true, false, ◌||◌}
use mathlib.Core.List.{List, [], ◌∷◌}
use Prim.Native.Nat.{ℕ, zero, suc, ◌+◌, ◌*◌, ◌<◌, ◌≤◌}
use native.Mathlib.Omega.{arith}
use native.Mathlib.Numerals.{add-one}
use lib.Dec.{T, ltb, ltb→lt}
use lib.ListN.{length, get_or, drop, drop_of_length-le}
use lib.Seq.{length-sets, drop-cons}
use Rattle.sweeps.specs.Sweeps.{SweepCase, score, sweep}
use Rattle.sweeps.specs.Inner.Sweeps.{GoodHaps}
use Rattle.shuffle.specs.Permutation.{all_below}
use Rattle.sweeps.specs.Inner.Incremental.{changed}
use Rattle.sweeps.specs.Inner.Posts.{recorded}
use Rattle.sweeps.proofs.Basics.{and_l, and_r}
use Rattle.sweeps.proofs.Visit.{visit_good}
use Rattle.likelihoods.specs.Inner.Held.{SweepReads, Liks}
use Rattle.call_genotypes.specs.Inner.Scores.{over_first, SweepState, VisitStart}
use Rattle.call_genotypes.specs.Inner.Visits.{Visited, SweepStart, Swept}

pub below_at : (n : ℕ) (vs : List ℕ) (p : ℕ) → T (all_below n vs) → p < length vs → get_or vs p 0 < n
unfolding all_below
below_at n [] p t l = absurd (omega arith)
below_at n (v ∷ vs) zero t l = ltb→lt v n (and_l (ltb v n) (all_below n vs) t)
below_at n (v ∷ vs) (suc p) t l = below_at n vs p (and_r (ltb v n) (all_below n vs) t) (omega arith)

pub record Sweeping (C : SweepCase) (order : List ℕ) (before state : SweepState) (flag : Bool) (p : ℕ) : Type 0 where
  pub good : GoodHaps C state.hap
  pub liks : Liks C state.hap state.lik
  pub long : length state.post ≡ length before.post
  pub left : sweep C (drop p order) state.hap ≡ sweep C order before.hap
  pub scores : recorded over_first C (drop p order) state.hap state.post ≡ recorded over_first C order before.hap before.post
  pub told : (flag || changed C (drop p order) state.hap) ≡ changed C order before.hap

or_false : (a : Bool) → (a || false) ≡ a
or_false true = refl
or_false false = refl

or_assoc : (a b c : Bool) → ((a || b) || c) ≡ (a || (b || c))
or_assoc true b c = refl
or_assoc false b c = refl

or_true : (a : Bool) → (a || true) ≡ true
or_true true = refl
or_true false = refl

module _ {C : SweepCase} {reads : SweepReads} {before : SweepState} {order : List ℕ} (S : SweepStart C reads before order) where
  module _ {state : SweepState} {flag : Bool} {p : ℕ} (s : Sweeping C order before state flag p) where
    pub sweeping_end : length order ≤ p → Swept C order before state flag
    unfolding sweep changed recorded
    sweeping_end l =
        let d : drop p order ≡ [] = drop_of_length-le order l in
        record { haps = rw d at s.left; liks = s.liks; scores = rw d at s.scores; told = sym (or_false flag) ∙ (rw d at s.told) }

    module _ (l : p < length order) where
      -- what stands before the next visit
      pub sweeping_visit : VisitStart C reads state (get_or order p 0)
      sweeping_visit = record {
        standing = record { held = S.standing.held; haps = s.good; liks = s.liks; room = omega (arith, s.long, S.standing.room) };
        v_in = below_at C.n order p S.order_in l;
      }

      module _ {state' : SweepState} {c : Bool} (r : Visited C (get_or order p 0) state state' c) where
        sweeping_step : (flag' : Bool) → flag' ≡ (flag || c) → Sweeping C order before state' flag' (p + 1)
        unfolding sweep changed recorded
        sweeping_step flag' e =
            let v = get_or order p 0 in
            let d : drop p order ≡ v ∷ drop (p + 1) order = rw (add-one, drop-cons order p 0) in
            record {
              good = rw r.haps (visit_good C S.standing.held.good v (below_at C.n order p S.order_in l) state.hap s.good);
              liks = r.liks;
              long = ap length r.scores ∙ length-sets state.post (9 * v) (over_first (C.k v) (score C v state.hap)) ∙ s.long;
              left = rw r.haps (rw d at s.left);
              scores = rw (r.haps, r.scores) (rw d at s.scores);
              told = rw (e, r.told, r.haps, or_assoc) (rw d at s.told);
            }

        -- the two ways on
        pub sweeping_changed : c ≡ true → Sweeping C order before state' true (p + 1)
        sweeping_changed e = sweeping_step true (sym (or_true flag) ∙ ap (λ (b : Bool). flag || b) (sym e))

        pub sweeping_same : c ≡ false → Sweeping C order before state' flag (p + 1)
        sweeping_same e = sweeping_step flag (sym (or_false flag) ∙ ap (λ (b : Bool). flag || b) (sym e))
