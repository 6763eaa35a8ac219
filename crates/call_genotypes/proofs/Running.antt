-- The run under way: the sweeps that are left, from the haplotypes that stand, give the whole run; its end has demand 3. Assumes nothing.
use mathlib.Core.Path.{◌≡◌, refl, sym, ap, ◌∙◌, subst}
use mathlib.Core.Bool.{Bool, true, false, not, cond}
use mathlib.Core.List.{List}
use Prim.Native.Nat.{ℕ, suc, ◌+◌, ◌-◌, ◌*◌, ◌%◌, ◌<◌, ◌≤◌}
use native.Mathlib.Omega.{arith}
use native.Mathlib.Nat.{mod-lt, mul-le-mul_right}
use native.Mathlib.Numerals.{add-one}
use lib.ListN.{length, take, drop}
use Rattle.shuffle.specs.Permutation.{Permutation}
use Rattle.shuffle.specs.Orders.{order_at}
use Rattle.sweeps.specs.Sweeps.{SweepCase, same_haps, sweep, run}
use Rattle.sweeps.specs.Inner.Sweeps.{GoodHaps}
use Rattle.sweeps.specs.Demand3.{after}
use Rattle.sweeps.specs.Inner.Posts.{posts}
use Rattle.sweeps.proofs.Link.{flag_same}
use Rattle.sweeps.proofs.Perm.{permutation_below, permutation_distinct}
use Rattle.sweeps.proofs.Posts.{length_recorded}
use Rattle.sweeps.proofs.Run.{demand3}
use Rattle.sweeps.proofs.Sweep.{sweep_swept}
use Rattle.likelihoods.specs.Inner.Held.{SweepReads, Liks}
use Rattle.call_genotypes.specs.declared.run.RunAnswer.{RunAnswer}
use Rattle.call_genotypes.specs.Inner.Scores.{over_first, SweepState}
use Rattle.call_genotypes.specs.Inner.Visits.{SweepStart, Swept}
use Rattle.call_genotypes.specs.Inner.Runs.{Plan, order_of, RunStart, result_of, Ran}

-- s sweeps are made
pub record Running (C : SweepCase) (o : ℕ → List ℕ) (limit : ℕ) (before state : SweepState) (s : ℕ) : Type 0 where
  pub good : GoodHaps C state.hap
  pub liks : Liks C state.hap state.lik
  pub long : length state.post ≡ length before.post
  pub left : run C o limit 0 before.hap ≡ run C o (limit - s) s state.hap
  pub stood : state.hap ≡ after C o before.hap s
  pub scores : state.post ≡ posts over_first C o before.hap before.post s

-- the part that the code hands over
pub part_is : (orders : List ℕ) (n m s a : ℕ) → a ≡ s % m * n → take (a + n - a) (drop a orders) ≡ order_of orders n m s
unfolding order_of order_at
part_is orders n m s a at = let e : s % m * n + n - s % m * n ≡ n = omega arith in rw (at, e)

module _ {C : SweepCase} {reads : SweepReads} {before : SweepState} {orders : List ℕ} {plan : Plan} (R : RunStart C reads before orders plan) where
  abbrev n : ℕ
  n = plan.n

  abbrev m : ℕ
  m = plan.m

  abbrev limit : ℕ
  limit = plan.limit

  abbrev o : ℕ → List ℕ
  o = order_of orders n m

  -- ---- the orders
  pub end_fits : (s : ℕ) → s % m * n + n ≤ length orders
  end_fits s = omega (arith, R.orders_long, mul-le-mul_right n (mod-lt s R.some_order))

  order_good : (s : ℕ) → Permutation C.n (o s)
  order_good s = subst (λ (x : ℕ). Permutation x (o s)) R.n_is (R.orders_good s)

  -- ---- the loop
  pub running_start : Running C o limit before before 0
  unfolding after posts
  running_start = record {
    good = R.standing.haps;
    liks = R.standing.liks;
    long = refl;
    left = ap (λ (x : ℕ). run C o x 0 before.hap) (omega arith);
    stood = refl;
    scores = refl;
  }

  -- the end of the run
  ran : {state : SweepState} {s : ℕ} {settled : Bool} → run C o limit 0 before.hap ≡ result_of s settled state.hap → Liks C state.hap state.lik → state.post ≡ posts over_first C o before.hap before.post s
      → Ran C orders plan before state (record { sweeps = s; settled = settled })
  ran q L p = record { result = q; demand3 = rw q at (demand3 C R.standing.held.good o order_good limit before.hap R.some_sweep R.standing.haps); liks = L; scores = p }

  module _ {state : SweepState} {s : ℕ} (r : Running C o limit before state s) where
    pub run_out : (answer : RunAnswer) → limit ≤ s → answer.sweeps ≡ s → answer.settled ≡ false → Ran C orders plan before state answer
    unfolding run
    run_out answer l es e = let z : limit - s ≡ 0 = omega arith in ran (rw (es, e) (rw z at r.left)) r.liks (rw es r.scores)

    -- a sweep can start by any order
    pub running_sweep : (x : ℕ) → SweepStart C reads state (o x)
    running_sweep x = record {
      standing = record { held = R.standing.held; haps = r.good; liks = r.liks; room = omega (arith, r.long, R.standing.room) };
      order_in = permutation_below (order_good x);
    }

    module _ (l : s < limit) {state' : SweepState} {flag : Bool} (w : Swept C (o s) state state' flag) where
      -- the flag says which way the run goes
      run_step : run C o limit 0 before.hap ≡ cond (not flag) (result_of (s + 1) true state'.hap) (run C o (limit - (s + 1)) (s + 1) state'.hap)
      unfolding run
      run_step =
          let e : limit - s ≡ suc (limit - (s + 1)) = omega arith in
          let f = flag_same C R.standing.held.good (o s) state.hap (order_good s).within (permutation_distinct (order_good s)) r.good in
          let g : same_haps state.hap (sweep C (o s) state.hap) ≡ not flag = f ∙ ap not (sym w.told) in
          r.left ∙ rw (e, w.haps, ← g, add-one)

      scores_on : state'.post ≡ posts over_first C o before.hap before.post (s + 1)
      unfolding posts
      scores_on = rw add-one (cc (w.scores, r.stood, r.scores))

      pub running_step : flag ≡ true → Running C o limit before state' (s + 1)
      unfolding after
      running_step e = record {
        good = rw w.haps (sweep_swept C R.standing.held.good (o s) state.hap (order_good s).within r.good).good;
        liks = w.liks;
        long = ap length w.scores ∙ length_recorded over_first C (o s) state.hap state.post ∙ r.long;
        left = rw e at run_step;
        stood = rw add-one (cc (w.haps, r.stood));
        scores = scores_on;
      }

      pub run_settles : flag ≡ false → Ran C orders plan before state' (record { sweeps = s + 1; settled = true })
      run_settles e = ran (rw e at run_step) w.liks scores_on
