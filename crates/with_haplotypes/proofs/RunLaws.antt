-- A run over an accepted case from given haplotypes: what stands before its first sweep, and the totals before and after it.
-- Assumes nothing.
use mathlib.Core.Path.{◌≡◌, sym, ap, ◌∙◌}
use mathlib.Core.Bool.{Bool}
use mathlib.Core.List.{List, []}
use Prim.Native.Nat.{ℕ, suc, ◌*◌, ◌/◌, ◌^◌, ◌<◌, ◌≤◌}
use native.Mathlib.Omega.{arith}
use lib.IntN.{ℤ}
use lib.ListN.{length, get_or}
use Rattle.variants_and_fragments.specs.declared.Sizes.{Sizes}
use Rattle.variants_and_fragments.specs.Inner.Accepted.{CaseIn}
use Rattle.variants_and_fragments.specs.Written.{written}
use Rattle.variants_and_fragments.proofs.Accepted.{case_in}
use Rattle.variants_and_fragments.proofs.Decoded.{variants_are}
use Rattle.pileup.specs.Inner.Packed.{group_start}
use Rattle.pileup.specs.Inner.Collected.{collected}
use Rattle.pileup.specs.Inner.Rows.{RowsMade}
use Rattle.genotype_probs.specs.declared.Rates.{Rates}
use Rattle.shuffle.specs.Permutation.{Permutation}
use Rattle.shuffle.specs.Orders.{order_count}
use Rattle.sweeps.specs.Sweeps.{SweepCase, total_of, phased_total, source_total}
use Rattle.sweeps.specs.Inner.Sweeps.{GoodHaps}
use Rattle.sweeps.proofs.Run.{after_good}
use Rattle.likelihoods.specs.Inner.Held.{sweep_reads, Held, Liks, Within}
use Rattle.likelihoods.specs.Inner.Likelihoods.{CallsIn, EndsIn, flagged, likelihood_at}
use Rattle.likelihoods.specs.Inner.Totals.{held_case, standing_total, PriorsIn}
use Rattle.likelihoods.proofs.CallsHeld.{calls_in, ends_in_order}
use Rattle.likelihoods.proofs.HeldCases.{counted, held, frags_counted}
use Rattle.likelihoods.proofs.LikelihoodsHeld.{liks_held}
use Rattle.likelihoods.proofs.TotalsHeld.{priors_in, standing_total_held, source_total_held}
use Rattle.call_genotypes.specs.declared.run.RunAnswer.{RunAnswer}
use Rattle.call_genotypes.specs.Inner.Scores.{SweepState, sweep_state}
use Rattle.call_genotypes.specs.Inner.Runs.{Plan, order_of, RunStart, Ran}
use Rattle.call_genotypes.proofs.Linked.{lik_within}
use Rattle.with_haplotypes.specs.declared.RoundAnswer.{RoundAnswer}
use Rattle.with_haplotypes.specs.Round.{RunInput, run_input, sweep_case, order_of_sweep, result}
use Rattle.with_haplotypes.specs.Inner.Steps.{CaseGiven, OrdersGiven, Scratch, Prepared, ReadsGiven, RunGiven, StateGiven, PhasedGiven, SomePhased, RunMade, RunPromise, PreparedGiven, PreparedPromise}
use Rattle.with_haplotypes.proofs.OrdersHeld.{order_good}

pub known : {w : List ℤ} {b : List ℕ} {rates : Rates} {s : Sizes} → CaseGiven w b rates s → CaseIn w s
known {w} {b} {rates} {s} g = case_in w b s g.accepted

-- the rows of an accepted case, with no place to count the ambiguous calls
pub rows_of : {w : List ℤ} {s : Sizes} {rows ends ambiguous : List ℕ} {count : ℕ} → RowsMade w s rows ends ambiguous count → RowsMade w s rows ends [] (length (collected w s).rows)
rows_of m = rw (← m.rows_held.count_is) (record {
  rows_held = m.rows_held;
  ambiguous_counted = record { at = λ v h. absurd (omega arith) };
  all_calls = m.all_calls;
  count_in = m.count_in;
  rows_in = m.rows_in;
  grouped = m.grouped;
})

-- ---- a run of flags that say these phased variants
module _ {w : List ℤ} {b : List ℕ} {rates : Rates} {s : Sizes} {plan : Plan} {ks ph orders : List ℕ} {phased : ℕ → Bool}
    (G : RunGiven w b rates s plan ks ph orders phased) where
  -- it reads what a run of any flags does
  pub reads_given : ReadsGiven w b rates s plan ks ph orders
  reads_given = record { given = G.given; good_orders = G.good_orders; counts = G.counts; ph_long = G.ph_long }

  -- and starts from them
  pub phased_of : {state : SweepState} → StateGiven (sweep_case (run_input w b rates phased state.hap orders plan.limit)) s state → PhasedGiven w b rates s plan ph orders state phased
  phased_of S = record { ph_are = G.ph_are; state_given = S }

-- ---- a run with scratch of its own, of whatever size
module _ {w : List ℤ} {b : List ℕ} {rates : Rates} {s : Sizes} {plan : Plan} {ks ph orders : List ℕ} {state : SweepState} {x : Scratch}
    (G : ReadsGiven w b rates s plan ks ph orders) (P : Prepared w b rates s x) where
  -- what the run over prepared scratch asks
  pub run_asks : SomePhased (PhasedGiven w b rates s plan ph orders state) → PreparedGiven plan ks ph x orders state
  run_asks F = record { words = w; bases = b; rates = rates; sizes = s; phased = F.phased; given = G; phased_given = F.holds; prepared = P }

  -- and what it promises
  pub run_promised : {after : SweepState} {r : RoundAnswer} → PreparedPromise plan ks ph x orders state after r → RunPromise w b rates s plan ph orders state after r
  run_promised p phased F = p (record { words = w; bases = b; rates = rates; sizes = s; phased = phased; given = G; phased_given = F; prepared = P })

-- ---- a case, phased variants and orders
module _ {w : List ℤ} {b : List ℕ} {rates : Rates} (s : Sizes) (g : CaseGiven w b rates s) (phased : ℕ → Bool) (start orders : List ℕ) (limit : ℕ) where
  abbrev input : RunInput
  input = run_input w b rates phased start orders limit

  pub variants_counted : (sweep_case input).n ≡ s.n
  unfolding sweep_case
  variants_counted = counted rates phased w b s g.accepted

  module _ {plan : Plan} (o : OrdersGiven orders s.n plan) where
    pub orders_same : order_of_sweep input ≡ order_of orders plan.n plan.m
    unfolding order_of_sweep order_of
    orders_same =
        ap (λ (n : ℕ). order_of orders n (order_count n (length orders))) (variants_are (known g) b)
        ∙ ap (order_of orders s.n) (sym o.count_is)
        ∙ ap (λ (n : ℕ). order_of orders n plan.m) (sym o.n_is)

    pub orders_good : (q : ℕ) → Permutation (sweep_case input).n (order_of_sweep input q)
    orders_good q = rw (variants_counted, orders_same, o.n_is) (order_good s.n plan.m orders o.good q)

-- ---- what is prepared and the run is given
module _ {w : List ℤ} {b : List ℕ} {rates : Rates} {s : Sizes} {plan : Plan} {ks ph orders : List ℕ} {state : SweepState} {phased : ℕ → Bool} {x : Scratch}
    (G : ReadsGiven w b rates s plan ks ph orders) (P : Prepared w b rates s x) (F : PhasedGiven w b rates s plan ph orders state phased) where
  abbrev run : RunInput
  run = run_input w b rates phased state.hap orders plan.limit

  abbrev C : SweepCase
  C = sweep_case run

  n_is : C.n ≡ s.n
  n_is = variants_counted s G.given phased state.hap orders plan.limit

  pub case_held : Held C (sweep_reads ks ph x.pri x.pile_ends x.piles)
  unfolding sweep_case
  case_held =
      held rates phased w b s G.given.accepted ks ks ph x.pri x.pri G.given.good_rates (omega (arith, G.counts.long))
      G.counts.are G.ph_long F.ph_are P.pri_long P.pri_are P.piles_made

  fragments_counted : length C.frags ≡ s.f
  unfolding sweep_case
  fragments_counted = frags_counted rates phased w b s G.given.accepted

  -- rows and priors, with flags
  module _ {h : List ℕ} (mask : List ℕ) (g : GoodHaps C h) (long : s.n ≤ length mask) where
    pub rows_asked : CallsIn x.rows (group_start x.row_ends (length x.row_ends)) h mask × EndsIn x.row_ends (length x.row_ends)
    rows_asked =
        let k = known G.given in
        rw P.ends_long (calls_in k P.rows_made h mask (omega (arith, g.len, n_is)) long, ends_in_order k P.rows_made)

    pub priors_asked : PriorsIn (length ks) ks x.pri h mask
    priors_asked = rw G.counts.long (priors_in s.n mask case_held g n_is long)

  -- the likelihoods of the start's haplotypes, as they are written
  module _ {lik : List ℤ} (lik-written : lik ≡ written (likelihood_at x.rows x.row_ends state.hap ph) (2 * length x.row_ends) state.lik) where
    pub liks_here : Liks C state.hap lik
    unfolding sweep_case
    liks_here = liks_held rates phased w b s G.given.accepted P.rows_made state.hap ph state.lik lik F.ph_are F.state_given.liks_long (rw P.ends_long at lik-written)

    pub begins : RunStart C (sweep_reads ks ph x.pri x.pile_ends x.piles) (sweep_state state.hap lik state.post) orders plan
    begins = record {
      standing = record { held = case_held; haps = F.state_given.good_start; liks = liks_here; room = omega (arith, n_is, F.state_given.post_long) };
      n_is = omega (arith, n_is, G.good_orders.n_is);
      some_order = omega (arith, G.good_orders.good.some);
      some_sweep = G.good_orders.limit_low;
      limit_top = G.good_orders.limit_top;
      orders_long = rw G.good_orders.n_is (sym G.good_orders.good.fills);
      orders_good = rw G.good_orders.n_is (order_good s.n plan.m orders G.good_orders.good);
    }

  -- what `standing_total` wants, of haplotypes and their likelihoods, and what it answers
  module _ {h : List ℕ} {l : List ℤ} (g : GoodHaps C h) (liks : Liks C h l) where
    pub standing_asks : (length l ≤ 8192) × Within (2 ^ 32) l
    standing_asks = (omega (arith, liks.long, fragments_counted, (known G.given).sized.f_top), lik_within case_held h l liks)

    pub phased_total_lem : standing_total (length ks) (length l / 2) ks x.pri l h ph ≡ phased_total C h
    unfolding sweep_case
    phased_total_lem =
        let f : length l / 2 ≡ s.f = omega (arith, liks.long, fragments_counted) in
        rw (G.counts.long, f) (standing_total_held rates phased w b s G.given.accepted P.rows_made case_held g liks)

  -- what `total` answers, of all variants
  module _ {h : List ℕ} (ones : List ℕ) (g : GoodHaps C h) where
    pub source_total_lem : ((v : ℕ) → v < s.n → get_or ones v 0 ≡ 1) → total_of (held_case (length ks) (length x.row_ends) ks x.pri x.rows x.row_ends ones) (flagged ones) h ≡ source_total C h
    unfolding sweep_case
    source_total_lem all = rw (G.counts.long, P.ends_long) (source_total_held rates phased w b s G.given.accepted P.rows_made case_held g ones all)

  -- ---- after the sweeps
  module _ {lik : List ℤ} {after : SweepState} {r : RunAnswer} (R : Ran C orders plan (sweep_state state.hap lik state.post) after r) where
    orders_here : order_of orders plan.n plan.m ≡ order_of_sweep run
    orders_here = sym (orders_same s G.given phased state.hap orders plan.limit G.good_orders)

    -- the haplotypes that are left
    pub left_good : GoodHaps C after.hap
    left_good =
        let e = R.demand3.ends in
        rw (e.reached, orders_here)
        (after_good C case_held.good (order_of_sweep run) (orders_good s G.given phased state.hap orders plan.limit G.good_orders) state.hap (suc e.last) F.state_given.good_start)

    pub run_made : (a : RoundAnswer) → a.sweeps ≡ r.sweeps → a.settled ≡ r.settled → a.start.0 ≡ phased_total C state.hap → a.end.0 ≡ phased_total C after.hap → a.source.0 ≡ source_total C after.hap → RunMade run state after a
    unfolding result
    run_made a p q c d e =
        let o = orders_here in
        record {
          result_is = rw (← o, p, q) R.result;
          demand3 = rw (← o, p, q) R.demand3;
          start_is = c;
          end_is = d;
          source_is = e;
          liks = R.liks;
          scores = rw (← o, p) R.scores;
        }
