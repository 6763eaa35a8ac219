-- 01, section 6: the run over its whole list of orders, with demand 3 whole. Assumes nothing.
use Rattle.std.specs.Prelude.{◌≡◌, Bool, List, ℕ, ◌*◌, ◌%◌, ◌≤◌, length}
use Rattle.shuffle.specs.Permutation.{Permutation}
use Rattle.shuffle.specs.Orders.{order_at}
use Rattle.sweeps.specs.Sweeps.{SweepCase, RunResult, run}
use Rattle.sweeps.specs.Demand3.{Demand3}
use Rattle.sweeps.specs.Inner.Posts.{posts}
use Rattle.likelihoods.specs.Inner.Held.{SweepReads, Liks}
use Rattle.call_genotypes.specs.declared.run.Orders.{Orders}
use Rattle.call_genotypes.specs.declared.run.RunAnswer.{RunAnswer}
use Rattle.call_genotypes.specs.Inner.Scores.{over_first, SweepState, Standing}

-- sweep s (from 0) uses lent order s mod m, of m orders of n entries each
unfoldable pub order_of : List ℕ → ℕ → ℕ → ℕ → List ℕ
order_of orders n m s = order_at n orders (s % m)

-- how many variants an order has, how many orders are lent, and the most sweeps
pub record Plan : Type 0 where
  pub n : ℕ
  pub m : ℕ
  pub limit : ℕ

abbrev pub plan_of : Orders → ℕ → Plan
plan_of orders limit = record { n = orders.n; m = orders.m; limit = limit }

-- what stands before the run: each order has every variant once, and the limit is one of 1 to 1,000,000 sweeps
pub record RunStart (C : SweepCase) (reads : SweepReads) (state : SweepState) (orders : List ℕ) (plan : Plan) : Type 0 where
  pub standing : Standing C reads state
  pub n_is : plan.n ≡ C.n
  pub some_order : 1 ≤ plan.m
  pub some_sweep : 1 ≤ plan.limit
  pub limit_top : plan.limit ≤ 1000000
  pub orders_long : length orders ≡ plan.m * plan.n
  pub orders_good : (s : ℕ) → Permutation plan.n (order_of orders plan.n plan.m s)

-- what the run returns and leaves
abbrev pub result_of : ℕ → Bool → List ℕ → RunResult
result_of sweeps settled h = record { sweeps = sweeps; settled = settled; haps = h }

pub record Ran (C : SweepCase) (orders : List ℕ) (plan : Plan) (before after : SweepState) (r : RunAnswer) : Type 0 where
  -- the run of the definitions
  pub result : run C (order_of orders plan.n plan.m) plan.limit 0 before.hap ≡ result_of r.sweeps r.settled after.hap
  -- demand 3, whole
  pub demand3 : Demand3 C (order_of orders plan.n plan.m) plan.limit before.hap (result_of r.sweeps r.settled after.hap)
  -- the likelihoods of the haplotypes that it leaves
  pub liks : Liks C after.hap after.lik
  -- each variant's latest scores
  pub scores : after.post ≡ posts over_first C (order_of orders plan.n plan.m) before.hap before.post r.sweeps

-- whatever case stands
abbrev pub RanFrom : SweepReads → SweepState → List ℕ → Plan → SweepState → RunAnswer → Type 0
RanFrom reads before orders plan after r = (C : SweepCase) → RunStart C reads before orders plan → Ran C orders plan before after r
