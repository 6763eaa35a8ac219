-- What the parts of a round hand on to each other: prepare, run, finish. Assumes nothing.
use Rattle.std.specs.Prelude.{◌≡◌, Bool, cond, List, [], ℕ, ◌*◌, ◌<◌, ◌≤◌, ℤ, length, get_or, take}
use Rattle.variants_and_fragments.specs.declared.Sizes.{Sizes}
use Rattle.variants_and_fragments.specs.Refusals.{done}
use Rattle.variants_and_fragments.specs.Check.{check_case_outcome}
use Rattle.variants_and_fragments.specs.Decode.{decode}
use Rattle.variants_and_fragments.specs.Layout.{allele_count_at}
use Rattle.variants_and_fragments.specs.Written.{written}
use Rattle.pileup.specs.Inner.Collected.{collected}
use Rattle.pileup.specs.Inner.Rows.{RowsMade}
use Rattle.pileup.specs.Inner.Piles.{PilesMade}
use Rattle.genotype_probs.specs.declared.Rates.{Rates}
use Rattle.genotype_probs.specs.Inner.Rates.{rates_fault}
use Rattle.genotype_probs.specs.Priors.{prior_at}
use Rattle.shuffle.specs.Orders.{order_count}
use Rattle.shuffle.specs.Inner.Orders.{GoodOrders}
use Rattle.sweeps.specs.Sweeps.{SweepCase, phased_total, source_total}
use Rattle.sweeps.specs.Inner.Sweeps.{GoodHaps}
use Rattle.sweeps.specs.Demand3.{Demand3}
use Rattle.sweeps.specs.Inner.Posts.{posts}
use Rattle.likelihoods.specs.Inner.Held.{Liks}
use Rattle.call_genotypes.specs.Inner.Scores.{over_first, SweepState}
use Rattle.call_genotypes.specs.Inner.Runs.{Plan, result_of}
use Rattle.with_haplotypes.specs.declared.RoundAnswer.{RoundAnswer}
use Rattle.with_haplotypes.specs.Round.{RunInput, run_input, RoundInput, sweep_case, order_of_sweep, result, returned, haplotype_at, likelihood_at, posterior_at, final}
use Rattle.with_haplotypes.specs.Promise.{RoundSlices, max_limit}

-- a case of these words and bases that is accepted, at accepted rates
pub record CaseGiven (w : List ℤ) (b : List ℕ) (rates : Rates) (s : Sizes) : Type 0 where
  pub accepted : check_case_outcome w b ≡ done s
  pub good_rates : rates_fault rates ≡ 7

-- orders of n variants and a limit past their checks: as many orders as planned, each with every variant once; at most 1,000,000 sweeps
pub record OrdersGiven (orders : List ℕ) (n : ℕ) (plan : Plan) : Type 0 where
  pub n_is : plan.n ≡ n
  pub good : GoodOrders n orders plan.m
  pub count_is : plan.m ≡ order_count n (length orders)
  pub limit_low : 1 ≤ plan.limit
  pub limit_top : plan.limit ≤ max_limit

-- a round's input past all checks
pub record Admitted (input : RoundInput) (s : Sizes) (plan : Plan) : Type 0 where
  pub given : CaseGiven input.words input.bases input.rates s
  pub phase_long : length input.phase ≡ s.n
  pub good_orders : OrdersGiven input.orders s.n plan

-- ---- prepare
-- the scratch of a run: the rows and where each fragment's end, the piles and where each variant's end, the priors
pub record Scratch : Type 0 where
  pub rows : List ℕ
  pub row_ends : List ℕ
  pub piles : List ℕ
  pub pile_ends : List ℕ
  pub pri : List ℤ

abbrev pub scratch : List ℕ → List ℕ → List ℕ → List ℕ → List ℤ → Scratch
scratch rows row_ends piles pile_ends pri = record { rows = rows; row_ends = row_ends; piles = piles; pile_ends = pile_ends; pri = pri }

-- the usable calls as rows and as piles, and the priors: what stands is what is written
pub record Prepared (w : List ℤ) (b : List ℕ) (rates : Rates) (s : Sizes) (x : Scratch) : Type 0 where
  pub rows_made : RowsMade w s x.rows x.row_ends [] (length (collected w s).rows)
  pub ends_long : length x.row_ends ≡ s.f
  pub piles_made : PilesMade w s x.pile_ends x.piles
  pub pri_long : 9 * s.n ≤ length x.pri
  pub pri_are : x.pri ≡ written (prior_at rates (decode w b)) (9 * s.n) x.pri

-- ---- run
-- the numbers of alleles of n variants
pub record AlleleCounts (w : List ℤ) (n : ℕ) (ks : List ℕ) : Type 0 where
  pub long : length ks ≡ n
  pub are : ks ≡ written (allele_count_at w) n ks

-- what a run of any flags reads: an accepted case's words and bases, its numbers of alleles, as many flags, and orders
pub record ReadsGiven (w : List ℤ) (b : List ℕ) (rates : Rates) (s : Sizes) (plan : Plan) (ks ph orders : List ℕ) : Type 0 where
  pub given : CaseGiven w b rates s
  pub good_orders : OrdersGiven orders s.n plan
  pub counts : AlleleCounts w s.n ks
  pub ph_long : s.n ≤ length ph

-- what a run reads: an accepted case's words and bases, its numbers of alleles, flags of the phased variants, and orders
pub record RunGiven (w : List ℤ) (b : List ℕ) (rates : Rates) (s : Sizes) (plan : Plan) (ks ph orders : List ℕ) (phased : ℕ → Bool) : Type 0 where
  pub given : CaseGiven w b rates s
  pub good_orders : OrdersGiven orders s.n plan
  pub counts : AlleleCounts w s.n ks
  pub ph_long : s.n ≤ length ph
  pub ph_are : (v : ℕ) → v < s.n → get_or ph v 0 ≡ cond (phased v) 1 0

-- what a run of C changes: haplotypes whose alleles the variants have, likelihoods of exactly the need, and room for the scores
pub record StateGiven (C : SweepCase) (s : Sizes) (state : SweepState) : Type 0 where
  pub good_start : GoodHaps C state.hap
  pub liks_long : length state.lik ≡ 2 * s.f
  pub post_long : 9 * s.n ≤ length state.post

-- what a run of these phased variants starts from: the flags that say them, and what it changes
pub record PhasedGiven (w : List ℤ) (b : List ℕ) (rates : Rates) (s : Sizes) (plan : Plan) (ph orders : List ℕ) (state : SweepState) (phased : ℕ → Bool) : Type 0 where
  pub ph_are : (v : ℕ) → v < s.n → get_or ph v 0 ≡ cond (phased v) 1 0
  pub state_given : StateGiven (sweep_case (run_input w b rates phased state.hap orders plan.limit)) s state

-- there are phased variants of which P holds
pub record SomePhased (P : (ℕ → Bool) → Type 0) : Type 0 where
  pub phased : ℕ → Bool
  pub holds : P phased

-- what the sweeps leave, with the scores of each variant's latest visit not normalised yet
pub record RunMade (input : RunInput) (before after : SweepState) (r : RoundAnswer) : Type 0 where
  pub result_is : result input ≡ result_of r.sweeps r.settled after.hap
  pub demand3 : Demand3 (sweep_case input) (order_of_sweep input) input.limit input.start (result_of r.sweeps r.settled after.hap)
  pub start_is : r.start.0 ≡ phased_total (sweep_case input) input.start
  pub end_is : r.end.0 ≡ phased_total (sweep_case input) after.hap
  pub source_is : r.source.0 ≡ source_total (sweep_case input) after.hap
  pub liks : Liks (sweep_case input) after.hap after.lik
  pub scores : after.post ≡ posts over_first (sweep_case input) (order_of_sweep input) input.start before.post r.sweeps

-- what a run promises of the phased variants, whichever the flags say
abbrev pub RunPromise : List ℤ → List ℕ → Rates → Sizes → Plan → List ℕ → List ℕ → SweepState → SweepState → RoundAnswer → Type 0
RunPromise w b rates s plan ph orders before after r =
    (phased : ℕ → Bool) → PhasedGiven w b rates s plan ph orders before phased → RunMade (run_input w b rates phased before.hap orders plan.limit) before after r

-- the same where the scratch is prepared: there is a case that it was prepared for
pub record PreparedGiven (plan : Plan) (ks ph : List ℕ) (x : Scratch) (orders : List ℕ) (state : SweepState) : Type 0 where
  pub words : List ℤ
  pub bases : List ℕ
  pub rates : Rates
  pub sizes : Sizes
  pub phased : ℕ → Bool
  pub given : ReadsGiven words bases rates sizes plan ks ph orders
  pub phased_given : PhasedGiven words bases rates sizes plan ph orders state phased
  pub prepared : Prepared words bases rates sizes x

-- and the promise is about every such case
abbrev pub PreparedPromise : Plan → List ℕ → List ℕ → Scratch → List ℕ → SweepState → SweepState → RoundAnswer → Type 0
PreparedPromise plan ks ph x orders before after r =
    (p : PreparedGiven plan ks ph x orders before) → RunMade (run_input p.words p.bases p.rates p.phased before.hap orders plan.limit) before after r

-- ---- the whole round
-- room for the round in the lent slices
pub record RoundRoom (s : Sizes) (slices : RoundSlices) : Type 0 where
  pub haplotypes_long : 2 * s.n ≤ length slices.haplotypes
  pub likelihoods_long : 2 * s.f ≤ length slices.likelihoods
  pub posteriors_long : 9 * s.n ≤ length slices.posteriors
  pub quals_long : s.n ≤ length slices.quals
  pub gqs_long : s.n ≤ length slices.gqs

-- what a round over an accepted input returns and writes
pub record RoundMade (input : RunInput) (s : Sizes) (before : RoundSlices) (r : RoundAnswer) (after : RoundSlices) : Type 0 where
  pub returned_is : r ≡ returned input
  pub haplotypes_are : after.haplotypes ≡ written (haplotype_at input) (2 * s.n) before.haplotypes
  pub likelihoods_are : after.likelihoods ≡ written (likelihood_at input) (2 * s.f) before.likelihoods
  pub posteriors_are : after.posteriors ≡ written (posterior_at input) (9 * s.n) before.posteriors
  pub quals_are : after.quals ≡ written (λ v. (final input v).qual.0) s.n before.quals
  pub gqs_are : after.gqs ≡ written (λ v. (final input v).gq.0) s.n before.gqs
  pub demand3 : Demand3 (sweep_case input) (order_of_sweep input) input.limit input.start (result_of r.sweeps r.settled (take (2 * s.n) after.haplotypes))
  pub result_are : take (2 * s.n) after.haplotypes ≡ (result input).haps
