-- 01, section 6: what a visit and a sweep leave in the lent slices. Assumes nothing.
use Rattle.std.specs.Prelude.{◌≡◌, Bool, not, cond, List, ℕ, ◌+◌, ◌*◌, ◌/◌, ◌%◌, ◌^◌, ◌<◌, T, eqb, length, get_or, ℤ, pos, ◌+ℤ◌, ◌-ℤ◌}
use Rattle.variants_and_fragments.specs.Pileup.{Row}
use Rattle.variants_and_fragments.specs.Sums.{sum_over}
use Rattle.genotype_probs.specs.Posteriors.{first_maximum}
use Rattle.sweeps.specs.Sweeps.{SweepCase, put_pair, same_haps, call_term, visit, sweep}
use Rattle.sweeps.specs.Inner.Sweeps.{GoodHaps}
use Rattle.shuffle.specs.Permutation.{all_below}
use Rattle.sweeps.specs.Inner.Incremental.{changed}
use Rattle.sweeps.specs.Inner.Posts.{recorded}
use Rattle.likelihoods.specs.Inner.Held.{SweepReads, sweep_reads, Held, Liks, Within}
use Rattle.likelihoods.specs.declared.pair.Pair.{Pair}
use Rattle.call_genotypes.specs.Inner.Scores.{over_first, SweepState, Standing, VisitStart, scored_at}

-- ---- the best pair
-- the number of v's first pair with the greatest score, k by k scores standing at 9 × v
abbrev pub best_at : List ℤ → ℕ → ℕ → ℕ
best_at post v k = first_maximum (λ g. get_or post (9 * v + g) (pos 0)) (k * k)

-- and that pair
pub record BestPair (post : List ℤ) (v k : ℕ) (r : Pair) : Type 0 where
  pub first : r.first ≡ best_at post v k / k
  pub second : r.second ≡ best_at post v k % k
  pub first_in : r.first < k
  pub second_in : r.second < k

-- ---- the likelihoods follow
-- what a row adds to the likelihood at i, those on haplotype `side` being moved from allele `old` to `new`
unfoldable pub move_of : ℕ → ℕ → ℕ → ℕ → Row → ℤ
move_of side old new i row = cond (eqb (2 * row.fragment + side) i) (call_term row.call new -ℤ call_term row.call old) (pos 0)

-- the likelihoods that stand at rows' fragments, on haplotype `side`, have moved
pub record Moved (side old new : ℕ) (rows : List Row) (lik lik' : List ℤ) : Type 0 where
  pub long : length lik' ≡ length lik
  -- of at most 16384 rows, each 2^19 at most
  pub grown : (n : ℕ) → Within n lik → Within (n + 2 ^ 33) lik'
  pub moved : (i : ℕ) → i < length lik → get_or lik' i (pos 0) ≡ get_or lik i (pos 0) +ℤ sum_over rows (move_of side old new i)

-- the slices hold C, whatever its alleles' and priors' slices are, and lik has the likelihoods of the haplotypes
pub record Movable (C : SweepCase) (ph ends piles hap : List ℕ) (lik : List ℤ) (v : ℕ) : Type 0 where
  pub ks : List ℕ
  pub pri : List ℤ
  pub held : Held C (sweep_reads ks ph pri ends piles)
  pub haps : GoodHaps C hap
  pub liks : Liks C hap lik
  pub v_in : v < C.n

-- a pair is put at v, and the likelihoods are those of the new haplotypes
pub record PairPut (C : SweepCase) (v : ℕ) (new : Pair) (hap hap' : List ℕ) (lik' : List ℤ) : Type 0 where
  pub haps : hap' ≡ put_pair hap v new.first new.second
  pub liks : Liks C hap' lik'

-- whatever case stands
abbrev pub PutFrom : List ℕ → List ℕ → List ℕ → List ℕ → List ℤ → ℕ → Pair → List ℕ → List ℤ → Type 0
PutFrom ph ends piles hap lik v new hap' lik' = (C : SweepCase) → Movable C ph ends piles hap lik v → PairPut C v new hap hap' lik'

-- ---- a visit
-- one visit of v: the first pair with the greatest score is taken, and the flag says whether the haplotypes changed
pub record Visited (C : SweepCase) (v : ℕ) (before after : SweepState) (changed : Bool) : Type 0 where
  pub haps : after.hap ≡ visit C v before.hap
  pub liks : Liks C after.hap after.lik
  pub scores : after.post ≡ scored_at C v before
  pub told : changed ≡ not (same_haps before.hap after.hap)

-- whatever case stands
abbrev pub VisitedFrom : SweepReads → SweepState → ℕ → SweepState → Bool → Type 0
VisitedFrom reads before v after changed = (C : SweepCase) → VisitStart C reads before v → Visited C v before after changed

-- ---- a sweep
-- what stands before a sweep: the order's entries are variants
pub record SweepStart (C : SweepCase) (reads : SweepReads) (state : SweepState) (order : List ℕ) : Type 0 where
  pub standing : Standing C reads state
  pub order_in : T (all_below C.n order)

-- one sweep visits all variants in a given order; the flag says whether a visit changed its pair
pub record Swept (C : SweepCase) (order : List ℕ) (before after : SweepState) (flag : Bool) : Type 0 where
  pub haps : after.hap ≡ sweep C order before.hap
  pub liks : Liks C after.hap after.lik
  pub scores : after.post ≡ recorded over_first C order before.hap before.post
  pub told : flag ≡ changed C order before.hap

abbrev pub SweptFrom : SweepReads → SweepState → List ℕ → SweepState → Bool → Type 0
SweptFrom reads before order after flag = (C : SweepCase) → SweepStart C reads before order → Swept C order before after flag
