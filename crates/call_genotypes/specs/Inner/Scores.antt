-- What the code of a visit computes from the lent slices, row by row and pair by pair. Assumes nothing.
use Rattle.std.specs.Prelude.{◌≡◌, Bool, cond, ◌||◌, List, ℕ, zero, suc, ◌+◌, ◌*◌, ◌/◌, ◌%◌, ◌^◌, ◌<◌, ◌≤◌, eqb, length, get_or, ℤ, pos, nat_abs, neg_ℤ, ◌+ℤ◌, ◌-ℤ◌, ◌*ℤ◌}
use Rattle.std.proofs.lemmas.List.Edits.{sets}
use Rattle.std.specs.Int.Signed.{lt_z}
use Rattle.steps.specs.Logs.{add_exp}
use Rattle.variants_and_fragments.specs.Pileup.{Row}
use Rattle.variants_and_fragments.specs.Decode.{tabulate}
use Rattle.sweeps.specs.Sweeps.{SweepCase, score}
use Rattle.sweeps.specs.Inner.Sweeps.{GoodHaps}
use Rattle.sweeps.specs.Inner.Incremental.{allele_sum}
use Rattle.call_genotypes.specs.declared.score.Mixes.{Mixes}
use Rattle.pileup.specs.Inner.Packed.{RowIn, RowsIn}
use Rattle.likelihoods.specs.Inner.Held.{SweepReads, Held, Liks}

-- ln(1 + exp(d)), in steps
abbrev pub one_plus : ℤ → ℤ
one_plus d = add_exp d (pos 0)

-- the four numbers of a call with the gap g, whose read's first likelihood without it is d above the second: ln(1 + exp(..)) of that distance if
-- the first haplotype alone has the call's allele (0), if the second alone has it (1), and if neither or both have it (3); and the gap (2)
unfoldable pub mix_value : ℤ → ℤ → ℕ → ℤ
mix_value d g zero = one_plus (d +ℤ g)
mix_value d g (suc zero) = one_plus (d -ℤ g)
mix_value d g (suc (suc zero)) = g
mix_value d g (suc (suc (suc w))) = one_plus d

-- a struct's four numbers by number
unfoldable pub value_of : Mixes → ℕ → ℤ
value_of r zero = r.first
value_of r (suc zero) = r.second
value_of r (suc (suc zero)) = r.gap
value_of r (suc (suc (suc w))) = r.neither

-- four zeros
abbrev pub no_mixes : Mixes
no_mixes = record { first = pos 0; second = pos 0; gap = pos 0; neither = pos 0 }

-- d is so far from 0 that ln(1 + exp(..)) is straight at d and at every distance up to 262,144, the largest gap, from it: A is 0 from 51,328 on
unfoldable pub is_far : ℤ → Bool
is_far d = lt_z d (neg_ℤ (pos 313472)) || lt_z (pos 313472) d

-- how far a row's one_minus_qual is above its qual
abbrev pub row_gap : Row → ℤ
row_gap row = row.call.one_minus_qual -ℤ row.call.qual

-- a row's number w, where lik has the likelihoods that stand, and taking away the own terms of a call of allele x moves their distance by
-- turns[x] gaps
unfoldable pub row_mixes : List ℤ → List ℤ → Row → ℕ → ℤ
row_mixes turns lik row w =
    mix_value ((get_or lik (2 * row.fragment) (pos 0) -ℤ get_or lik (2 * row.fragment + 1) (pos 0)) +ℤ (get_or turns row.call.allele (pos 0) *ℤ row_gap row)) (row_gap row) w

-- [x = g1] − [x = g0] at a phased variant that is at (g0, g1); 0 at an unphased one, whose calls are not in the likelihoods that stand
unfoldable pub turn : Bool → ℕ → ℕ → ℕ → ℤ
turn phased g0 g1 x = cond phased (cond (eqb x g1) (pos 1) (pos 0) -ℤ cond (eqb x g0) (pos 1) (pos 0)) (pos 0)

-- lik has the two likelihoods of the row's fragment, and the row's parts have their ranges
abbrev pub RowFits : List ℤ → Row → Type 0
RowFits lik row = RowIn 1024 (length lik / 2) row

-- the same of the rows at a..e
abbrev pub PileFits : List ℤ → List ℕ → ℕ → ℕ → Type 0
PileFits lik piles a e = RowsIn 1024 (length lik / 2) piles a e

-- value w of the sums of allele x
abbrev pub sums_at : List Mixes → ℕ → ℕ → ℤ
sums_at of x w = value_of (get_or of x no_mixes) w

-- no sum is further from 0 than n
abbrev pub SumsWithin : ℕ → List Mixes → Type 0
SumsWithin n of = (x w : ℕ) → nat_abs (sums_at of x w) ≤ n

-- they are the sums over the rows of each allele
pub record AlleleSums (value : Row → ℕ → ℤ) (rows : List Row) (of : List Mixes) : Type 0 where
  pub sums : (x w : ℕ) → x < 3 → w < 4 → sums_at of x w ≡ allele_sum value rows x w
  pub small : SumsWithin (2 ^ 50) of

-- how far a score rises, by an allele's four numbers, over the one where neither haplotype has that allele: if the first has it (0), if the
-- second has it (1), if both have it (2)
unfoldable pub rise_of : (ℕ → ℤ) → ℕ → ℤ
rise_of m zero = m 0 -ℤ m 3
rise_of m (suc zero) = (m 1 -ℤ m 3) +ℤ m 2
rise_of m (suc (suc w)) = m 2

-- the same of the pair (i, j)
abbrev pub pair_rise : List Mixes → ℕ → ℕ → ℤ
pair_rise of i j = cond (eqb i j) (rise_of (sums_at of i) 2) (rise_of (sums_at of i) 0 +ℤ rise_of (sums_at of j) 1)

-- what brings the score of v's first pair to 0
abbrev pub below_first : List ℤ → List Mixes → ℕ → ℤ
below_first pri of v = pos 0 -ℤ (get_or pri (9 * v) (pos 0) +ℤ sums_at of 0 2)

-- the scores of the k × k pairs at v, in row-major order, with `base` in place of what neither haplotype's allele changes
abbrev pub scores_of : List ℤ → List Mixes → ℤ → ℕ → ℕ → List ℤ
scores_of pri of base v k = tabulate (k * k) (λ p. (get_or pri (9 * v + p) (pos 0) +ℤ base) +ℤ pair_rise of (p / k) (p % k))

-- room for the nine priors and the nine scores of v
pub record ScoresRoom (pri post : List ℤ) (v k : ℕ) : Type 0 where
  pub v_top : v < 1024
  pub k_least : 1 ≤ k
  pub k_top : k ≤ 3
  pub pri_long : 9 * v + 9 ≤ length pri
  pub post_long : 9 * v + 9 ≤ length post
  pub pri_small : (p : ℕ) → p < k * k → nat_abs (get_or pri (9 * v + p) (pos 0)) ≤ 2 ^ 21

-- ---- what stands, and the scores of a variant
-- there is a case of which P holds
pub record Some (P : SweepCase → Type 0) : Type 0 where
  pub case : SweepCase
  pub holds : P case

-- what the sweeps change: the haplotypes, the likelihoods, and each variant's latest scores
pub record SweepState : Type 0 where
  pub hap : List ℕ
  pub lik : List ℤ
  pub post : List ℤ

abbrev pub sweep_state : List ℕ → List ℤ → List ℤ → SweepState
sweep_state hap lik post = record { hap = hap; lik = lik; post = post }

-- what stands before sweeps and visits: the slices hold C, the likelihoods are those of the haplotypes, and there is room for the scores
pub record Standing (C : SweepCase) (reads : SweepReads) (state : SweepState) : Type 0 where
  pub held : Held C reads
  pub haps : GoodHaps C state.hap
  pub liks : Liks C state.hap state.lik
  pub room : 9 * C.n ≤ length state.post

-- what stands before a visit of v
pub record VisitStart (C : SweepCase) (reads : SweepReads) (state : SweepState) (v : ℕ) : Type 0 where
  pub standing : Standing C reads state
  pub v_in : v < C.n

-- the scores' table as it is recorded at a visit: how far each of the k × k scores is above the first. Normalising takes a common part away
abbrev pub over_first : ℕ → (ℕ → ℤ) → List ℤ
over_first k s = tabulate (k * k) (λ p. s p -ℤ s 0)

-- the latest scores with those of v's pairs
abbrev pub scored_at : SweepCase → ℕ → SweepState → List ℤ
scored_at C v state = sets state.post (9 * v) (over_first (C.k v) (score C v state.hap))

-- the scores of v's pairs are written, whatever case stands
abbrev pub Scored : SweepReads → SweepState → ℕ → List ℤ → Type 0
Scored reads before v post' = (C : SweepCase) → VisitStart C reads before v → post' ≡ scored_at C v before
