-- 01, section 4, as the code goes about it: what one pass over a variant's calls adds up, and the scores from that. With Q the sum of qual,
-- the score of (i, i) adds Q and the gains of i where both alleles match, that of i ≠ j adds Q and the gains of i and of j where one does.
-- Assumes nothing.
use Rattle.std.specs.Prelude.{◌≡◌, Bool, cond, ◌&&◌, List, [], ℕ, ◌+◌, ◌*◌, ◌/◌, ◌%◌, ◌^◌, ◌≤◌, ◌<◌, eqb, ltb, ℤ, pos, nat_abs, ◌+ℤ◌, ◌-ℤ◌, length, get_or, set}
use Rattle.variants_and_fragments.specs.declared.Sizes.{Sizes}
use Rattle.variants_and_fragments.specs.Case.{Call, direction}
use Rattle.variants_and_fragments.specs.Decode.{tabulate}
use Rattle.variants_and_fragments.specs.Layout.{strand_at, allele_count_at}
use Rattle.variants_and_fragments.specs.Pileup.{Row, only}
use Rattle.variants_and_fragments.specs.Sums.{sum_over}
use Rattle.genotype_probs.specs.Posteriors.{normalized}
use Rattle.no_haplotypes.specs.declared.tally.Gain.{Gain}
use Rattle.no_haplotypes.specs.declared.tally.Tally.{Tally}
use Rattle.no_haplotypes.specs.NoHaplotypes.{call_score}
use Rattle.steps.specs.Logs.{mix_of}

-- ---- one pass over the calls
abbrev pub row_qual : Row → ℤ
row_qual row = row.call.qual

-- what a call gains on qual where both alleles of the pair match it, and where one does
abbrev pub both_gain : Call → ℤ
both_gain call = call.one_minus_qual -ℤ call.qual

abbrev pub one_gain : Call → ℤ
one_gain call = mix_of call.qual call.one_minus_qual -ℤ call.qual

-- the same of a row, where it shows allele x
unfoldable pub gain_at : (Call → ℤ) → ℕ → Row → ℤ
gain_at gain x row = cond (eqb row.call.allele x) (gain row.call) (pos 0)

-- a row shows allele x on a strand, 0 forward or 1 reverse
abbrev pub shown_on : List ℤ → Sizes → ℕ → ℕ → Row → Bool
shown_on w s strand x row = eqb (direction (strand_at w s row.fragment)) strand && eqb row.call.allele x

-- what a tally says of allele x: its gain, and the calls that show it on a strand
abbrev pub no_gain : Gain
no_gain = record { both = pos 0; one = pos 0 }

abbrev pub gain_of : Tally → ℕ → Gain
gain_of t x = get_or t.gains x no_gain

abbrev pub count_of : List (List ℕ) → ℕ → ℕ → ℕ
count_of counts strand x = get_or (get_or counts x []) strand 0

-- none of the counts is near the end of its type
pub record CountsIn (counts : List (List ℕ)) : Type 0 where
  pub few : (strand x : ℕ) → strand < 2 → x < 3 → count_of counts strand x ≤ 16384

-- no sum is near the end of its type
pub record SumsIn (t : Tally) : Type 0 where
  pub total_small : nat_abs t.total.0 ≤ 2 ^ 34
  pub both_small : (x : ℕ) → x < 3 → nat_abs (gain_of t x).both ≤ 2 ^ 34
  pub one_small : (x : ℕ) → x < 3 → nat_abs (gain_of t x).one ≤ 2 ^ 34
  pub counts_few : (strand x : ℕ) → strand < 2 → x < 3 → count_of t.counts strand x ≤ 16384

-- a call's gains added
abbrev pub gain_with : Gain → Call → Gain
gain_with gain call = record { both = gain.both +ℤ both_gain call; one = gain.one +ℤ one_gain call }

-- one more call of allele x counted on a strand
abbrev pub counted : List (List ℕ) → ℕ → ℕ → List (List ℕ)
counted counts strand x = set counts x (set (get_or counts x []) strand (count_of counts strand x + 1))

-- one call added
pub record CallAdded (w : List ℤ) (s : Sizes) (row : Row) (before after : Tally) : Type 0 where
  pub total_is : after.total.0 ≡ before.total.0 +ℤ row.call.qual
  pub gains_are : after.gains ≡ set before.gains row.call.allele (gain_with (gain_of before row.call.allele) row.call)
  pub counts_are : after.counts ≡ counted before.counts (direction (strand_at w s row.fragment)) row.call.allele

-- the calls of these rows added
pub record Tallied (w : List ℤ) (s : Sizes) (rows : List Row) (t : Tally) : Type 0 where
  pub gains_long : length t.gains ≡ 3
  pub counts_long : length t.counts ≡ 3
  pub strands_long : (x : ℕ) → x < 3 → length (get_or t.counts x []) ≡ 2
  pub total_is : t.total.0 ≡ sum_over rows row_qual
  pub both_are : (x : ℕ) → x < 3 → (gain_of t x).both ≡ sum_over rows (gain_at both_gain x)
  pub one_are : (x : ℕ) → x < 3 → (gain_of t x).one ≡ sum_over rows (gain_at one_gain x)
  pub counts_are : (strand x : ℕ) → strand < 2 → x < 3 → count_of t.counts strand x ≡ length (only (shown_on w s strand x) rows)

-- ---- the scores

-- what the calls add to the prior of the pair (i, j)
unfoldable pub pair_gain : Tally → ℕ → ℕ → ℤ
pair_gain t i j =
    cond (eqb i j) (t.total.0 +ℤ (gain_of t i).both) (t.total.0 +ℤ (gain_of t i).one +ℤ (gain_of t j).one)

-- the nine priors of a variant, small enough to add that
pub record NinePriors (priors : List ℤ) : Type 0 where
  pub size : length priors ≡ 9
  pub small : (p : ℕ) → p < 9 → nat_abs (get_or priors p (pos 0)) ≤ 2 ^ 34

-- what the calls add to each of its k × k priors, added
abbrev pub Scored : Tally → ℕ → List ℤ → List ℤ → Type 0
Scored t k priors scores = (p : ℕ) → p < k * k → get_or scores p (pos 0) ≡ get_or priors p (pos 0) +ℤ pair_gain t (p / k) (p % k)

-- place p of a variant's scores, from its priors and the rows at it
unfoldable pub scored_from : List ℤ → ℕ → List Row → ℕ → ℤ
scored_from priors k rows p =
    cond (ltb p (k * k)) (get_or priors p (pos 0) +ℤ sum_over rows (λ row. call_score (p / k) (p % k) row.call)) (pos 0)

-- the posteriors of a variant with k alleles and these rows, from its priors
unfoldable pub posteriors_from : List ℤ → ℕ → List Row → List ℤ
posteriors_from priors k rows = tabulate 9 (normalized (tabulate 9 (scored_from priors k rows)) k)

-- The nine places of v hold its posteriors by these rows, and small numbers, and the tally is what the rows add up to
pub record PosteriorsMade (w : List ℤ) (s : Sizes) (rows : List Row) (v : ℕ) (before after : List ℤ) (t : Tally) : Type 0 where
  pub here : after ≡ posteriors_from before (allele_count_at w v) rows
  pub small : (p : ℕ) → p < 9 → nat_abs (get_or after p (pos 0)) ≤ 2 ^ 40
  pub tallied : Tallied w s rows t
  pub sums_in : SumsIn t
