-- The posteriors of a variant from its nine priors and what its calls add up to: what the places hold after scoring, and after normalising.
-- Assumes nothing.
use Rattle.std.proofs.Common.{◌≡◌, Bool, true, false, cond, List, ℕ, ◌*◌, ◌/◌, ◌%◌, ◌^◌, ◌≤◌, ◌<◌, eqb, ℤ, pos, nat_abs, ◌+ℤ◌, length, get_or, refl, sym, ap, ◌∙◌, arith, lt-ltb}
use lib.IntN.{+ℤ_idr}
use Rattle.steps.proofs.Signed.{add_abs}
use Rattle.variants_and_fragments.specs.declared.Sizes.{Sizes}
use Rattle.variants_and_fragments.specs.Decode.{tabulate}
use Rattle.variants_and_fragments.specs.Pileup.{Row}
use Rattle.variants_and_fragments.proofs.Decoded.{tabulate_length, tabulate_at}
use Rattle.genotype_probs.specs.Posteriors.{normalized}
use Rattle.genotype_probs.specs.Inner.Posteriors.{TableIn}
use Rattle.genotype_probs.proofs.AlleleLaws.{nine}
use Rattle.genotype_probs.proofs.TableSums.{pair_in, normalized_same, tabulate_cong}
use Rattle.genotype_probs.proofs.TableSizes.{normal_size}
use Rattle.no_haplotypes.specs.declared.tally.Tally.{Tally}
use Rattle.no_haplotypes.specs.Inner.Tally.{SumsIn, Tallied, pair_gain, NinePriors, scored_from, posteriors_from}
use Rattle.no_haplotypes.proofs.ScoreLaws.{pair_is}

pair_small : (t : Bool) (a b c d : ℤ) → nat_abs a ≤ 2 ^ 34 → nat_abs b ≤ 2 ^ 34 → nat_abs c ≤ 2 ^ 34 → nat_abs d ≤ 2 ^ 34 → nat_abs (cond t (a +ℤ b) (a +ℤ c +ℤ d)) ≤ 3 * 2 ^ 34
pair_small true a b c d h i j k = omega (arith, add_abs a b)
pair_small false a b c d h i j k = omega (arith, add_abs (a +ℤ c) d, add_abs a c)

pub gain_small : {t : Tally} → SumsIn t → (i j : ℕ) → i < 3 → j < 3 → nat_abs (pair_gain t i j) ≤ 3 * 2 ^ 34
unfolding pair_gain
gain_small {t} sums i j h l =
    pair_small (eqb i j) t.total.0 _ _ _ sums.total_small (sums.both_small i h) (sums.one_small i h) (sums.one_small j l)

-- ---- scored
module _ {priors : List ℤ} (scored : List ℤ) {k : ℕ} {t : Tally} (low : 1 ≤ k) (top : k ≤ 3) (nine_in : NinePriors priors) (sums : SumsIn t) (size : length scored ≡ 9) (e : (p : ℕ) → p < k * k → get_or scored p (pos 0) ≡ get_or priors p (pos 0) +ℤ pair_gain t (p / k) (p % k)) where
  score_small : (p : ℕ) → p < k * k → nat_abs (get_or scored p (pos 0)) ≤ 2 ^ 36
  score_small p h =
      let q = pair_in k p low h in
      omega (arith, ap nat_abs (e p h), add_abs (get_or priors p (pos 0)) (pair_gain t (p / k) (p % k)), nine_in.small p (omega (arith, nine k top)), gain_small sums (p / k) (p % k) (omega (arith, q.0)) (omega (arith, q.1)))

  pub scored_table : TableIn scored k
  scored_table = record { k_low = low; k_high = top; size = size; small = λ p h. omega (arith, score_small p h) }

  -- ---- and normalized
  module _ {post : List ℤ} (f : post ≡ tabulate 9 (normalized scored k)) where
    pub posteriors_small : (p : ℕ) → p < 9 → nat_abs (get_or post p (pos 0)) ≤ 2 ^ 40
    posteriors_small p h =
        omega (arith, ap (λ (l : List ℤ). nat_abs (get_or l p (pos 0))) f, ap nat_abs (tabulate_at 9 (normalized scored k) p (pos 0) h), normal_size (2 ^ 36) scored k top score_small p)

    pub posteriors_table : TableIn post k
    posteriors_table = record {
      k_low = low;
      k_high = top;
      size = ap length f ∙ tabulate_length 9 (normalized scored k);
      small = λ p h. posteriors_small p (omega (arith, nine k top));
    }

    pub posteriors_are : {w : List ℤ} {s : Sizes} {rows : List Row} → Tallied w s rows t → post ≡ posteriors_from priors k rows
    unfolding posteriors_from scored_from
    posteriors_are {rows = rows} made =
        let scores = tabulate 9 (scored_from priors k rows) in
        f
        ∙ tabulate_cong 9 (normalized scored k) (normalized scores k)
        (λ p _. normalized_same (pos 0) scored scores k low
        (λ q l. let r = pair_in k q low l in
        e q l
        ∙ ap (λ (z : ℤ). get_or priors q (pos 0) +ℤ z) (pair_is made (q / k) (q % k) (omega (arith, r.0)) (omega (arith, r.1)))
        ∙ sym (tabulate_at 9 (scored_from priors k rows) q (pos 0) (omega (arith, nine k top)) ∙ rw (lt-ltb q (k * k) l) refl)
        ∙ sym (+ℤ_idr (get_or scores q (pos 0)))) p)
