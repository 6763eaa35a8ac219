-- One variant called: the words that the counts over its calls make, its depth, and its answer from its posteriors.
-- Assumes nothing.
use Rattle.std.proofs.Common.{◌≡◌, cond, ◌&&◌, List, map, ℕ, ◌+◌, ◌<◌, eqb, ltb, ℤ, pos, length, get_or, max, refl, ap, ◌∙◌, arith, lt-ltb, le-ltb}
use Rattle.std.proofs.lemmas.List.{length-map}
use Rattle.steps.proofs.Signed.{cases}
use Rattle.variants_and_fragments.specs.declared.Sizes.{Sizes}
use Rattle.variants_and_fragments.specs.Inner.Accepted.{CaseIn}
use Rattle.variants_and_fragments.specs.Inner.Case.{All}
use Rattle.variants_and_fragments.specs.Decode.{tabulate_from, tabulate, decode}
use Rattle.variants_and_fragments.specs.Layout.{allele_count_at, depth_at}
use Rattle.variants_and_fragments.specs.Pileup.{Row, only, pile_of}
use Rattle.variants_and_fragments.proofs.Alls.{all_imp}
use Rattle.variants_and_fragments.proofs.Decoded.{strand_is, dp_is}
use Rattle.genotype_probs.specs.declared.posteriors.Genotype.{Genotype}
use Rattle.genotype_probs.specs.Posteriors.{genotype_of}
use Rattle.genotype_probs.proofs.TableSums.{tabulate_cong}
use Rattle.pileup.specs.Inner.Packed.{unpacked}
use Rattle.no_haplotypes.specs.declared.tally.Tally.{Tally}
use Rattle.no_haplotypes.specs.NoHaplotypes.{row_strand, called_from, strand_calls, calls_at, depth_after, answer_from}
use Rattle.no_haplotypes.specs.Inner.Piles.{CallsHeld}
use Rattle.no_haplotypes.specs.Inner.Tally.{shown_on, count_of, Tallied, scored_from, posteriors_from}
use Rattle.no_haplotypes.specs.Inner.Calling.{answer_values, made_from}
use Rattle.no_haplotypes.proofs.CountLaws.{only_same, all_calls, forward_reverse}
use Rattle.no_haplotypes.proofs.TallyLaws.{all_in, rows_held}

listed : (g : Genotype) (counts : List (List ℕ)) (ambiguous depth : ℕ) → map pos (answer_values g counts ambiguous depth) ≡ tabulate 13 (λ p. pos (get_or (answer_values g counts ambiguous depth) p 0))
unfolding answer_values tabulate_from
listed g counts ambiguous depth = refl

-- ---- a variant's calls: their counts, and the words that they make
module _ {w : List ℤ} {s : Sizes} {v : ℕ} {words : List ℕ} {ambiguous : ℕ} (accepted : CaseIn w s) (held : CallsHeld w s v words ambiguous) (b : List ℕ) where
  abbrev rows : List Row
  rows = map unpacked words

  shown_alike : (strand x : ℕ) → All (λ row. shown_on w s strand x row ≡ (eqb (row_strand (decode w b) row) strand && eqb row.call.allele x)) rows
  shown_alike strand x = all_imp (λ row i. rw (strand_is accepted b row.fragment i.fragment_in)) (all_in (rows_held held))

  shown_same : (strand x : ℕ) → length (only (shown_on w s strand x) rows) ≡ strand_calls (decode w b) v strand x
  unfolding strand_calls
  shown_same strand x = rw (← held.rows_are b) (ap length (only_same (shown_alike strand x)))

  calls_is : length words + ambiguous ≡ calls_at (decode w b) v
  calls_is = omega (arith, length-map words unpacked, ap length (held.rows_are b), held.ambiguous_is b, all_calls (decode w b) v)

  larger : (m n : ℕ) → max m n ≡ cond (ltb m n) n m
  larger m n = cases m n (λ h. rw (lt-ltb m n h) (omega arith)) (λ h. rw (le-ltb m n h) (omega arith))

  -- the larger of dp and all calls
  pub depth_is : max (depth_at w v) (length words + ambiguous) ≡ depth_after (decode w b) v
  unfolding depth_after
  depth_is = rw (calls_is, dp_is accepted b v held.variant_in) (larger (depth_at w v) (calls_at (decode w b) v))

  module _ {t : Tally} (made : Tallied w s rows t) where
    counted : (strand x : ℕ) → strand < 2 → x < 3 → count_of t.counts strand x ≡ strand_calls (decode w b) v strand x
    counted strand x l h = made.counts_are strand x l h ∙ shown_same strand x

    word_is : (g : Genotype) (post : List ℤ) (k : ℕ) → g ≡ genotype_of k (called_from post k) → (p : ℕ) → pos (get_or (answer_values g t.counts ambiguous (depth_after (decode w b) v)) p 0) ≡ answer_from post k (decode w b) v p
    unfolding answer_values answer_from
    word_is g post k q p =
        let sum = forward_reverse (decode w b) v in
        let f0 : count_of t.counts 0 0 ≡ strand_calls (decode w b) v 0 0 = counted 0 0 (omega arith) (omega arith) in
        let f1 : count_of t.counts 0 1 ≡ strand_calls (decode w b) v 0 1 = counted 0 1 (omega arith) (omega arith) in
        let f2 : count_of t.counts 0 2 ≡ strand_calls (decode w b) v 0 2 = counted 0 2 (omega arith) (omega arith) in
        let r0 : count_of t.counts 1 0 ≡ strand_calls (decode w b) v 1 0 = counted 1 0 (omega arith) (omega arith) in
        let r1 : count_of t.counts 1 1 ≡ strand_calls (decode w b) v 1 1 = counted 1 1 (omega arith) (omega arith) in
        let r2 : count_of t.counts 1 2 ≡ strand_calls (decode w b) v 1 2 = counted 1 2 (omega arith) (omega arith) in
        cc (held.ambiguous_is b, sum 0, sum 1, sum 2, ap (λ (x : Genotype). x.0) q, ap (λ (x : Genotype). x.1) q)

    pub words_are : (g : Genotype) (post : List ℤ) (k : ℕ) → g ≡ genotype_of k (called_from post k) → map pos (answer_values g t.counts ambiguous (depth_after (decode w b) v)) ≡ tabulate 13 (answer_from post k (decode w b) v)
    words_are g post k q =
        let depth = depth_after (decode w b) v in
        listed g t.counts ambiguous depth
        ∙ tabulate_cong 13 (λ p. pos (get_or (answer_values g t.counts ambiguous depth) p 0)) (answer_from post k (decode w b) v) (λ p _. word_is g post k q p)

-- ---- the posteriors that are made go by the nine priors
module _ (w : List ℤ) (priors other : List ℤ) (b : List ℕ) (v : ℕ) (same : (p : ℕ) → p < 9 → get_or priors p (pos 0) ≡ get_or other p (pos 0)) where
  pub made_same : made_from w priors b v ≡ made_from w other b v
  unfolding posteriors_from scored_from
  made_same = rw (tabulate_cong 9 (scored_from priors (allele_count_at w v) (pile_of (decode w b) v)) (scored_from other (allele_count_at w v) (pile_of (decode w b) v)) (λ p h. rw (same p h) refl))
