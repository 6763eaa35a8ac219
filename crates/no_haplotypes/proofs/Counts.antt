-- Section 4's sentence on the counts, of every accepted case: of the 13 words of each variant, and of what the operation writes.
-- Assumes nothing.
use mathlib.Core.Path.{◌≡◌, refl, sym, ap, ◌∙◌}
use mathlib.Core.List.{List}
use Prim.Native.Nat.{ℕ, zero, suc, ◌+◌, ◌*◌, ◌/◌, ◌%◌, ◌≤◌, ◌<◌}
use native.Mathlib.Omega.{arith}
use lib.IntN.{ℤ, pos, ◌+ℤ◌}
use lib.ListN.{length, get_or}
use Rattle.variants_and_fragments.specs.declared.Sizes.{Sizes}
use Rattle.variants_and_fragments.specs.Case.{Case}
use Rattle.variants_and_fragments.specs.Inner.Case.{GoodCase}
use Rattle.variants_and_fragments.specs.Check.{check_case_outcome}
use Rattle.variants_and_fragments.specs.Decode.{decode}
use Rattle.variants_and_fragments.specs.Refusals.{done, afterwards}
use Rattle.variants_and_fragments.specs.Written.{written}
use Rattle.variants_and_fragments.proofs.Accepted.{case_in}
use Rattle.variants_and_fragments.proofs.Decoded.{variants_are}
use Rattle.variants_and_fragments.proofs.GoodCases.{good_case}
use Rattle.variants_and_fragments.proofs.Outcomes.{then_past, each_past, enough_past}
use Rattle.variants_and_fragments.proofs.Short.{short_fits}
use Rattle.variants_and_fragments.proofs.Written.{written_at}
use Rattle.genotype_probs.specs.declared.Rates.{Rates}
use Rattle.no_haplotypes.specs.NoHaplotypes.{allele_calls, strand_calls, calls_at, answer_from, count_word, forward_word, reverse_word, ambiguous_word, CountsAddUp, variant_answer, answer_at, CallSlices, call_genotypes_no_haplotypes_outcome, call_genotypes_no_haplotypes_written, CalledNoHaplotypes}
use Rattle.no_haplotypes.proofs.CountLaws.{forward_reverse, counts_ambiguous, absent_none}

-- ---- the words of a variant, whatever its posteriors
module _ (post : List ℤ) (k : ℕ) (case : Case) (v : ℕ) where
  abbrev word : ℕ → ℤ
  word = answer_from post k case v

  count_word_lem : (x : ℕ) → x < 3 → word (count_word x) ≡ pos (allele_calls case v x)
  unfolding answer_from
  count_word_lem zero h = refl
  count_word_lem (suc zero) h = refl
  count_word_lem (suc (suc zero)) h = refl
  count_word_lem (suc (suc (suc x))) h = absurd (omega arith)

  forward_word_lem : (x : ℕ) → x < 3 → word (forward_word x) ≡ pos (strand_calls case v 0 x)
  unfolding answer_from
  forward_word_lem zero h = refl
  forward_word_lem (suc zero) h = refl
  forward_word_lem (suc (suc zero)) h = refl
  forward_word_lem (suc (suc (suc x))) h = absurd (omega arith)

  reverse_word_lem : (x : ℕ) → x < 3 → word (reverse_word x) ≡ pos (strand_calls case v 1 x)
  unfolding answer_from
  reverse_word_lem zero h = refl
  reverse_word_lem (suc zero) h = refl
  reverse_word_lem (suc (suc zero)) h = refl
  reverse_word_lem (suc (suc (suc x))) h = absurd (omega arith)

  all_words : GoodCase case → word (count_word 0) +ℤ word (count_word 1) +ℤ word (count_word 2) +ℤ word ambiguous_word ≡ pos (calls_at case v)
  unfolding answer_from
  all_words good = ap pos (counts_ambiguous good v)

  words_add_up : GoodCase case → CountsAddUp case v word
  words_add_up good = record {
    calls = all_words good;
    strands = λ x h. rw (forward_word_lem x h, reverse_word_lem x h, count_word_lem x h) (ap pos (forward_reverse case v x));
    absent = λ x h l. rw (count_word_lem x h) (ap pos (absent_none good v x l));
  }

-- other words that are the same
same_words : {case : Case} {v : ℕ} (f g : ℕ → ℤ) → ((p : ℕ) → p < 13 → g p ≡ f p) → CountsAddUp case v f → CountsAddUp case v g
same_words f g e c = record {
  calls = rw (e 2 (omega arith), e 3 (omega arith), e 4 (omega arith), e 11 (omega arith)) c.calls;
  strands = λ x h. rw (e (forward_word x) (omega arith), e (reverse_word x) (omega arith), e (count_word x) (omega arith)) (c.strands x h);
  absent = λ x h l. rw (e (count_word x) (omega arith)) (c.absent x h l);
}

-- ---- of every accepted case, at any rates
pub answers_add_up : (w : List ℤ) (b : List ℕ) (s : Sizes) → check_case_outcome w b ≡ done s → (rates : Rates) (v : ℕ) → CountsAddUp (decode w b) v (variant_answer rates (decode w b) v)
unfolding variant_answer
answers_add_up w b s h rates v = words_add_up _ _ (decode w b) v (good_case w b s h)

-- ---- of what the operation writes where it is done
-- the case is accepted, and there is room for the answers
record Room (w : List ℤ) (b : List ℕ) (variants : List ℤ) : Type 0 where
  sizes : Sizes
  accepted : check_case_outcome w b ≡ done sizes
  long : 13 * sizes.n ≤ length variants

called_room : (w : List ℤ) (b : List ℕ) (rates : Rates) (before : CallSlices) → call_genotypes_no_haplotypes_outcome w b rates before ≡ done tt → Room w b before.variants
unfolding call_genotypes_no_haplotypes_outcome
called_room w b rates before e =
    let c = then_past (check_case_outcome w b) _ tt e in
    let x = each_past 6 _ 0 7 _ tt c.1.1 in
    let y = enough_past _ _ tt x.1 in
    record { sizes = c.0; accepted = c.1.0; long = (short_fits _ _ _ y.0).0 }

module _ (w : List ℤ) (b : List ℕ) (rates : Rates) (before after : CallSlices) (called : CalledNoHaplotypes w b rates before (done tt) after) where
  written_word : Room w b before.variants → (v : ℕ) → v < length (decode w b).variants → (p : ℕ) → p < 13 → get_or after.variants (13 * v + p) (pos 0) ≡ variant_answer rates (decode w b) v p
  unfolding afterwards call_genotypes_no_haplotypes_written answer_at
  written_word room v h p l =
      let n = variants_are (case_in w b room.sizes room.accepted) b in
      let e : after.variants ≡ written (answer_at rates (decode w b)) (13 * length (decode w b).variants) before.variants = ap (λ (x : CallSlices). x.variants) called.slices in
      let q : (13 * v + p) / 13 ≡ v = omega arith in
      let r : (13 * v + p) % 13 ≡ p = omega arith in
      rw e (written_at (answer_at rates (decode w b)) (13 * length (decode w b).variants) before.variants (pos 0) (omega (arith, room.long)) (13 * v + p) (omega arith) ∙ rw (q, r))

  pub written_add_up : (v : ℕ) → v < length (decode w b).variants → CountsAddUp (decode w b) v (λ p. get_or after.variants (13 * v + p) (pos 0))
  written_add_up v h =
      let room = called_room w b rates before (sym called.answers) in
      same_words (variant_answer rates (decode w b) v) (λ p. get_or after.variants (13 * v + p) (pos 0)) (written_word room v h) (answers_add_up w b room.sizes room.accepted rates v)
