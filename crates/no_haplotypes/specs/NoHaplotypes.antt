-- 01, section 4, as amended by requests 4 and 5: calling genotypes without haplotypes.
-- Assumes nothing.
use Rattle.std.specs.Prelude.{◌≡◌, false, cond, ◌&&◌, ◌||◌, List, [], ◌∷◌, ℕ, ◌+◌, ◌*◌, ◌/◌, ◌%◌, ◌≤◌, ◌<◌, eqb, ltb, ℤ, pos, ◌+ℤ◌, Float, length, get_or}
use Rattle.steps.specs.Logs.{mix_of}
use Rattle.variants_and_fragments.specs.Sums.{sum_over, count_over}
use Rattle.variants_and_fragments.specs.Case.{Case, Call, allele_count, direction, variant_of, fragment_of}
use Rattle.variants_and_fragments.specs.Refusals.{Outcome, done, and_then, each, long_enough, Promise}
use Rattle.variants_and_fragments.specs.Check.{check_case_outcome}
use Rattle.variants_and_fragments.specs.Decode.{tabulate, decode}
use Rattle.variants_and_fragments.specs.Pileup.{Row, only, pile_of, ambiguous_count}
use Rattle.variants_and_fragments.specs.Written.{written}
use Rattle.genotype_probs.specs.declared.Rates.{Rates}
use Rattle.genotype_probs.specs.Rates.{rate_test}
use Rattle.genotype_probs.specs.Priors.{get_prior}
use Rattle.genotype_probs.specs.Posteriors.{normalized, max_genotype, genotype_of, qual_of, gq_of}
use Rattle.genotype_probs.specs.Normalized.{is_normal}

-- ---- scores and posteriors

-- per pair (i, j) and usable call: both equal the call, one_minus_qual; neither, qual; one, the two mixed
unfoldable pub call_score : ℕ → ℕ → Call → ℤ
call_score i j call =
    cond (eqb call.allele i && eqb call.allele j)
    call.one_minus_qual
    (cond (eqb call.allele i || eqb call.allele j) (mix_of call.qual call.one_minus_qual) call.qual)

module _ (rates : Rates) (case : Case) (v : ℕ) where
  -- the score of a pair: its prior plus these over the usable calls at v
  unfoldable pub pair_score : ℕ → ℕ → ℤ
  pair_score i j = get_prior rates (variant_of case v) i j +ℤ sum_over (pile_of case v) (λ row. call_score i j row.call)

  -- the scores of v: k × k row-major, then zeros to nine
  unfoldable pub score_at : ℕ → ℤ
  score_at p = let k = allele_count (variant_of case v) in cond (ltb p (k * k)) (pair_score (p / k) (p % k)) (pos 0)

  -- its posteriors: the scores, normalised
  unfoldable pub posteriors : List ℤ
  posteriors = tabulate 9 (normalized (tabulate 9 score_at) (allele_count (variant_of case v)))

-- the called pair, by its row-major number: the first maximum, unphased
unfoldable pub called_from : List ℤ → ℕ → ℕ
called_from post k = max_genotype false post k

-- its quality
unfoldable pub gq_from : List ℤ → ℕ → Float
gq_from post k = gq_of post k (called_from post k)

-- ---- counts

-- the strand of a row's fragment, 0 forward or 1 reverse
abbrev pub row_strand : Case → Row → ℕ
row_strand case row = direction (fragment_of case row.fragment).strand

module _ (case : Case) (v : ℕ) where
  -- the usable calls at v that show allele x; none where it is absent
  unfoldable pub allele_calls : ℕ → ℕ
  allele_calls x = length (only (λ (row : Row). eqb row.call.allele x) (pile_of case v))

  -- those of them on a strand: 0 forward, 1 reverse
  unfoldable pub strand_calls : ℕ → ℕ → ℕ
  strand_calls strand x = length (only (λ (row : Row). eqb (row_strand case row) strand && eqb row.call.allele x) (pile_of case v))

  -- all calls at v, usable and ambiguous
  unfoldable pub calls_at : ℕ
  calls_at = count_over case.fragments (λ fragment. length (only (λ (call : Call). eqb call.variant v) fragment.calls))

  -- the larger of dp and all calls
  unfoldable pub depth_after : ℕ
  depth_after = let dp = (variant_of case v).dp in cond (ltb dp calls_at) calls_at dp

-- the 13 words of v: genotype, counts, forward and reverse counts, ambiguous count, depth
unfoldable pub answer_from : List ℤ → ℕ → Case → ℕ → ℕ → ℤ
answer_from post k case v p =
    let g = genotype_of k (called_from post k) in
    pos (get_or (
    g.0 ∷ g.1
    ∷ allele_calls case v 0 ∷ allele_calls case v 1 ∷ allele_calls case v 2
    ∷ strand_calls case v 0 0 ∷ strand_calls case v 0 1 ∷ strand_calls case v 0 2
    ∷ strand_calls case v 1 0 ∷ strand_calls case v 1 1 ∷ strand_calls case v 1 2
    ∷ ambiguous_count case v ∷ depth_after case v ∷ []) p 0)

-- where they stand: the count of allele x, its forward and its reverse count, the ambiguous count
abbrev pub count_word : ℕ → ℕ
count_word x = 2 + x

abbrev pub forward_word : ℕ → ℕ
forward_word x = 5 + x

abbrev pub reverse_word : ℕ → ℕ
reverse_word x = 8 + x

abbrev pub ambiguous_word : ℕ
ambiguous_word = 11

-- "Counts plus ambiguous equal the calls; forward plus reverse equal the counts", and "absent alleles 0", of the words of v. So of every
-- accepted case and of all that is written: proofs/Counts.antt, `answers_add_up` and `written_add_up`
pub record CountsAddUp (case : Case) (v : ℕ) (word : ℕ → ℤ) : Type 0 where
  pub calls : word (count_word 0) +ℤ word (count_word 1) +ℤ word (count_word 2) +ℤ word ambiguous_word ≡ pos (calls_at case v)
  pub strands : (x : ℕ) → x < 3 → word (forward_word x) +ℤ word (reverse_word x) ≡ word (count_word x)
  pub absent : (x : ℕ) → x < 3 → allele_count (variant_of case v) ≤ x → word (count_word x) ≡ pos 0

-- ---- of a case, at given rates
module _ (rates : Rates) (case : Case) where
  unfoldable pub variant_answer : ℕ → ℕ → ℤ
  variant_answer v = answer_from (posteriors rates case v) (allele_count (variant_of case v)) case v

  -- element e of the answers
  unfoldable pub answer_at : ℕ → ℤ
  answer_at e = variant_answer (e / 13) (e % 13)

  unfoldable pub qual_at : ℕ → Float
  qual_at v = qual_of (posteriors rates case v)

  unfoldable pub gq_at : ℕ → Float
  gq_at v = gq_from (posteriors rates case v) (allele_count (variant_of case v))

-- ---- the operation

-- the lent slices
pub record CallSlices : Type 0 where
  pub variants : List ℤ
  pub quals : List Float
  pub gqs : List Float

abbrev pub call_slices : List ℤ → List Float → List Float → CallSlices
call_slices variants quals gqs = record { variants = variants; quals = quals; gqs = gqs }

-- 1 to 5, the case; 6, the rates; 10, 13 N words and N of each quality; 12, the posteriors
unfoldable pub call_genotypes_no_haplotypes_outcome : List ℤ → List ℕ → Rates → CallSlices → Outcome Unit
call_genotypes_no_haplotypes_outcome w b rates before =
    and_then (check_case_outcome w b) (λ s.
    each 6 (rate_test rates) 0 7
    (long_enough ((13 * s.n, length before.variants) ∷ (s.n, length before.quals) ∷ (s.n, length before.gqs) ∷ [])
    (each 12 (is_normal (posteriors rates (decode w b)) (λ v. allele_count (variant_of (decode w b) v))) 0 s.n
    (done tt))))

unfoldable pub call_genotypes_no_haplotypes_written : Rates → Case → CallSlices → CallSlices
call_genotypes_no_haplotypes_written rates case before =
    let n = length case.variants in
    call_slices (written (answer_at rates case) (13 * n) before.variants) (written (qual_at rates case) n before.quals) (written (gq_at rates case) n before.gqs)

-- the promise, of the slices lent
abbrev pub CalledNoHaplotypes : List ℤ → List ℕ → Rates → CallSlices → Outcome Unit → CallSlices → Type 0
CalledNoHaplotypes w b rates before answer after =
    Promise (call_genotypes_no_haplotypes_outcome w b rates before) (call_genotypes_no_haplotypes_written rates (decode w b) before) before answer after
