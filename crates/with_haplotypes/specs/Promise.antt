-- 01, sections 6 and 7, and the table of refusals: what `call_genotypes_with_haplotypes` answers and writes, and demand 3 of every accepted
-- input.
-- Assumes nothing.
use Rattle.std.specs.Prelude.{◌≡◌, Result, ◌&&◌, List, [], ◌∷◌, ℕ, ◌+◌, ◌*◌, ◌<◌, leb, Float, ℤ, pos, ◌+ℤ◌, ◌-ℤ◌, ◌*ℤ◌, length, take, ◌≤ℤ◌}
use Rattle.variants_and_fragments.specs.Case.{allele_count, variant_of}
use Rattle.variants_and_fragments.specs.Refusals.{Outcome, done, answered, unless, each, and_then, long_enough, Promise}
use Rattle.variants_and_fragments.specs.Check.{check_case_outcome}
use Rattle.variants_and_fragments.specs.Written.{written}
use Rattle.genotype_probs.specs.Rates.{rate_test}
use Rattle.haplotype_assembly.specs.GivenPhase.{phase_tests}
use Rattle.shuffle.specs.Answers.{orders_outcome}
use Rattle.sweeps.specs.Sweeps.{SweepCase, allele0, allele1, phased_total, source_total, phased_count}
use Rattle.sweeps.specs.Demand3.{Demand3}
use Rattle.genotype_probs.specs.declared.posteriors.Genotype.{Genotype}
use Rattle.genotype_probs.specs.Normalized.{is_normal}
use Rattle.with_haplotypes.specs.declared.RoundAnswer.{RoundAnswer}
use Rattle.variants_and_fragments.specs.declared.Refusal.{Refusal}
use Rattle.with_haplotypes.specs.Round.{RoundInput, case_of_round, run_of, sweep_case, order_of_sweep, returned, haplotype_at, likelihood_at, posteriors, posterior_at, final}

-- the lent slices
pub record RoundSlices : Type 0 where
  pub haplotypes : List ℕ
  pub likelihoods : List ℤ
  pub posteriors : List ℤ
  pub quals : List Float
  pub gqs : List Float

abbrev pub round_slices : List ℕ → List ℤ → List ℤ → List Float → List Float → RoundSlices
round_slices haplotypes likelihoods posteriors quals gqs =
    record { haplotypes = haplotypes; likelihoods = likelihoods; posteriors = posteriors; quals = quals; gqs = gqs }

-- what each needs, of N variants and F fragments, and its length: haplotypes 2 N, likelihoods 2 F, posteriors 9 N, quals N, gqs N
abbrev pub round_needs : ℕ → ℕ → RoundSlices → List (ℕ × ℕ)
round_needs n f slices =
    (2 * n, length slices.haplotypes)
    ∷ (2 * f, length slices.likelihoods)
    ∷ (9 * n, length slices.posteriors)
    ∷ (n, length slices.quals)
    ∷ (n, length slices.gqs)
    ∷ []

-- the most sweeps that may be asked for
abbrev pub max_limit : ℕ
max_limit = 1000000

-- 1 to 5, the case; 6, the rates; 7, the phase bytes and sets; 8, the orders; 9, the limit in 1..1000000; 10, the slices; 12, the
-- posteriors
unfoldable pub call_genotypes_with_haplotypes_outcome : RoundInput → List ℤ → RoundSlices → Outcome RoundAnswer
call_genotypes_with_haplotypes_outcome input sets slices =
    and_then (check_case_outcome input.words input.bases) (λ s.
    each 6 (rate_test input.rates) 0 7
    (phase_tests s.n input.phase sets
    (and_then (orders_outcome s.n input.orders) (λ m.
    unless (leb 1 input.limit && leb input.limit max_limit) 9 input.limit
    (long_enough (round_needs s.n s.f slices)
    (each 12 (is_normal (posteriors (run_of input)) (λ v. allele_count (variant_of (case_of_round input) v))) 0 s.n
    (done (returned (run_of input)))))))))

-- sections 6 and 7: what the round leaves
unfoldable pub call_genotypes_with_haplotypes_written : RoundInput → RoundSlices → RoundSlices
call_genotypes_with_haplotypes_written input before =
    let n = length (case_of_round input).variants in
    round_slices
    (written (haplotype_at (run_of input)) (2 * n) before.haplotypes)
    (written (likelihood_at (run_of input)) (2 * length (case_of_round input).fragments) before.likelihoods)
    (written (posterior_at (run_of input)) (9 * n) before.posteriors)
    (written (λ v. (final (run_of input) v).qual.0) n before.quals)
    (written (λ v. (final (run_of input) v).gq.0) n before.gqs)

-- the answer as an outcome
abbrev pub outcome_of : Result RoundAnswer Refusal → Outcome RoundAnswer
outcome_of answer = answered (λ x. x) answer

-- demand 3 in the numbers returned: the totals are those of the haplotypes at the start and of those written, the phased total does not fall,
-- and sweeps ≤ 9 × gain + 8 × phased variants + 2
pub record ToldTotals (C : SweepCase) (start haps : List ℕ) (x : RoundAnswer) : Type 0 where
  pub start_is : x.start.0 ≡ phased_total C start
  pub end_is : x.end.0 ≡ phased_total C haps
  pub source_is : x.source.0 ≡ source_total C haps
  pub gains : x.start.0 ≤ℤ x.end.0
  pub bounded : pos x.sweeps ≤ℤ (pos 9 *ℤ (x.end.0 -ℤ x.start.0) +ℤ pos (8 * phased_count C + 2))

-- the pair at v
abbrev pub pair_on : List ℕ → ℕ → Genotype
pair_on h v = record { 0 = allele0 h v; 1 = allele1 h v }

-- The promise: the answer and the slices lent, and where it is done, demand 3 of what is returned and written, and that the final answers
-- are of the pairs written, whether the run settled or not
pub record CalledWithHaplotypes (input : RoundInput) (sets : List ℤ) (before : RoundSlices) (answer : Outcome RoundAnswer) (after : RoundSlices) : Type 0 where
  pub promise : Promise (call_genotypes_with_haplotypes_outcome input sets before) (call_genotypes_with_haplotypes_written input before) before answer after
  pub demand3 : (x : RoundAnswer) → answer ≡ done x
      → Demand3 (sweep_case (run_of input)) (order_of_sweep (run_of input)) input.limit (run_of input).start (record { sweeps = x.sweeps; settled = x.settled; haps = take (2 * length (case_of_round input).variants) after.haplotypes })
  pub totals : (x : RoundAnswer) → answer ≡ done x → ToldTotals (sweep_case (run_of input)) (run_of input).start (take (2 * length (case_of_round input).variants) after.haplotypes) x
  pub final_pairs : (x : RoundAnswer) → answer ≡ done x → (v : ℕ) → v < length (case_of_round input).variants
      → (final (run_of input) v).genotype ≡ pair_on (take (2 * length (case_of_round input).variants) after.haplotypes) v
