-- The answers of `call_genotypes_with_haplotypes`: what each way through its checks gives of the outcome and of the lent slices.
-- Assumes nothing.
use mathlib.Core.Path.{◌≡◌, refl, sym, ap, ◌∙◌}
use mathlib.Core.Bool.{◌&&◌}
use mathlib.Core.List.{List}
use Prim.Native.Nat.{ℕ, ◌*◌, ◌≤◌, ◌<◌}
use native.Mathlib.Omega.{arith}
use borrow.Author.Tests.{leb-true, eqb-true}
use lib.Dec.{leb, ltb, eqb}
use lib.Ieee.{Float}
use lib.IntN.{ℤ, pos}
use lib.ListN.{length, take}
use Rattle.variants_and_fragments.specs.declared.Sizes.{Sizes}
use Rattle.variants_and_fragments.specs.declared.Refusal.{Refusal}
use Rattle.variants_and_fragments.specs.Case.{allele_count, variant_of}
use Rattle.std.proofs.Common.{Err}
use Rattle.variants_and_fragments.specs.Refusals.{Outcome, done, refusal, unless, each, and_then, smallest_short}
use Rattle.variants_and_fragments.specs.Check.{check_case_outcome}
use Rattle.variants_and_fragments.specs.Check as check
use Rattle.variants_and_fragments.specs.Decode.{tabulate}
use Rattle.variants_and_fragments.proofs.Bools.{both}
use Rattle.variants_and_fragments.proofs.Decoded.{variants_are, fragments_are, tabulate_at}
use Rattle.variants_and_fragments.proofs.GoodCases.{good_case}
use Rattle.variants_and_fragments.proofs.Outcomes.{not_done, unless_past, each_past, then_on, then_past, case_stops, promise_refused, promise_done}
use Rattle.genotype_probs.proofs.RateLaws.{rates_past}
use Rattle.genotype_probs.specs.Posteriors.{normalized}
use Rattle.genotype_probs.proofs.AlleleLaws.{nine}
use Rattle.variants_and_fragments.proofs.Short.{short_fits}
use Rattle.haplotype_assembly.proofs.PhaseLaws.{phase_past}
use Rattle.shuffle.specs.Answers.{orders_outcome}
use Rattle.shuffle.specs.Orders.{order_count}
use Rattle.shuffle.proofs.GoodOrders.{orders_good}
use Rattle.sweeps.specs.Sweeps.{SweepCase, phased_total, source_total}
use Rattle.sweeps.specs.Inner.Sweeps.{GoodSweepCase}
use Rattle.sweeps.proofs.Run.{after_good}
use Rattle.likelihoods.proofs.SweepCases.{good_sweep_case}
use Rattle.genotype_probs.specs.Normalized.{is_normal}
use Rattle.genotype_probs.proofs.NormalizedLaws.{all_normal}
use Rattle.call_genotypes.specs.Inner.Runs.{Plan}
use Rattle.with_haplotypes.specs.declared.RoundAnswer.{RoundAnswer}
use Rattle.with_haplotypes.specs.Round.{RoundInput, case_of_round, run_of, sweep_case, order_of_sweep, result, returned, posteriors, latest_score, final}
use Rattle.with_haplotypes.specs.Promise.{RoundSlices, round_slices, round_needs, max_limit, call_genotypes_with_haplotypes_outcome, call_genotypes_with_haplotypes_written, ToldTotals, pair_on, CalledWithHaplotypes}
use Rattle.with_haplotypes.specs.Inner.Checks.{limit_checks, round_checks}
use Rattle.with_haplotypes.proofs.CheckLaws.{checks_then}
use Rattle.with_haplotypes.specs.Inner.Steps.{Admitted, RoundRoom, RoundMade}
use Rattle.with_haplotypes.proofs.RunLaws.{known, variants_counted}
use Rattle.with_haplotypes.proofs.RunLaws as runs
use Rattle.with_haplotypes.proofs.StartLaws.{start_good}
use Rattle.with_haplotypes.proofs.FinalPairs.{final_pair}

-- ---- what passed the checks
count_is : (n m : ℕ) (orders : List ℕ) → orders_outcome n orders ≡ done m → m ≡ order_count n (length orders)
unfolding orders_outcome
count_is n m orders e =
    let count = order_count n (length orders) in
    let outer = unless_past (ltb 0 count) 8 0 _ m e in
    let inner = each_past 8 _ 0 count (done count) m outer.1 in
    let same : count ≡ m = cc in
    sym same

-- the limit, and no slice too short
pub record Limits (limit short : ℕ) : Type 0 where
  pub limit_low : 1 ≤ limit
  pub limit_top : limit ≤ max_limit
  pub none_short : short ≡ 0

limits_passed : (k limit short m : ℕ) → limit_checks k limit short ≡ done m → (k ≡ m) × Limits limit short
unfolding limit_checks
limits_passed k limit short m e =
    let a = unless_past (leb 1 limit && leb limit max_limit) 9 limit (unless (eqb short 0) 10 short (done k)) m e in
    let b = unless_past (eqb short 0) 10 short (done k) m a.1 in
    let l = both (leb 1 limit) (leb limit max_limit) a.0 in
    let same : k ≡ m = cc in
    (same, record { limit_low = leb-true 1 limit l.0; limit_top = leb-true limit max_limit l.1; none_short = eqb-true short 0 b.0 })

orders_passed : (x : Outcome ℕ) (limit short m : ℕ) → and_then x (λ k. limit_checks k limit short) ≡ done m → (x ≡ done m) × Limits limit short
orders_passed x limit short m e =
    let k = then_past x _ m e in
    let p = limits_passed k.0 limit short m k.1.1 in
    (k.1.0 ∙ ap done p.0, p.1)

-- slices are the same where each is
slices_same : {h h' : List ℕ} {l l' p p' : List ℤ} {q q' g g' : List Float} → h ≡ h' → l ≡ l' → p ≡ p' → q ≡ q' → g ≡ g' → round_slices h l p q g ≡ round_slices h' l' p' q' g'
slices_same a b c d e = cc (a, b, c, d, e)

-- room for the round
slices_room : (s : Sizes) (slices : RoundSlices) → smallest_short (round_needs s.n s.f slices) ≡ 0 → RoundRoom s slices
slices_room s slices e =
    let a = short_fits _ _ _ e in
    let b = short_fits _ _ _ a.1 in
    let c = short_fits _ _ _ b.1 in
    let d = short_fits _ _ _ c.1 in
    record { haplotypes_long = a.0; likelihoods_long = b.0; posteriors_long = c.0; quals_long = d.0; gqs_long = (short_fits _ _ _ d.1).0 }

module _ (input : RoundInput) (sets : List ℤ) (before : RoundSlices) where
  abbrev checks_of : Sizes → Outcome ℕ
  checks_of s = round_checks s.n input.rates input.phase sets input.orders input.limit (smallest_short (round_needs s.n s.f before))

  -- a round's sweeps
  abbrev plan_of : Sizes → ℕ → Plan
  plan_of s m = record { n = s.n; m = m; limit = input.limit }

  pub admits : (s : Sizes) (m : ℕ) → check_case_outcome input.words input.bases ≡ done s → checks_of s ≡ done m → Admitted input s (plan_of s m) × RoundRoom s before
  unfolding round_checks
  admits s m accepted e =
      let a = rates_past input.rates _ m e in
      let b = phase_past s.n input.phase sets _ m a.1 in
      let c = orders_passed (orders_outcome s.n input.orders) input.limit (smallest_short (round_needs s.n s.f before)) m b.1 in (
        record {
          given = record { accepted = accepted; good_rates = a.0 };
          phase_long = b.0.bytes_long;
          good_orders = record {
            n_is = refl;
            good = orders_good s.n m input.orders c.0;
            count_is = count_is s.n m input.orders c.0;
            limit_low = c.1.limit_low;
            limit_top = c.1.limit_top;
          };
        },
        slices_room s before c.1.none_short,
      )

  -- ---- the answers
  -- 12, and what is returned
  abbrev last_line : Sizes → Outcome RoundAnswer
  last_line s = each 12 (is_normal (posteriors (run_of input)) (λ v. allele_count (variant_of (case_of_round input) v))) 0 s.n (done (returned (run_of input)))

  -- past the case, the checks and that
  past_case : (s : Sizes) → check_case_outcome input.words input.bases ≡ done s → and_then (checks_of s) (λ m. last_line s) ≡ call_genotypes_with_haplotypes_outcome input sets before
  unfolding call_genotypes_with_haplotypes_outcome
  past_case s e = checks_then s.n input.rates input.phase sets input.orders input.limit (round_needs s.n s.f before) (last_line s) ∙ then_on _ _ s e

  turned_down : (x : Refusal) → refusal x ≡ call_genotypes_with_haplotypes_outcome input sets before → CalledWithHaplotypes input sets before (refusal x) before
  turned_down x e = record {
    promise = promise_refused x e;
    demand3 = λ y q. absurd (not_done q);
    totals = λ y q. absurd (not_done q);
    final_pairs = λ y q v h. absurd (not_done q);
  }

  -- 1 to 5
  pub answer_case : (x : Refusal) → check.outcome_of (Err x) ≡ check_case_outcome input.words input.bases → CalledWithHaplotypes input sets before (refusal x) before
  unfolding call_genotypes_with_haplotypes_outcome
  answer_case x e = turned_down x (case_stops _ _ _ x e)

  -- 6 to 10
  pub answer_checks : (s : Sizes) (x : Refusal) → check_case_outcome input.words input.bases ≡ done s → refusal x ≡ checks_of s → CalledWithHaplotypes input sets before (refusal x) before
  unfolding and_then
  answer_checks s x e q = turned_down x (ap (λ (o : Outcome ℕ). and_then o (λ m. last_line s)) q ∙ past_case s e)

  module _ (s : Sizes) (m : ℕ) (e : check_case_outcome input.words input.bases ≡ done s) (q : checks_of s ≡ done m) where
    abbrev count : ℕ → ℕ
    count v = allele_count (variant_of (case_of_round input) v)

    -- never 12
    normal_line : done (returned (run_of input)) ≡ last_line s
    unfolding posteriors
    normal_line =
        let g = good_case input.words input.bases s e in
        let A = (admits s m e q).0 in
        let n = variants_are (known A.given) input.bases in
        all_normal (posteriors (run_of input)) (λ v. tabulate (count v * count v) (latest_score (run_of input) v)) count s.n (done (returned (run_of input)))
        (λ v h. (g.variants_in v (omega arith)).some_allele)
        (λ v h p l. tabulate_at 9 (normalized (tabulate (count v * count v) (latest_score (run_of input) v)) (count v)) p (pos 0) (omega (arith, nine (count v) (g.variants_in v (omega arith)).three_alleles)))

    pub outcome_done : done (returned (run_of input)) ≡ call_genotypes_with_haplotypes_outcome input sets before
    outcome_done = normal_line ∙ then_on (checks_of s) (λ k. last_line s) m q ∙ past_case s e

    -- what is told of the run
    module _ {r : RoundAnswer} {after : RoundSlices} (M : RoundMade (run_of input) s before r after) where
      abbrev C : SweepCase
      C = sweep_case (run_of input)

      abbrev haps : List ℕ
      haps = take (2 * s.n) after.haplotypes

      start_is : r.start.0 ≡ phased_total C (run_of input).start
      unfolding returned
      start_is = ap (λ x. x.start.0) M.returned_is

      end_is : r.end.0 ≡ phased_total C haps
      unfolding returned
      end_is = ap (λ x. x.end.0) M.returned_is ∙ ap (phased_total C) (sym M.result_are)

      source_is : r.source.0 ≡ source_total C haps
      unfolding returned
      source_is = ap (λ x. x.source.0) M.returned_is ∙ ap (source_total C) (sym M.result_are)

      told : ToldTotals C (run_of input).start haps r
      told = record {
        start_is = start_is;
        end_is = end_is;
        source_is = source_is;
        gains = rw (start_is, end_is) M.demand3.gains;
        bounded = rw (start_is, end_is) M.demand3.bounded;
      }

      sweeps_are : (result (run_of input)).sweeps ≡ r.sweeps
      unfolding returned
      sweeps_are = sym (ap (λ x. x.sweeps) M.returned_is)

      good : GoodSweepCase C
      unfolding sweep_case
      good = good_sweep_case input.rates (run_of input).phased (case_of_round input) (good_case input.words input.bases s e)

      pairs_kept : (v : ℕ) → v < s.n → (final (run_of input) v).genotype ≡ pair_on haps v
      pairs_kept v h =
          let A = (admits s m e q).0 in
          let g = good_case input.words input.bases s e in
          let n = variants_are (known A.given) input.bases in
          let c = variants_counted s A.given (run_of input).phased (run_of input).start input.orders input.limit in
          let ok = runs.orders_good s A.given (run_of input).phased (run_of input).start input.orders input.limit A.good_orders in
          let last = M.demand3.ends.last in
          final_pair (run_of input) v haps last (sweeps_are ∙ M.demand3.ends.counted) M.demand3.ends.reached
          (after_good C good (order_of_sweep (run_of input)) ok (run_of input).start last (start_good A))
          (ok last) (omega arith) (g.variants_in v (omega arith)).some_allele (g.variants_in v (omega arith)).three_alleles

    pub answer_done : (r : RoundAnswer) (after : RoundSlices) → RoundMade (run_of input) s before r after → CalledWithHaplotypes input sets before (done r) after
    unfolding call_genotypes_with_haplotypes_written
    answer_done r after M =
        let A = (admits s m e q).0 in
        let n = variants_are (known A.given) input.bases in
        let f = fragments_are (known A.given) input.bases in
        record {
          promise = promise_done r (ap done M.returned_is ∙ outcome_done) (slices_same (rw n M.haplotypes_are) (rw f M.likelihoods_are) (rw n M.posteriors_are) (rw n M.quals_are) (rw n M.gqs_are));
          demand3 = λ y j. let same : r ≡ y = cc in rw (← same, n) M.demand3;
          totals = λ y j. let same : r ≡ y = cc in rw (← same, n) (told M);
          final_pairs = λ y j v h. rw n (pairs_kept M v (rw n at h));
        }
