-- After the last sweep: the scores that stand are those of each variant's latest visit; normalised they are its posteriors, and the final
-- answers come from these.
-- Assumes nothing.
use mathlib.Core.Path.{◌≡◌, refl, sym, ap, ◌∙◌}
use mathlib.Core.Bool.{Bool, true}
use mathlib.Core.List.{List, [], ◌++◌}
use Prim.Native.Nat.{ℕ, zero, suc, ◌+◌, ◌-◌, ◌*◌, ◌/◌, ◌%◌, ◌^◌, ◌<◌, ◌≤◌}
use native.Mathlib.Omega.{arith}
use native.Mathlib.Decide.{dec_lt}
use lib.Ieee.{Float}
use lib.IntN.{ℤ, pos, nat_abs, neg_ℤ, ◌-ℤ◌}
use lib.ListN.{length, get_or, drop, take, length-append, length-drop, get_or-append}
use lib.Seq.{length-take-le, ext_get_or, get_or-drop, get_or-append-add, take_at}
use Rattle.steps.proofs.Signed.{minus_abs}
use Rattle.variants_and_fragments.specs.Case.{Call, allele_count, variant_of}
use Rattle.variants_and_fragments.specs.Decode.{tabulate, decode}
use Rattle.variants_and_fragments.specs.Layout.{allele_count_at}
use Rattle.variants_and_fragments.specs.Written.{written}
use Rattle.variants_and_fragments.proofs.Decoded.{tabulate_at, fragments_are}
use Rattle.variants_and_fragments.proofs.GoodCases.{good_case}
use Rattle.variants_and_fragments.proofs.Written.{written_length, written_at, written_past, written_same}
use Rattle.genotype_probs.specs.Posteriors.{normalized}
use Rattle.genotype_probs.proofs.AlleleLaws.{nine}
use Rattle.genotype_probs.specs.declared.Rates.{Rates}
use Rattle.sweeps.specs.Sweeps.{SweepCase, allele0, likelihood, score}
use Rattle.sweeps.specs.Inner.Sweeps.{GoodSweepCase}
use Rattle.sweeps.specs.Demand3.{Demand3}
use Rattle.sweeps.specs.Inner.Posts.{posts}
use Rattle.sweeps.proofs.Basics.{lik_cong}
use Rattle.sweeps.proofs.Posts.{length_posts}
use Rattle.with_haplotypes.specs.Finals.{final_of}
use Rattle.with_haplotypes.specs.Inner.Finals.{final_at, TablesIn, FinalsWritten}
use Rattle.likelihoods.specs.Inner.Likelihoods.{allele_on}
use Rattle.call_genotypes.specs.Inner.Runs.{Plan, result_of}
use Rattle.call_genotypes.specs.Inner.Scores.{over_first, SweepState}
use Rattle.with_haplotypes.specs.Inner.NormalizedPosteriors.{normalized_at, TablesAt}
use Rattle.genotype_probs.proofs.SameTables.{genotype_same, qual_same, gq_same}
use Rattle.likelihoods.proofs.HeldCases.{alleles_are}
use Rattle.with_haplotypes.proofs.NormalizedTables.{normalized_here}
use Rattle.genotype_probs.proofs.TableSizes.{normal_size}
use Rattle.genotype_probs.proofs.TableSums.{normalized_same}
use Rattle.likelihoods.proofs.SweepCases as cases
use Rattle.with_haplotypes.specs.declared.RoundAnswer.{RoundAnswer}
use Rattle.variants_and_fragments.specs.declared.Sizes.{Sizes}
use Rattle.with_haplotypes.specs.Round.{RunInput, run_input, sweep_case, order_of_sweep, result, returned, haplotype_at, likelihood_at, latest_score, posteriors, posterior_at, final}
use Rattle.with_haplotypes.specs.Inner.Steps.{CaseGiven, OrdersGiven, AlleleCounts, RunMade}
use Rattle.with_haplotypes.proofs.Latest.{posts_latest, posts_past}
use Rattle.with_haplotypes.proofs.RunLaws.{known, variants_counted, orders_good}
use Rattle.with_haplotypes.proofs.ScoreBounds.{number_small}

-- ---- a final answer reads the k × k entries of its table
final_same : (tab other : List ℤ) (k : ℕ) → 1 ≤ k → ((p : ℕ) → p < k * k → get_or tab p (pos 0) ≡ get_or other p (pos 0)) → final_of tab k ≡ final_of other k
unfolding final_of
final_same tab other k low same =
    rw (genotype_same tab other k low same true, qual_same tab other k low same, gq_same tab other k low same)

-- ---- a lent front: its elements are written, and the rest is as it was
module _ {X : Type 0} (g : ℕ → X) (d : X) (n : ℕ) (l part : List X) (room : n ≤ length l) (long : length part ≡ n) (each : (e : ℕ) → e < n → get_or part e d ≡ g e) where
  abbrev joined : List X
  joined = part ++ drop n l

  joined_at : (e : ℕ) → get_or joined e d ≡ get_or (written g n l) e d
  joined_at e = elim (dec_lt e n) [
    | yes h ↦ get_or-append part (drop n l) d e (omega arith) ∙ each e h ∙ sym (written_at g n l d room e h)
    | no h ↦ let q : length part + (e - n) ≡ e = omega arith in
        let r : n + (e - n) ≡ e = omega arith in
        sym (ap (λ (i : ℕ). get_or joined i d) q) ∙ get_or-append-add part (drop n l) (e - n) d ∙ get_or-drop n l (e - n) d ∙ ap (λ (i : ℕ). get_or l i d) r ∙ sym (written_past g n l d e (omega arith))
  ]

  pub front_written : joined ≡ written g n l
  front_written =
      ext_get_or d joined (written g n l) (length-append part (drop n l) ∙ omega (arith, length-drop n l, written_length g n l)) (λ e h. joined_at e)

-- ---- the scores that stand
module _ {w : List ℤ} {b : List ℕ} {rates : Rates} (s : Sizes) (plan : Plan) (G : CaseGiven w b rates s) (phased : ℕ → Bool) (from orders : List ℕ) (o : OrdersGiven orders s.n plan) {ks : List ℕ} (K : AlleleCounts w s.n ks) where
  abbrev input : RunInput
  input = run_input w b rates phased from orders plan.limit

  abbrev C : SweepCase
  C = sweep_case input

  good : GoodSweepCase C
  unfolding sweep_case
  good = cases.good_sweep_case rates phased (decode w b) (good_case w b s G.accepted)

  -- v's number of alleles, in the words, in the slice and in the case
  k_is : (v : ℕ) → v < s.n → C.k v ≡ allele_count_at w v
  unfolding sweep_case
  k_is v h = alleles_are rates phased w b s G.accepted v h

  k_held : (v : ℕ) → v < s.n → get_or ks v 0 ≡ C.k v
  k_held v h = ap (λ (l : List ℕ). get_or l v 0) K.are ∙ written_at (allele_count_at w) s.n ks 0 (omega (arith, K.long)) v h ∙ sym (k_is v h)

  k_here : (v : ℕ) → C.k v ≡ allele_count (variant_of (decode w b) v)
  unfolding sweep_case Rattle.likelihoods.specs.SweepCaseOf.sweep_case_of
  k_here v = refl

  score_small : (v : ℕ) (h : List ℕ) (g : ℕ) → nat_abs (score C v h g) ≤ 2 ^ 36
  unfolding sweep_case
  score_small = number_small rates phased w b s G.accepted G.good_rates

  latest_small : (v p : ℕ) → nat_abs (latest_score input v p) ≤ 2 ^ 36
  unfolding latest_score
  latest_small v p = score_small v _ p

  module _ {before after : SweepState} {r : RoundAnswer} (R : RunMade input before after r) (room : 9 * s.n ≤ length before.post) where
    abbrev post : List ℤ
    post = before.post

    abbrev raw : List ℤ
    raw = after.post

    raw_long : length raw ≡ length post
    raw_long = ap length R.scores ∙ length_posts over_first C (order_of_sweep input) from post r.sweeps

    raw_at : (v p : ℕ) → v < s.n → p < C.k v * C.k v → get_or raw (9 * v + p) (pos 0) ≡ latest_score input v p -ℤ latest_score input v 0
    unfolding latest_score
    raw_at v p h l =
        let last = R.demand3.ends.last in
        let e = R.demand3.ends.counted in
        let n = variants_counted s G phased from orders plan.limit in
        let q : (result input).sweeps - 1 ≡ last = omega (arith, ap (λ x. x.sweeps) R.result_is) in
        ap (λ (x : List ℤ). get_or x (9 * v + p) (pos 0)) (R.scores ∙ ap (posts over_first C (order_of_sweep input) from post) e)
        ∙ posts_latest C good (order_of_sweep input) (orders_good s G phased from orders plan.limit o) from post (omega arith) last v p (omega arith) l
        ∙ rw q

    raw_past : (e : ℕ) → 9 * s.n ≤ e → get_or raw e (pos 0) ≡ get_or post e (pos 0)
    raw_past e h = ap (λ (x : List ℤ). get_or x e (pos 0)) R.scores ∙ posts_past C good (order_of_sweep input) (orders_good s G phased from orders plan.limit o) from post r.sweeps e (pos 0) (omega (arith, variants_counted s G phased from orders plan.limit))

    raw_small : (v p : ℕ) → v < s.n → p < C.k v * C.k v → nat_abs (get_or raw (9 * v + p) (pos 0)) ≤ 2 ^ 37
    raw_small v p h l = rw (raw_at v p h l) (omega (arith, minus_abs (latest_score input v p) (latest_score input v 0), latest_small v p, latest_small v 0))

    pub tables_at : TablesAt ks raw s.n
    tables_at = record {
      ks_long = omega (arith, K.long);
      long = omega (arith, raw_long);
      each = λ v h. let n = variants_counted s G phased from orders plan.limit in
          rw (k_held v h) (record {
            k_low = good.some_allele v (omega arith);
            k_high = good.three_alleles v (omega arith);
            inside = omega (arith, raw_long);
            small = λ p l. omega (arith, raw_small v p h l);
          });
    }

    -- ---- the posteriors
    -- what normalising makes of variant v's scores, place p
    normal_is : (v p : ℕ) → v < s.n → p < 9 → normalized (drop (9 * v) raw) (get_or ks v 0) p ≡ get_or (posteriors input v) p (pos 0)
    unfolding posteriors
    normal_is v p h l =
        let k = allele_count (variant_of (decode w b) v) in
        let e : get_or ks v 0 ≡ k = k_held v h ∙ k_here v in
        let scores = tabulate (k * k) (latest_score input v) in
        ap (λ (x : ℕ). normalized (drop (9 * v) raw) x p) e
        ∙ normalized_same (neg_ℤ (latest_score input v 0)) (drop (9 * v) raw) scores k (rw (k_here v) at (good.some_allele v (omega (arith, variants_counted s G phased from orders plan.limit))))
        (λ q j. get_or-drop (9 * v) raw q (pos 0) ∙ raw_at v q h (rw (k_here v) j) ∙ ap (λ (x : ℤ). x -ℤ latest_score input v 0) (sym (tabulate_at (k * k) (latest_score input v) q (pos 0) j))) p
        ∙ sym (tabulate_at 9 (normalized scores k) p (pos 0) l)

    module _ {post' : List ℤ} (done : post' ≡ written (normalized_at ks raw) (9 * s.n) raw) where
      after_at : (v p : ℕ) → v < s.n → p < 9 → get_or post' (9 * v + p) (pos 0) ≡ get_or (posteriors input v) p (pos 0)
      after_at v p h l =
          ap (λ (x : List ℤ). get_or x (9 * v + p) (pos 0)) done
          ∙ normalized_here ks raw s.n v p (omega (arith, raw_long)) h l
          ∙ normal_is v p h l

      after_long : length post' ≡ length post
      after_long = ap length done ∙ written_length (normalized_at ks raw) (9 * s.n) raw ∙ raw_long

      element_is : (e : ℕ) → get_or post' e (pos 0) ≡ get_or (written (posterior_at input) (9 * s.n) post) e (pos 0)
      unfolding posterior_at
      element_is e = elim (dec_lt e (9 * s.n)) [
        | yes h ↦ let q : 9 * (e / 9) + e % 9 ≡ e = omega arith in
            sym (ap (λ (i : ℕ). get_or post' i (pos 0)) q) ∙ after_at (e / 9) (e % 9) (omega arith) (omega arith) ∙ sym (written_at (posterior_at input) (9 * s.n) post (pos 0) room e h)
        | no h ↦ let l : 9 * s.n ≤ e = omega arith in
            ap (λ (x : List ℤ). get_or x e (pos 0)) done ∙ written_past (normalized_at ks raw) (9 * s.n) raw (pos 0) e l ∙ raw_past e l ∙ sym (written_past (posterior_at input) (9 * s.n) post (pos 0) e l)
      ]

      pub posteriors_written : post' ≡ written (posterior_at input) (9 * s.n) post
      posteriors_written = ext_get_or (pos 0) post' (written (posterior_at input) (9 * s.n) post) (after_long ∙ sym (written_length (posterior_at input) (9 * s.n) post)) (λ e h. element_is e)

      after_small : (v p : ℕ) → v < s.n → p < 9 → nat_abs (get_or post' (9 * v + p) (pos 0)) ≤ 2 ^ 40
      after_small v p h l =
          let n = variants_counted s G phased from orders plan.limit in
          let small : (q : ℕ) → q < get_or ks v 0 * get_or ks v 0 → nat_abs (get_or (drop (9 * v) raw) q (pos 0)) ≤ 2 ^ 37 = λ q j. rw (get_or-drop (9 * v) raw q (pos 0)) (raw_small v q h (rw (← k_held v h) j)) in
          let top : get_or ks v 0 ≤ 3 = omega (arith, k_held v h, good.three_alleles v (omega arith)) in
          omega (arith, ap nat_abs (ap (λ (x : List ℤ). get_or x (9 * v + p) (pos 0)) done ∙ normalized_here ks raw s.n v p (omega (arith, raw_long)) h l), normal_size (2 ^ 37) (drop (9 * v) raw) (get_or ks v 0) top small p)

      pub tables_in : TablesIn w post' s.n
      tables_in v h =
          let n = variants_counted s G phased from orders plan.limit in
          let e = k_is v h in
          let t = good.three_alleles v (omega arith) in
          record {
            k_low = omega (arith, good.some_allele v (omega arith));
            k_high = omega arith;
            inside = omega (arith, after_long);
            small = λ p l. after_small v p h (omega (arith, nine (allele_count_at w v) (omega arith)));
          }

      -- ---- the final answers
      final_is : (v : ℕ) → v < s.n → final_at w post' v ≡ final input v
      unfolding final_at final
      final_is v h =
          let n = variants_counted s G phased from orders plan.limit in
          let k = allele_count (variant_of (decode w b) v) in
          let e : allele_count_at w v ≡ k = sym (k_is v h) ∙ k_here v in
          let t = nine k (omega (arith, good.three_alleles v (omega arith), k_here v)) in
          ap (final_of (drop (9 * v) post')) e
          ∙ final_same (drop (9 * v) post') (posteriors input v) k (omega (arith, good.some_allele v (omega arith), k_here v))
          (λ p l. get_or-drop (9 * v) post' p (pos 0) ∙ after_at v p h (omega arith))

      module _ {quals gqs quals' gqs' : List Float} (F : FinalsWritten w post' s.n quals gqs quals' gqs') where
        pub quals_written : quals' ≡ written (λ v. (final input v).qual.0) s.n quals
        quals_written = F.quals_are ∙ written_same (λ v. (final_at w post' v).qual.0) (λ v. (final input v).qual.0) s.n quals (λ v h. ap (λ x. x.qual.0) (final_is v h))

        pub gqs_written : gqs' ≡ written (λ v. (final input v).gq.0) s.n gqs
        gqs_written = F.gqs_are ∙ written_same (λ v. (final_at w post' v).gq.0) (λ v. (final input v).gq.0) s.n gqs (λ v h. ap (λ x. x.gq.0) (final_is v h))

-- ---- the haplotypes and the likelihoods, of which the fronts were lent
module _ {w : List ℤ} {b : List ℕ} {rates : Rates} (s : Sizes) (plan : Plan) (G : CaseGiven w b rates s) (phased : ℕ → Bool) (from orders : List ℕ) {before after : SweepState} {r : RoundAnswer} (R : RunMade (run_input w b rates phased from orders plan.limit) before after r) where
  abbrev run : RunInput
  run = run_input w b rates phased from orders plan.limit

  abbrev hap' : List ℕ
  hap' = after.hap

  abbrev lik' : List ℤ
  lik' = after.lik

  haps_are : (result run).haps ≡ hap'
  haps_are = ap (λ x. x.haps) R.result_is

  pub haplotypes_written : (l : List ℕ) (a : ℕ) → a ≡ 2 * s.n → 2 * s.n ≤ length l → length hap' ≡ 2 * s.n → hap' ++ drop a l ≡ written (haplotype_at run) (2 * s.n) l
  unfolding haplotype_at
  haplotypes_written l a w h e = rw w (front_written (haplotype_at run) 0 (2 * s.n) l hap' h e (λ i k. rw haps_are))

  -- the haplotypes written are the run's
  pub result_written : (l : List ℕ) (a : ℕ) → length hap' ≡ 2 * s.n → take (2 * s.n) (hap' ++ drop a l) ≡ (result run).haps
  result_written l a e = rw (take_at hap' (drop a l) (2 * s.n) e) (sym haps_are)

  -- demand 3 of what is returned and written
  pub demand3_written : (l : List ℕ) (a : ℕ) → length hap' ≡ 2 * s.n
      → Demand3 (sweep_case run) (order_of_sweep run) plan.limit from (result_of r.sweeps r.settled (take (2 * s.n) (hap' ++ drop a l)))
  demand3_written l a e = rw (take_at hap' (drop a l) (2 * s.n) e) R.demand3

  fragments_counted : length (sweep_case run).frags ≡ s.f
  unfolding sweep_case
  fragments_counted =
      cases.frags_length rates phased (decode w b)
      ∙ fragments_are (known G) b

  -- a read's likelihood on haplotype 0 or 1
  first_is : (cs : List Call) → likelihood (sweep_case run).phased (allele_on hap' 0) cs ≡ likelihood (sweep_case run).phased (allele0 hap') cs
  first_is cs = lik_cong (sweep_case run).phased (sweep_case run).phased (allele_on hap' 0) (allele0 hap') cs (λ v t. refl) (λ v t u. ap (λ (i : ℕ). get_or hap' i 0) (omega arith))

  likelihood_is : (e b : ℕ) → e % 2 ≡ b → b < 2 → e < 2 * s.f → get_or lik' e (pos 0) ≡ likelihood_at run e
  unfolding likelihood_at
  likelihood_is e zero q l h =
      let w : 2 * (e / 2) ≡ e = omega arith in
      let i : e / 2 < length (sweep_case run).frags = omega (arith, fragments_counted) in
      sym (ap (λ (x : ℕ). get_or lik' x (pos 0)) w) ∙ R.liks.firsts (e / 2) i ∙ sym (first_is (get_or (sweep_case run).frags (e / 2) [])) ∙ rw (haps_are, q)
  likelihood_is e (suc zero) q l h =
      let w : 2 * (e / 2) + 1 ≡ e = omega arith in
      let i : e / 2 < length (sweep_case run).frags = omega (arith, fragments_counted) in
      sym (ap (λ (x : ℕ). get_or lik' x (pos 0)) w) ∙ R.liks.seconds (e / 2) i ∙ rw (haps_are, q)
  likelihood_is e (suc (suc b)) q l h = absurd (omega arith)

  pub likelihoods_written : (l : List ℤ) (a : ℕ) → a ≡ 2 * s.f → 2 * s.f ≤ length l → lik' ++ drop a l ≡ written (likelihood_at run) (2 * s.f) l
  likelihoods_written l a w h =
      rw w (front_written (likelihood_at run) (pos 0) (2 * s.f) l lik' h (R.liks.long ∙ ap (λ (x : ℕ). 2 * x) fragments_counted) (λ e k. likelihood_is e (e % 2) refl (omega arith) k))

  pub returned_is : r ≡ returned run
  unfolding returned
  returned_is = rw (R.result_is, ← R.start_is, ← R.end_is, ← R.source_is)

-- what is lent of a slice's front
pub part_long : {X : Type 0} (l : List X) (a n : ℕ) → a ≡ n → n ≤ length l → length (take a l) ≡ n
part_long l a n e h = rw e (length-take-le n l h)
