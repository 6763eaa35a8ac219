-- Every operation answers and writes on an accepted case what it does on its unmuted case. The check answers the same, and everything else goes by the
-- decoded case: its variants and its cutoff are the same, and so are usable calls, ambiguous counts and lines (SameCalls).
-- Assumes nothing.
use mathlib.Core.Path.{◌≡◌, refl, sym, ap, ◌∙◌, fun_ext}
use mathlib.Core.Bool.{Bool, true, ◌&&◌}
use mathlib.Core.List.{List}
use Prim.Native.Nat.{ℕ, ◌+◌, ◌/◌, ◌%◌}
use lib.Dec.{eqb}
use lib.Ieee.{Float}
use lib.IntN.{ℤ, pos, ◌+ℤ◌}
use lib.ListN.{length, length-map}
use lib.Signed.{le_z}
use Rattle.steps.proofs.Signed.{by_test}
use Rattle.variants_and_fragments.specs.declared.Sizes.{Sizes}
use Rattle.variants_and_fragments.specs.Case.{Case, Fragment, Call, allele_count, direction, variant_of, fragment_of}
use Rattle.variants_and_fragments.specs.Check.{check_case_outcome}
use Rattle.variants_and_fragments.specs.Decode.{tabulate, decode}
use Rattle.variants_and_fragments.specs.Layout.{cutoff_at, lowest_quality, variant_field, allele_count_at}
use Rattle.variants_and_fragments.specs.Pileup.{Row, only, rows_of, pile_of, ambiguous_count}
use Rattle.variants_and_fragments.specs.Refusals.{Outcome, refused, done, and_then}
use Rattle.variants_and_fragments.specs.Sums.{sum_over}
use Rattle.variants_and_fragments.specs.Words.{within, below, nat_of}
use Rattle.variants_and_fragments.specs.Inner.Accepted.{CaseIn}
use Rattle.variants_and_fragments.proofs.Accepted.{case_in, checked_in}
use Rattle.variants_and_fragments.proofs.Bools.{both}
use Rattle.variants_and_fragments.proofs.Decoded.{cutoff_is, allele_count_is}
use Rattle.variants_and_fragments.proofs.Only.{only_cong}
use Rattle.variants_and_fragments.proofs.Ranges.{below_less}
use Rattle.variants_and_fragments.proofs.Sums.{count_map, count_over_cong}
use Rattle.var_filter.specs.Filter.{Limits, counted, dense, marked_dense, too_deep, filter_of}
use Rattle.var_filter.specs.Filtered.{var_filter_outcome, var_filter_written}
use Rattle.genotype_probs.specs.declared.Rates.{Rates}
use Rattle.genotype_probs.specs.Answers.{genotype_priors_outcome, genotype_priors_written}
use Rattle.genotype_probs.specs.Posteriors.{normalized}
use Rattle.genotype_probs.specs.Priors.{get_prior, prior_at}
use Rattle.haplotype_assembly.specs.Lines.{flist_buffer, flist_lines}
use Rattle.haplotype_assembly.specs.Phase.{phased_flags, start_allele, start_haplotypes, set_name, phase_name}
use Rattle.haplotype_assembly.specs.GivenPhase.{PhaseSlices, given_phase_outcome, given_phase_written}
use Rattle.haplotype_assembly.specs.FlistBuffer.{generate_flist_buffer_outcome, generate_flist_buffer_written}
use Rattle.shuffle.specs.Answers.{sweep_orders_outcome, sweep_orders_written}
use Rattle.likelihoods.specs.SweepCaseOf.{sweep_case_of}
use Rattle.no_haplotypes.specs.NoHaplotypes as nohap
use Rattle.no_haplotypes.specs.NoHaplotypes.{call_genotypes_no_haplotypes_outcome, call_genotypes_no_haplotypes_written}
use Rattle.with_haplotypes.specs.Round as round
use Rattle.with_haplotypes.specs.Round.{RunInput, RoundInput, round_input, run_of}
use Rattle.with_haplotypes.specs.Promise.{RoundSlices, call_genotypes_with_haplotypes_outcome, call_genotypes_with_haplotypes_written}
use Rattle.late_reads.specs.Values.{Values, read_count, departed}
use Rattle.late_reads.specs.Arriving.{arriving_word, arriving_ok, room}
use Rattle.late_reads.specs.LateReads.{LateInput, late_input, kept_outcome, arrived_values, arriving_outcome, arrive_outcome, arrive_written, departed_values, depart_outcome, depart_written}
use Rattle.late_reads.proofs.KeptCase.{kept_checked}
use Rattle.muted.specs.Unmuted.{unmuted, unmuted_case, unmuted_words}
use Rattle.muted.specs.SameAnswers.{beside_words, SameAnswers, AsUnmuted}
use Rattle.muted.proofs.AllUnmuted.{checked_unmuted, accepted_unmuted, free_unmuted, decoded_unmuted}
use Rattle.muted.proofs.SameCalls.{votes_unmuted, present_same, direction_same, all_calls_same, count_same, frags_same, rows_same, ambiguous_from_same, lines_same, line_count_same, fragment_there}

-- ---- of a case whose cutoff is not above 0: calling without haplotypes
module _ (case : Case) (low : le_z case.cutoff (pos 0) ≡ true) where
  pile_same : (v : ℕ) → pile_of (unmuted_case case) v ≡ pile_of case v
  unfolding pile_of rows_of unmuted_case
  pile_same v = rw (rows_same case.cutoff low 0 case.fragments)

  pair_same : (rates : Rates) (v i j : ℕ) → nohap.pair_score rates (unmuted_case case) v i j ≡ nohap.pair_score rates case v i j
  unfolding nohap.pair_score unmuted_case
  pair_same rates v i j = ap (λ (rows : List Row). get_prior rates (variant_of case v) i j +ℤ sum_over rows (λ row. nohap.call_score i j row.call)) (pile_same v)

  scores_same : (rates : Rates) (v : ℕ) → nohap.score_at rates (unmuted_case case) v ≡ nohap.score_at rates case v
  unfolding nohap.score_at unmuted_case
  scores_same rates v = fun_ext (λ p. let k = allele_count (variant_of case v) in rw (pair_same rates v (p / k) (p % k)))

  -- posteriors: as functions of the variant
  posteriors_same : (rates : Rates) → nohap.posteriors rates (unmuted_case case) ≡ nohap.posteriors rates case
  unfolding nohap.posteriors unmuted_case
  posteriors_same rates = fun_ext (λ v. ap (λ (g : ℕ → ℤ). let k = allele_count (variant_of case v) in tabulate 9 (normalized (tabulate 9 g) k)) (scores_same rates v))

  alleles_same : (v x : ℕ) → nohap.allele_calls (unmuted_case case) v x ≡ nohap.allele_calls case v x
  unfolding nohap.allele_calls
  alleles_same v x = rw (pile_same v)

  strands_same : (v strand x : ℕ) → nohap.strand_calls (unmuted_case case) v strand x ≡ nohap.strand_calls case v strand x
  unfolding nohap.strand_calls
  strands_same v strand x =
      rw (pile_same v)
      (ap length (only_cong _ _ (pile_of case v) (λ row.
      ap (λ (d : ℕ). eqb d strand && eqb row.call.allele x) (ap (λ (y : Fragment). direction y.strand) (fragment_there case row.fragment) ∙ direction_same (fragment_of case row.fragment)))))

  ambiguous_same : (v : ℕ) → ambiguous_count (unmuted_case case) v ≡ ambiguous_count case v
  unfolding ambiguous_count unmuted_case
  ambiguous_same v = ambiguous_from_same case.cutoff low v case.fragments

  depth_same : (v : ℕ) → nohap.depth_after (unmuted_case case) v ≡ nohap.depth_after case v
  unfolding nohap.depth_after nohap.calls_at unmuted_case
  depth_same v = rw (count_map unmuted case.fragments (λ (x : Fragment). length (only (λ (call : Call). eqb call.variant v) x.calls)), count_over_cong case.fragments _ _ (all_calls_same v))

  answers_same : (rates : Rates) → nohap.answer_at rates (unmuted_case case) ≡ nohap.answer_at rates case
  unfolding nohap.answer_at nohap.variant_answer nohap.answer_from unmuted_case
  answers_same rates = fun_ext (λ e. let v = e / 13 in
      rw (posteriors_same rates, alleles_same v 0, alleles_same v 1, alleles_same v 2, strands_same v 0 0, strands_same v 0 1, strands_same v 0 2, strands_same v 1 0, strands_same v 1 1, strands_same v 1 2, ambiguous_same v, depth_same v))

  quals_same : (rates : Rates) → nohap.qual_at rates (unmuted_case case) ≡ nohap.qual_at rates case
  unfolding nohap.qual_at
  quals_same rates = fun_ext (λ v. rw (posteriors_same rates))

  gqs_same : (rates : Rates) → nohap.gq_at rates (unmuted_case case) ≡ nohap.gq_at rates case
  unfolding nohap.gq_at unmuted_case
  gqs_same rates = fun_ext (λ v. rw (posteriors_same rates))

  nohap_written : (rates : Rates) (before : nohap.CallSlices) → call_genotypes_no_haplotypes_written rates (unmuted_case case) before ≡ call_genotypes_no_haplotypes_written rates case before
  unfolding call_genotypes_no_haplotypes_written unmuted_case
  nohap_written rates before = rw (answers_same rates, quals_same rates, gqs_same rates)

-- ---- the run: its case of the sweeps is the same, and it reads nothing else of the fragments
abbrev unmuted_run : RunInput → RunInput
unmuted_run input = record { case = unmuted_case input.case; rates = input.rates; phased = input.phased; start = input.start; orders = input.orders; limit = input.limit }

module _ (input : RunInput) (low : le_z input.case.cutoff (pos 0) ≡ true) where
  sweeps_same : round.sweep_case (unmuted_run input) ≡ round.sweep_case input
  unfolding round.sweep_case sweep_case_of unmuted_case
  sweeps_same = rw (frags_same input.case.cutoff low input.case.fragments)

  orders_same : round.order_of_sweep (unmuted_run input) ≡ round.order_of_sweep input
  unfolding round.order_of_sweep unmuted_case
  orders_same = refl

  result_same : round.result (unmuted_run input) ≡ round.result input
  unfolding round.result
  result_same = rw (sweeps_same, orders_same)

  returned_same : round.returned (unmuted_run input) ≡ round.returned input
  unfolding round.returned
  returned_same = rw (sweeps_same, result_same)

  haplotypes_same : round.haplotype_at (unmuted_run input) ≡ round.haplotype_at input
  unfolding round.haplotype_at
  haplotypes_same = fun_ext (λ e. rw result_same)

  likelihoods_same : round.likelihood_at (unmuted_run input) ≡ round.likelihood_at input
  unfolding round.likelihood_at
  likelihoods_same = fun_ext (λ e. rw (sweeps_same, result_same))

  latest_same : round.latest_score (unmuted_run input) ≡ round.latest_score input
  unfolding round.latest_score
  latest_same = fun_ext (λ v. rw (sweeps_same, orders_same, result_same))

  tables_same : round.posteriors (unmuted_run input) ≡ round.posteriors input
  unfolding round.posteriors unmuted_case
  tables_same = fun_ext (λ v. rw latest_same)

  posterior_same : round.posterior_at (unmuted_run input) ≡ round.posterior_at input
  unfolding round.posterior_at
  posterior_same = fun_ext (λ e. rw tables_same)

  finals_same : round.final (unmuted_run input) ≡ round.final input
  unfolding round.final unmuted_case
  finals_same = fun_ext (λ v. rw tables_same)

-- ---- outcomes one after the other, the second only where the first is done
then_done : {X Y : Type 0} (o : Outcome X) (f g : X → Outcome Y) → ((x : X) → o ≡ done x → f x ≡ g x) → and_then o f ≡ and_then o g
unfolding and_then
then_done (refused n p) f g h = refl
then_done (done x) f g h = h x refl

-- ---- an accepted case
module _ (w : List ℤ) (b : List ℕ) (s : Sizes) (ok : check_case_outcome w b ≡ done s) where
  abbrev w' : List ℤ
  w' = unmuted_words w

  abbrev case : Case
  case = decode w b

  k : CaseIn w s
  k = case_in w b s ok

  check_same : check_case_outcome w b ≡ check_case_outcome (unmuted_words w) b
  check_same = ok ∙ sym (accepted_unmuted w b s ok)

  there : decode (unmuted_words w) b ≡ unmuted_case (decode w b)
  there = decoded_unmuted w b s ok

  low : le_z (decode w b).cutoff (pos 0) ≡ true
  unfolding within
  low = rw (cutoff_is w b) (both (le_z lowest_quality (cutoff_at w)) (le_z (cutoff_at w) (pos 0)) k.cutoff_in).1

  -- ---- operations that go by the variants alone
  filter_same : (quals : List Float) (limits : Limits) (before : List ℕ) → var_filter_written (decode w b) quals limits before ≡ var_filter_written (decode (unmuted_words w) b) quals limits before
  unfolding var_filter_written filter_of marked_dense dense counted too_deep unmuted_case
  filter_same quals limits before = rw there refl

  priors_same : (rates : Rates) (before : List ℤ) → genotype_priors_written rates (decode w b) before ≡ genotype_priors_written rates (decode (unmuted_words w) b) before
  unfolding genotype_priors_written prior_at unmuted_case
  priors_same rates before = rw there refl

  phase_same : (bytes : List ℕ) (sets : List ℤ) (before : PhaseSlices) → given_phase_written (decode w b) bytes sets before ≡ given_phase_written (decode (unmuted_words w) b) bytes sets before
  unfolding given_phase_written start_allele phased_flags phase_name set_name unmuted_case
  phase_same bytes sets before = rw there refl

  orders_written : (seed : ℕ) (before : List ℕ) → sweep_orders_written (decode w b) seed before ≡ sweep_orders_written (decode (unmuted_words w) b) seed before
  unfolding sweep_orders_written unmuted_case
  orders_written seed before = rw there refl

  -- ---- calling without haplotypes
  nohap_same : (rates : Rates) (before : nohap.CallSlices) → call_genotypes_no_haplotypes_outcome w b rates before ≡ call_genotypes_no_haplotypes_outcome (unmuted_words w) b rates before
  unfolding call_genotypes_no_haplotypes_outcome unmuted_case
  nohap_same rates before = rw (← check_same, there, posteriors_same (decode w b) low rates) refl

  nohap_written_same : (rates : Rates) (before : nohap.CallSlices) → call_genotypes_no_haplotypes_written rates (decode w b) before ≡ call_genotypes_no_haplotypes_written rates (decode (unmuted_words w) b) before
  nohap_written_same rates before = rw there (sym (nohap_written (decode w b) low rates before))

  -- ---- fragment lines
  buffer_same : (single : Bool) → flist_buffer (decode w b) single ≡ flist_buffer (decode (unmuted_words w) b) single
  unfolding flist_buffer unmuted_case
  buffer_same single = rw there (sym (lines_same (decode w b) low single 0 (decode w b).fragments))

  lines_there : (single : Bool) → flist_lines (decode w b) single ≡ flist_lines (decode (unmuted_words w) b) single
  unfolding flist_lines unmuted_case
  lines_there single = rw there (sym (line_count_same (decode w b) low single (decode w b).fragments))

  flist_same : (single : Bool) (before : List ℕ) → generate_flist_buffer_outcome w b single before ≡ generate_flist_buffer_outcome (unmuted_words w) b single before
  unfolding generate_flist_buffer_outcome
  flist_same single before = rw (check_same, buffer_same single, lines_there single)

  flist_written : (single : Bool) (before : List ℕ) → generate_flist_buffer_written (decode w b) single before ≡ generate_flist_buffer_written (decode (unmuted_words w) b) single before
  unfolding generate_flist_buffer_written
  flist_written single before = rw (buffer_same single)

  -- ---- the run
  module _ (rates : Rates) (phase orders : List ℕ) (limit : ℕ) where
    abbrev here : RoundInput
    here = round_input w b rates phase orders limit

    abbrev other : RoundInput
    other = round_input (unmuted_words w) b rates phase orders limit

    run_there : run_of other ≡ unmuted_run (run_of here)
    unfolding phased_flags start_haplotypes start_allele unmuted_case
    run_there = rw there refl

    run_same : (sets : List ℤ) (before : RoundSlices) → call_genotypes_with_haplotypes_outcome here sets before ≡ call_genotypes_with_haplotypes_outcome other sets before
    unfolding call_genotypes_with_haplotypes_outcome unmuted_case
    run_same sets before = rw (← check_same, run_there, there, tables_same (run_of here) low, returned_same (run_of here) low) refl

    run_written : (before : RoundSlices) → call_genotypes_with_haplotypes_written here before ≡ call_genotypes_with_haplotypes_written other before
    unfolding call_genotypes_with_haplotypes_written unmuted_case
    run_written before =
        rw (run_there, there, haplotypes_same (run_of here) low, likelihoods_same (run_of here) low, posterior_same (run_of here) low, finals_same (run_of here) low, length-map (decode w b).fragments unmuted) refl

  -- ---- arrivals and departures
  module _ (phase haps : List ℕ) (kept : Values) where
    abbrev input : LateInput
    input = late_input w b phase haps kept

    abbrev input' : LateInput
    input' = late_input (unmuted_words w) b phase haps kept

    kept_same : kept_outcome input ≡ kept_outcome input'
    unfolding kept_outcome
    kept_same = rw (checked_unmuted w b s ok haps)

    -- past these tests the sizes are those of the case
    kept_sizes : (t : Sizes) → kept_outcome input ≡ done t → t ≡ s
    kept_sizes t e = (checked_in w b haps t (kept_checked input t e)).shape ∙ sym k.shape

    present_there : (f : ℕ) → (fragment_of (decode (unmuted_words w) b) f).present ≡ (fragment_of (decode w b) f).present
    present_there f = rw there (ap (λ (x : Fragment). x.present) (fragment_there (decode w b) f) ∙ present_same (fragment_of (decode w b) f))

    -- an arriving call is at one of the case's variants, whose k is the same
    call_there : (calls : List ℤ) (i : ℕ) → arriving_ok w s calls i ≡ arriving_ok (unmuted_words w) s calls i
    unfolding arriving_ok unmuted_case
    call_there calls i =
        let z = arriving_word calls i variant_field in
        by_test (below s.n z)
        (λ t.
        let v = nat_of z in
        let l = below_less s.n z t in
        let count : allele_count_at w v ≡ allele_count_at (unmuted_words w) v =
        sym (allele_count_is k b v l) ∙ sym (ap (λ (x : Case). allele_count (variant_of x v)) there) ∙ allele_count_is (case_in (unmuted_words w) b s (accepted_unmuted w b s ok)) b v l in
        rw count)
        (λ t. rw t)

    module _ (f : ℕ) (strand : ℤ) (calls : List ℤ) where
      arrived_same : arrived_values input f strand calls ≡ arrived_values input' f strand calls
      unfolding arrived_values phased_flags unmuted_case
      arrived_same = rw there refl

      arriving_same : arriving_outcome input f strand calls s ≡ arriving_outcome input' f strand calls s
      unfolding arriving_outcome room
      arriving_same =
          let tests : arriving_ok w s calls ≡ arriving_ok (unmuted_words w) s calls = fun_ext (call_there calls) in
          rw (tests, present_there f, free_unmuted w b s ok)

      arrive_same : arrive_outcome input f strand calls ≡ arrive_outcome input' f strand calls
      unfolding arrive_outcome
      arrive_same =
          rw (← kept_same, ← arrived_same)
          (then_done (kept_outcome input) _ _ (λ t e. rw (kept_sizes t e, arriving_same)))

      arrive_written_lem : beside_words (arrive_written input f strand calls) ≡ beside_words (arrive_written input' f strand calls)
      unfolding arrive_written
      arrive_written_lem = rw arrived_same

    module _ (f : ℕ) where
      departed_same : departed_values input f ≡ departed_values input' f
      unfolding departed_values departed unmuted_case
      departed_same =
          let cutoff = (decode w b).cutoff in
          let counts : read_count cutoff (fragment_of (unmuted_case (decode w b)) f) ≡ read_count cutoff (fragment_of (decode w b) f) =
          fun_ext (λ e. ap (λ (x : Fragment). read_count cutoff x e) (fragment_there (decode w b) f) ∙ count_same cutoff low e (fragment_of (decode w b) f)) in
          rw (there, counts) refl

      depart_same : depart_outcome input f ≡ depart_outcome input' f
      unfolding depart_outcome
      depart_same = rw (← kept_same, ← departed_same, present_there f)

      depart_written_lem : beside_words (depart_written input f) ≡ beside_words (depart_written input' f)
      unfolding depart_written
      depart_written_lem = rw departed_same

  same_answers : SameAnswers b w (unmuted_words w)
  unfolding var_filter_outcome genotype_priors_outcome given_phase_outcome sweep_orders_outcome
  same_answers = record {
    check = check_same;
    filter = λ quals limits before. (rw check_same, filter_same quals limits before);
    priors = λ rates before. (rw check_same, priors_same rates before);
    nohap = λ rates before. (nohap_same rates before, nohap_written_same rates before);
    phase = λ bytes sets before. (rw check_same, phase_same bytes sets before);
    flist = λ single before. (flist_same single before, flist_written single before);
    orders = λ seed before. (rw check_same, orders_written seed before);
    run = λ rates phase sets orders limit before. (run_same rates phase orders limit sets before, run_written rates phase orders limit before);
    arrive = λ phase haps kept f strand calls. (arrive_same phase haps kept f strand calls, arrive_written_lem phase haps kept f strand calls);
    depart = λ phase haps kept f. (depart_same phase haps kept f, depart_written_lem phase haps kept f);
  }

-- of every accepted input
pub as_unmuted : (w : List ℤ) (b : List ℕ) (s : Sizes) → check_case_outcome w b ≡ done s → AsUnmuted w b s
as_unmuted w b s ok = record {
  accepted = accepted_unmuted w b s ok;
  stands = decoded_unmuted w b s ok;
  voting = λ f. rw (fragment_there (decode w b) f) (votes_unmuted (fragment_of (decode w b) f));
  same = same_answers w b s ok;
}
