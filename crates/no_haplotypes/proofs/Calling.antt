-- Calling an accepted case: its piles, its priors, and that what is made from them are the posteriors of the definition.
-- Assumes nothing.
use Rattle.std.proofs.Common.{◌≡◌, List, [], map, ℕ, ◌+◌, ◌-◌, ◌*◌, ◌/◌, ◌%◌, ◌^◌, ◌≤◌, ◌<◌, eqb, ltb, Float, ℤ, pos, nat_abs, length, get_or, drop, refl, sym, ap, ◌∙◌, arith, length-take}
use Rattle.std.proofs.lemmas.List.{length-map, get_or-map, get_or-drop, drop-take}
use Rattle.steps.proofs.Signed.{by_test}
use Rattle.variants_and_fragments.specs.declared.Sizes.{Sizes}
use Rattle.variants_and_fragments.specs.Inner.Accepted.{CaseIn}
use Rattle.variants_and_fragments.specs.Inner.Case.{All}
use Rattle.variants_and_fragments.specs.Case.{Case, Variant, Call, allele_count, variant_of, call_count}
use Rattle.variants_and_fragments.specs.Check.{check_case_outcome}
use Rattle.variants_and_fragments.specs.Decode.{decode}
use Rattle.variants_and_fragments.specs.Layout.{allele_count_at}
use Rattle.variants_and_fragments.specs.Pileup.{only, pile_of}
use Rattle.variants_and_fragments.specs.Refusals.{done}
use Rattle.variants_and_fragments.specs.Visits.{Visit, visits, visited}
use Rattle.variants_and_fragments.specs.Written.{written}
use Rattle.variants_and_fragments.proofs.Alls.{all_at, all_imp}
use Rattle.variants_and_fragments.proofs.Decoded.{allele_count_is}
use Rattle.variants_and_fragments.proofs.GoodCases.{good_case}
use Rattle.variants_and_fragments.proofs.Only.{only_length}
use Rattle.variants_and_fragments.proofs.Sums.{count_le, count_to_on, count_to_grows}
use Rattle.variants_and_fragments.proofs.Visits.{visits_top}
use Rattle.variants_and_fragments.proofs.Written.{written_at, written_length, written_same}
use Rattle.pileup.specs.Inner.Collected.{collected}
use Rattle.pileup.specs.Inner.Packed.{RowIn, unpacked, group_start, group_words, Grouped}
use Rattle.pileup.specs.Inner.Piles.{CallsPiled}
use Rattle.pileup.proofs.CaseRows.{piles_are, ambiguous_collected}
use Rattle.pileup.proofs.Groups.{unpack_all}
use Rattle.pileup.proofs.Packing.{in_packable}
use Rattle.genotype_probs.specs.declared.Rates.{Rates}
use Rattle.genotype_probs.specs.Priors.{all_priors, prior_at}
use Rattle.genotype_probs.specs.Inner.Rates.{rates_fault}
use Rattle.genotype_probs.proofs.PriorSizes.{prior_small}
use Rattle.genotype_probs.proofs.TableSizes.{by_cond}
use Rattle.genotype_probs.proofs.TableSums.{tabulate_cong}
use Rattle.no_haplotypes.specs.NoHaplotypes.{pair_score, score_at, posteriors, calls_at, variant_answer, answer_at, qual_at, gq_at}
use Rattle.no_haplotypes.specs.Inner.Piles.{CallsHeld, Piled}
use Rattle.no_haplotypes.specs.Inner.Tally.{scored_from, posteriors_from}
use Rattle.no_haplotypes.specs.Inner.Calling.{FewCalls, made_at, PriorsIn, VariantsCalled, AcceptedCalled}

-- ---- how many calls
calls_of : (case : Case) (v : ℕ) → calls_at case v ≤ call_count case
unfolding calls_at
calls_of case v =
    count_le case.fragments (λ fragment. length (only (λ (call : Call). eqb call.variant v) fragment.calls)) (λ fragment. length fragment.calls) (λ fragment. only_length (λ (call : Call). eqb call.variant v) fragment.calls)

-- the calls do not go by the bases
same_calls : (w : List ℤ) (b other : List ℕ) (v : ℕ) → calls_at (decode w b) v ≡ calls_at (decode w other) v
unfolding calls_at decode
same_calls w b other v = refl

pub few_calls : (w : List ℤ) (b : List ℕ) (s : Sizes) → check_case_outcome w b ≡ done s → FewCalls w
few_calls w b s h other v = omega (arith, same_calls w other b v, calls_of (decode w b) v, (good_case w b s h).calls_top)

-- ---- the calls of each variant, as the walk leaves them
module _ {w : List ℤ} {s : Sizes} (k : CaseIn w s) {rows row_ends ambiguous ends piles : List ℕ} {count : ℕ} (made : CallsPiled w s rows row_ends ambiguous piles ends count) (long : s.n ≤ length ambiguous) where
  grouped : (b : List ℕ) → Grouped s.n s.f s.n (pile_of (decode w b)) ends piles
  grouped b = piles_are k b made.piles_made

  module _ (v : ℕ) (h : v < s.n) where
    abbrev lent : List ℕ
    lent = group_words ends piles v

    rows_lent : (b : List ℕ) → map unpacked lent ≡ pile_of (decode w b) v
    rows_lent b =
        let g = grouped b in
        let d : group_start ends v + (get_or ends v 0 - group_start ends v) ≡ get_or ends v 0 = omega (arith, g.rises v h) in
        ap (map unpacked) (sym (rw d at (drop-take (group_start ends v) (get_or ends v 0 - group_start ends v) piles)) ∙ g.are v h)
        ∙ unpack_all (all_imp (λ row r. in_packable k.sized.n_top k.sized.f_top r) (g.rows_in v h))

    row_lent : (i : ℕ) → i < length lent → RowIn s.n s.f (unpacked (get_or lent i 0))
    row_lent i l =
        let rows : All (RowIn s.n s.f) (map unpacked lent) = rw (rows_lent []) ((grouped []).rows_in v h) in
        rw (get_or-map unpacked lent i 0 (unpacked 0) l) at (all_at rows i (unpacked 0) (rw length-map l))

    ambiguous_at : get_or ambiguous v 0 ≡ (collected w s).ambiguous v
    ambiguous_at = made.rows_made.ambiguous_counted.at v (omega arith)

    few_ambiguous : get_or ambiguous v 0 ≤ 16384
    unfolding visited
    few_ambiguous =
        omega (arith, ambiguous_at, count_to_on v (collected w s).ambiguous, count_to_grows (v + 1) s.n (collected w s).ambiguous (omega arith), made.rows_made.all_calls, length-map (visits w s) (λ (x : Visit). x.number), visits_top w s k s.f (omega arith), k.sized.used_top, k.sized.c_top)

    calls_held : CallsHeld w s v lent (get_or ambiguous v 0)
    calls_held = record {
      variant_in = h;
      few = rw length-take (omega (arith, (grouped []).few v h));
      rows_are = rows_lent;
      rows_in = row_lent;
      ambiguous_is = λ b. ambiguous_at ∙ ambiguous_collected k b v;
      ambiguous_few = few_ambiguous;
    }

  pub piled : Piled w s ambiguous ends piles
  piled = record {
    ends_long = (grouped []).ends_long;
    ambiguous_long = long;
    rises = (grouped []).rises;
    words_long = (grouped []).long;
    held = calls_held;
  }

-- ---- the priors
all_small : (rates : Rates) → rates_fault rates ≡ 7 → (variant : Variant) (p : ℕ) → nat_abs (all_priors rates variant p) ≤ 2 ^ 21
unfolding all_priors
all_small rates e variant p = let k = allele_count variant in by_cond (ltb p (k * k)) _ (λ _. prior_small rates e variant (p / k) (p % k))

module _ {w : List ℤ} {s : Sizes} (b : List ℕ) (rates : Rates) (before post : List ℤ) (k : CaseIn w s) (accepted : rates_fault rates ≡ 7) (long : length before ≡ 9216) (e : post ≡ written (prior_at rates (decode w b)) (9 * s.n) before) where
  prior_here : (i : ℕ) → i < 9 * s.n → get_or post i (pos 0) ≡ prior_at rates (decode w b) i
  prior_here i h = ap (λ (l : List ℤ). get_or l i (pos 0)) e ∙ written_at (prior_at rates (decode w b)) (9 * s.n) before (pos 0) (omega (arith, k.sized.n_top)) i h

  pub priors_in : PriorsIn post s.n
  unfolding prior_at
  priors_in = record {
    room = omega (arith, ap length e, written_length (prior_at rates (decode w b)) (9 * s.n) before, k.sized.n_top);
    small = λ i h. omega (arith, ap nat_abs (prior_here i h), all_small rates accepted (variant_of (decode w b) (i / 9)) (i % 9));
  }

  -- what is made from them
  module _ (v : ℕ) (h : v < s.n) where
    count_here : allele_count_at w v ≡ allele_count (variant_of (decode w b) v)
    count_here = sym (allele_count_is k b v h)

    prior_of : (p : ℕ) → p < 9 → get_or (drop (9 * v) post) p (pos 0) ≡ all_priors rates (variant_of (decode w b) v) p
    unfolding prior_at
    prior_of p l =
        let q : (9 * v + p) / 9 ≡ v = omega arith in
        let r : (9 * v + p) % 9 ≡ p = omega arith in
        get_or-drop (9 * v) post p (pos 0) ∙ prior_here (9 * v + p) (omega arith) ∙ rw (q, r)

    score_is : (p : ℕ) → p < 9 → scored_from (drop (9 * v) post) (allele_count_at w v) (pile_of (decode w b) v) p ≡ score_at rates (decode w b) v p
    unfolding scored_from score_at pair_score all_priors
    score_is p l =
        let n = allele_count (variant_of (decode w b) v) in
        by_test (ltb p (n * n))
        (λ t. let d = rw t at (prior_of p l) in rw (count_here, t, d))
        (λ t. rw (count_here, t))

    pub made_is : made_at w post b v ≡ posteriors rates (decode w b) v
    unfolding posteriors_from posteriors
    made_is = rw (tabulate_cong 9 (scored_from (drop (9 * v) post) (allele_count_at w v) (pile_of (decode w b) v)) (score_at rates (decode w b) v) score_is, count_here)

  -- and so the answers
  pub accepted_called : {variants variants' : List ℤ} {quals gqs quals' gqs' : List Float} → VariantsCalled w s.n post variants quals gqs variants' quals' gqs' → AcceptedCalled w b rates s.n variants quals gqs variants' quals' gqs'
  unfolding answer_at variant_answer qual_at gq_at
  accepted_called {variants} {variants'} {quals} {gqs} c =
      record {
        variants_are = c.variants_are b ∙ written_same _ (answer_at rates (decode w b)) (13 * s.n) variants (λ i m. let h : i / 13 < s.n = omega arith in rw (made_is (i / 13) h, count_here (i / 13) h));
        quals_are = c.quals_are b ∙ written_same _ (qual_at rates (decode w b)) s.n quals (λ v m. rw (made_is v m));
        gqs_are = c.gqs_are b ∙ written_same _ (gq_at rates (decode w b)) s.n gqs (λ v m. rw (made_is v m, count_here v m));
      }
