-- From the lent slices to the case that they hold: a variant's rows are its pile, and its scores from the sums per allele are those of
-- the definitions. Assumes nothing.
use mathlib.Core.Path.{◌≡◌, refl, sym, ap, ◌∙◌, fun_ext}
use mathlib.Core.Bool.{Bool, true, false, not, cond}
use mathlib.Core.List.{List}
use Prim.Native.Nat.{ℕ, ◌+◌, ◌*◌, ◌/◌, ◌%◌, ◌^◌, ◌<◌, ◌≤◌}
use native.Mathlib.Omega.{arith}
use native.Mathlib.Nat.{zero-div, zero-mod}
use borrow.Author.Tests.{eq-eqb, ne_eqb}
use lib.Dec.{eqb}
use lib.ListN.{length, get_or, get_or-eq_default}
use lib.Seq.{sets}
use lib.IntN.{ℤ, pos, nat_abs, ◌+ℤ◌, ◌-ℤ◌}
use Rattle.steps.proofs.Signed.{cases, zlin, up_pos, dn_pos, parts_add, parts_minus}
use Rattle.variants_and_fragments.specs.Pileup.{Row}
use Rattle.variants_and_fragments.specs.Sums.{sum_over}
use Rattle.pileup.specs.Inner.Packed.{RowsIn, rows_at, group_start}
use Rattle.pileup.proofs.Groups.{group_rows, group_in}
use Rattle.genotype_probs.proofs.ListLaws.{down_abs}
use Rattle.genotype_probs.proofs.TableSums.{tabulate_cong, pair_in, place_in}
use Rattle.sweeps.specs.Sweeps.{SweepCase, allele0, allele1, score, score_with}
use Rattle.steps.specs.Logs.{mix_of}
use Rattle.sweeps.specs.Inner.Incremental.{pileup_from, share, which_value, row_value}
use Rattle.sweeps.proofs.Basics.{sum_over_cong}
use Rattle.sweeps.proofs.Scored.{score_pileup}
use Rattle.sweeps.proofs.Fours.{share_value}
use Rattle.likelihoods.specs.Inner.Held.{SweepReads, Held, Liks, Within}
use Rattle.likelihoods.specs.declared.pair.Pair.{Pair}
use Rattle.call_genotypes.specs.declared.score.Mixes.{Mixes}
use Rattle.likelihoods.specs.Inner.Pairs.{pair_at}
use Rattle.call_genotypes.specs.Inner.Scores.{row_mixes, turn, PileFits, AlleleSums, sums_at, rise_of, pair_rise, below_first, scores_of, ScoresRoom, SweepState, VisitStart, over_first, scored_at}
use Rattle.call_genotypes.specs.Inner.Piles.{PileIs}
use Rattle.call_genotypes.proofs.RiseLaws.{row_four}
use Rattle.call_genotypes.proofs.RiseSums.{pairs_are}

-- rows of a case are rows of a larger one
rows_wider : {n f a e : ℕ} {words : List ℕ} (n' f' : ℕ) → n ≤ n' → f ≤ f' → RowsIn n f words a e → RowsIn n' f' words a e
rows_wider n' f' hn hf r = record {
  few = r.few;
  long = r.long;
  rows_in = λ p l u. let i = r.rows_in p l u in record {
    fragment_in = omega (arith, i.fragment_in);
    variant_in = omega (arith, i.variant_in);
    allele_in = i.allele_in;
    qual_in = i.qual_in;
    one_minus_qual_in = i.one_minus_qual_in;
  };
}

-- what is common to two scores falls out of their difference
apart : (p q n s r : ℤ) → (p +ℤ (pos 0 -ℤ (q +ℤ r))) +ℤ s ≡ (p +ℤ (n +ℤ s)) -ℤ (q +ℤ (n +ℤ r))
apart p q n s r =
    let z = pos 0 -ℤ (q +ℤ r) in
    omega (zlin, up_pos 0, dn_pos 0, parts_add q r, parts_minus (pos 0) (q +ℤ r), parts_add p z, parts_add (p +ℤ z) s, parts_add n s, parts_add p (n +ℤ s), parts_add n r, parts_add q (n +ℤ r), parts_minus (p +ℤ (n +ℤ s)) (q +ℤ (n +ℤ r)))

-- ---- what stands before a visit
even_odd : {X : Type 0} (i : ℕ) → (i ≡ 2 * (i / 2) → X) → (i ≡ 2 * (i / 2) + 1 → X) → X
even_odd i f g = cases (i % 2) 1 (λ h. f (omega arith)) (λ h. g (omega arith))

module _ {C : SweepCase} {reads : SweepReads} (H : Held C reads) where
  pub lik_within : (h : List ℕ) (lik : List ℤ) → Liks C h lik → Within (2 ^ 32) lik
  lik_within h lik L i = cases i (length lik)
      (λ l. even_odd i
      (λ e. rw (e, L.firsts (i / 2) (omega (arith, L.long))) (down_abs (2 ^ 32) _ (H.likelihoods_in C.phased (allele0 h) (i / 2) (omega (arith, L.long)))))
      (λ e. rw (e, L.seconds (i / 2) (omega (arith, L.long))) (down_abs (2 ^ 32) _ (H.likelihoods_in C.phased (allele1 h) (i / 2) (omega (arith, L.long))))))
      (λ l. rw (get_or-eq_default lik (pos 0) l) (omega arith))

  module _ (v : ℕ) (in_n : v < C.n) where
    -- the rows of v's pile
    pub pile_rows : rows_at reads.piles (group_start reads.ends v) (get_or reads.ends v 0) ≡ pileup_from v 0 C.frags
    pile_rows = group_rows H.piles_are H.variants_top H.fragments_top v in_n

    rows_in : RowsIn C.n (length C.frags) reads.piles (group_start reads.ends v) (get_or reads.ends v 0)
    rows_in = group_in H.piles_are H.variants_top H.fragments_top v in_n

    pub pile_in : RowsIn 1024 4096 reads.piles (group_start reads.ends v) (get_or reads.ends v 0)
    pile_in = rows_wider 1024 4096 H.variants_top H.fragments_top rows_in

    pub pile_fits : {h : List ℕ} {lik : List ℤ} → Liks C h lik → PileFits lik reads.piles (group_start reads.ends v) (get_or reads.ends v 0)
    pile_fits {lik = lik} L = rows_wider 1024 (length lik / 2) H.variants_top (omega (arith, L.long)) rows_in

    -- the byte is 1 for a phased variant
    pub phased_is : not (eqb (get_or reads.ph v 0) 0) ≡ C.phased v
    phased_is = rw (H.ph_are v in_n) (go (C.phased v))
      where
        go : (b : Bool) → not (eqb (cond b 1 0) 0) ≡ b
        go true = refl
        go false = refl

    pub phased_yes : (get_or reads.ph v 0 ≡ 0 → ⊥) → C.phased v ≡ true
    phased_yes n = sym phased_is ∙ ap not (ne_eqb (get_or reads.ph v 0) 0 n)

    pub phased_no : get_or reads.ph v 0 ≡ 0 → C.phased v ≡ false
    phased_no e = sym phased_is ∙ ap not (eq-eqb (get_or reads.ph v 0) 0 e)

    pub scores_room : (post : List ℤ) → 9 * C.n ≤ length post → ScoresRoom reads.pri post v (get_or reads.ks v 0)
    scores_room post room = rw (H.ks_are v in_n) (record {
      v_top = omega (arith, H.variants_top);
      k_least = H.good.some_allele v in_n;
      k_top = H.good.three_alleles v in_n;
      pri_long = omega (arith, H.pri_long);
      post_long = omega arith;
      pri_small = λ p l. H.pri_small v p in_n l;
    })

-- the first pair's prior is one of them
pub first_small : {pri post : List ℤ} {v k : ℕ} → ScoresRoom pri post v k → nat_abs (get_or pri (9 * v) (pos 0)) ≤ 2 ^ 21
first_small {pri} {v = v} {k = k} room =
    let z : 9 * v + 0 ≡ 9 * v = omega arith in
    rw z at (room.pri_small 0 (omega (arith, place_in 0 0 k room.k_least room.k_least)))

-- ---- the scores
module _ {C : SweepCase} {reads : SweepReads} {state : SweepState} {v : ℕ} (S : VisitStart C reads state v) where
  abbrev H : Held C reads
  H = S.standing.held

  abbrev h : List ℕ
  h = state.hap

  abbrev L0 : ℕ → ℤ
  L0 f = get_or state.lik (2 * f) (pos 0)

  abbrev L1 : ℕ → ℤ
  L1 f = get_or state.lik (2 * f + 1) (pos 0)

  abbrev values : Row → ℕ → ℤ
  values = row_four (C.phased v) (allele0 h v) (allele1 h v) state.lik

  value_is : (row : Row) (w : ℕ) → row_value C v h L0 L1 row w ≡ values row w
  unfolding row_value row_four
  value_is row w = let m : C.mix ≡ mix_of = fun_ext (λ a. fun_ext (λ b. H.mix_is a b)) in rw m

  abbrev pile_of : List Row
  pile_of = pileup_from v 0 C.frags

  -- what neither haplotype's allele changes: common to the scores of all pairs
  abbrev common : ℤ
  common = sum_over pile_of (λ row. values row 0)

  module _ (turns : List ℤ) (of : List Mixes) (base : ℤ) (turns-are : (x : ℕ) → get_or turns x (pos 0) ≡ turn (C.phased v) (allele0 h v) (allele1 h v) x) (A : AlleleSums (row_mixes turns state.lik) pile_of of)
      (b : base ≡ below_first reads.pri of v) where
    pair_score_is : (i j : ℕ) → i < 3 → j < 3 → score_with C v h i j ≡ C.prior v i j +ℤ (common +ℤ pair_rise of i j)
    pair_score_is i j l m =
        score_pileup C H.good.rise v h (omega (arith, S.standing.haps.len, S.v_in)) L0 L1 S.standing.liks.firsts S.standing.liks.seconds i j
        ∙ ap (λ z. C.prior v i j +ℤ z)
        (sum_over_cong pile_of (share C v h L0 L1 i j) (λ row. values row (which_value i j row.call.allele))
        (λ row. share_value C v h L0 L1 i j row ∙ value_is row (which_value i j row.call.allele))
        ∙ pairs_are (C.phased v) (allele0 h v) (allele1 h v) turns state.lik turns-are pile_of of A i j l m)

    -- the first pair's
    some : 1 ≤ C.k v
    some = H.good.some_allele v S.v_in

    first_prior : get_or reads.pri (9 * v) (pos 0) ≡ C.prior v 0 0
    first_prior = let z : 9 * v + 0 ≡ 9 * v = omega arith in rw (z, zero-div (C.k v), zero-mod (C.k v)) at (H.pri_are v 0 S.v_in (omega (arith, place_in 0 0 (C.k v) some some)))

    first_score : score C v h 0 ≡ C.prior v 0 0 +ℤ (common +ℤ sums_at of 0 2)
    unfolding score rise_of
    first_score = rw (zero-div (C.k v), zero-mod (C.k v)) (pair_score_is 0 0 (omega arith) (omega arith))

    over_first_lem : (i j : ℕ) → i < 3 → j < 3 → (C.prior v i j +ℤ base) +ℤ pair_rise of i j ≡ score_with C v h i j -ℤ score C v h 0
    over_first_lem i j l m =
        rw (pair_score_is i j l m, first_score, b, first_prior) (apart (C.prior v i j) (C.prior v 0 0) common (pair_rise of i j) (sums_at of 0 2))

    scores_are : scores_of reads.pri of base v (C.k v) ≡ over_first (C.k v) (score C v h)
    unfolding score
    scores_are = tabulate_cong (C.k v * C.k v) _ _ (λ p l.
        let n = pair_in (C.k v) p some l in
        let t = H.good.three_alleles v S.v_in in
        ap (λ z. (z +ℤ base) +ℤ pair_rise of (p / C.k v) (p % C.k v)) (H.pri_are v p S.v_in l) ∙ over_first_lem (p / C.k v) (p % C.k v) (omega arith) (omega arith))

  pub in_haps : 2 * v + 1 < length h
  in_haps = omega (arith, S.standing.haps.len, S.v_in)

  -- the alleles that stand are two of three
  pub pair_three : (old : Pair) → old ≡ pair_at h v → (old.first < 3) × (old.second < 3)
  pair_three old e =
      let t = H.good.three_alleles v S.v_in in
      rw e (omega (arith, S.standing.haps.low v S.v_in), omega (arith, S.standing.haps.high v S.v_in))

  -- the same from what the code has: the pile, the flag of a phased variant, each allele's turn and the sums
  pub scored : (pile : List ℕ) (old : Pair) (phased : Bool) (turns : List ℤ) (of : List Mixes) (post' : List ℤ) (base : ℤ) → PileIs reads.ends reads.piles v pile → old ≡ pair_at h v
      → phased ≡ not (eqb (get_or reads.ph v 0) 0) → ((x : ℕ) → get_or turns x (pos 0) ≡ turn phased old.first old.second x)
      → AlleleSums (row_mixes turns state.lik) (rows_at pile 0 (length pile)) of
      → base ≡ below_first reads.pri of v
      → post' ≡ sets state.post (9 * v) (scores_of reads.pri of base v (get_or reads.ks v 0)) → post' ≡ scored_at C v state
  scored pile old phased turns of post' base P eo ep turns-are A b q =
      let w = rw (ep, phased_is H v S.v_in, eo) at turns-are in
      let B = rw (P.rows, pile_rows H v S.v_in) at A in
      q ∙ rw (H.ks_are v S.v_in, scores_are turns of base w B b)
