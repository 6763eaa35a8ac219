-- Words that change one fragment of an accepted case as OneChanged says stand for the case with that fragment exchanged: the variants and the other
-- fragments are decoded from words that are kept.
-- Assumes nothing.
use mathlib.Core.Path.{◌≡◌, refl, sym, ap, ◌∙◌}
use mathlib.Core.Bool.{true}
use mathlib.Core.List.{List, [], ◌∷◌, map}
use Prim.Native.Nat.{ℕ, zero, suc, ◌+◌, ◌≤◌, ◌<◌}
use native.Mathlib.Omega.{arith}
use native.Mathlib.Decide.{ℕ_discrete}
use borrow.Author.Tests.{eq-eqb}
use lib.Dec.{eqb}
use lib.IntN.{ℤ}
use lib.ListN.{set, length-set}
use lib.Seq.{ext_get_or, get_or-set_same, get_or-set_other}
use Rattle.variants_and_fragments.specs.declared.Sizes.{Sizes}
use Rattle.variants_and_fragments.specs.Case.{Case, no_fragment}
use Rattle.variants_and_fragments.specs.Layout.{cutoff_at, cutoff_field, first_field, strand_field, pos0_field, depth_field, genotype_field, variant_word, allele_count_at}
use Rattle.variants_and_fragments.specs.Chain.{chain_of, memb}
use Rattle.variants_and_fragments.specs.Decode.{tabulate, allele_start, allele_at, variant_from, call_from, fragment_from, decode}
use Rattle.variants_and_fragments.specs.Inner.Accepted.{CaseIn}
use Rattle.variants_and_fragments.proofs.Bools.{or_right}
use Rattle.variants_and_fragments.proofs.Decoded.{tabulate_length, tabulate_at}
use Rattle.genotype_probs.proofs.TableSums.{tabulate_cong}
use Rattle.late_reads.specs.Values.{exchanged}
use Rattle.late_reads.proofs.OneChanged.{room_as, Changed, variant_word_lem, allele_count_same, call_kept, chain_same, sizes_after}
use Rattle.late_reads.proofs.AcceptedAfter.{length_same, start_same}

-- ---- lists
map_same : {X : Type 0} (g h : ℕ → X) (l : List ℕ) → ((x : ℕ) → memb x l ≡ true → g x ≡ h x) → map g l ≡ map h l
unfolding memb
map_same g h [] e = refl
map_same g h (y ∷ ys) e = rw (e y (rw (eq-eqb y y refl) refl), map_same g h ys (λ x m. e x (or_right (eqb x y) (memb x ys) m)))

-- a table with one entry changed
tabulate_set : {X : Type 0} (n : ℕ) (g h : ℕ → X) (f : ℕ) (d : X) → ((i : ℕ) → i < n → (i ≡ f → ⊥) → g i ≡ h i) → tabulate n g ≡ set (tabulate n h) f (g f)
tabulate_set n g h f d same = ext_get_or d (tabulate n g) (set (tabulate n h) f (g f)) (tabulate_length n g ∙ sym (tabulate_length n h) ∙ sym (length-set (tabulate n h) f (g f))) (λ i l.
    let m : i < n = omega (arith, tabulate_length n g) in
    tabulate_at n g i d m ∙ elim (ℕ_discrete i f) [
      | yes e ↦ rw e (sym (get_or-set_same (tabulate n h) f (g f) d (omega (arith, tabulate_length n h))))
      | no e ↦ same i m e ∙ sym (tabulate_at n h i d m) ∙ sym (get_or-set_other (tabulate n h) f i (g f) d e)
    ])

-- the case of the sizes
abbrev decode_as : List ℤ → List ℕ → Sizes → Case
decode_as w b s = record { variants = tabulate s.n (variant_from w b); fragments = tabulate s.f (fragment_from w s); cutoff = cutoff_at w }

module _ {w w' : List ℤ} {s : Sizes} {u v f : ℕ} {own rest : List ℕ} (k : CaseIn w s) (changed : Changed w w' s u v f own rest) (b : List ℕ) where
  -- ---- a variant
  module _ (x : ℕ) (l : x < s.n) where
    allele_start_same : (j : ℕ) → j ≤ 3 → allele_start w' x j ≡ allele_start w x j
    unfolding allele_start
    allele_start_same zero m = start_same k changed.keeps x (omega arith)
    allele_start_same (suc j) m = rw (allele_start_same j (omega arith), length_same k changed.keeps x j l (omega arith))

    allele_same : (j : ℕ) → j < 3 → allele_at w' b x j ≡ allele_at w b x j
    unfolding allele_at
    allele_same j m = rw (allele_start_same j (omega arith), length_same k changed.keeps x j l m)

    variant_same : variant_from w' b x ≡ variant_from w b x
    unfolding variant_from
    variant_same =
        let at : (field : ℕ) → field < 8 → variant_word w' x field ≡ variant_word w x field = λ field. variant_word_lem k changed.keeps x field l in
        let count = allele_count_same k changed.keeps x l in
        let top = (k.variants.each x l).k_high in
        let alleles : tabulate (allele_count_at w' x) (allele_at w' b x) ≡ tabulate (allele_count_at w x) (allele_at w b x) =
        rw count (tabulate_cong (allele_count_at w x) (allele_at w' b x) (allele_at w b x) (λ j m. allele_same j (omega arith))) in
        rw (at pos0_field (omega arith), at depth_field (omega arith), at (genotype_field + 0) (omega arith), at (genotype_field + 1) (omega arith), alleles)

  -- ---- another fragment
  fragment_same : (g : ℕ) → g < s.f → (g ≡ f → ⊥) → fragment_from w' (room_as s u v) g ≡ fragment_from w s g
  unfolding fragment_from
  fragment_same g l other =
      let calls : map (call_from w' (room_as s u v)) (chain_of w' (room_as s u v) g) ≡ map (call_from w s) (chain_of w s g) =
      rw (chain_same k changed.keeps g l other)
      (map_same (call_from w' (room_as s u v)) (call_from w s) (chain_of w s g) (λ r m. call_kept k changed.keeps g l other r m)) in
      rw (changed.keeps.others g first_field l other (omega arith), changed.keeps.others g strand_field l other (omega arith), calls)

  -- ---- the case
  pub decoded_changed : decode w' b ≡ exchanged (decode w b) f (fragment_from w' (room_as s u v) f)
  unfolding decode exchanged
  decoded_changed =
      let variants = tabulate_cong s.n (variant_from w' b) (variant_from w b) variant_same in
      let fragments = tabulate_set s.f (fragment_from w' (room_as s u v)) (fragment_from w s) f no_fragment fragment_same in
      let cutoff : cutoff_at w' ≡ cutoff_at w = changed.keeps.front cutoff_field (omega arith) (λ e. omega arith) (λ e. omega arith) in
      let same : decode_as w' b (room_as s u v) ≡ exchanged (decode_as w b s) f (fragment_from w' (room_as s u v) f) = rw (variants, fragments, cutoff) in
      ap (decode_as w' b) (sizes_after k changed.keeps) ∙ same ∙ ap (λ (t : Sizes). exchanged (decode_as w b t) f (fragment_from w' (room_as s u v) f)) k.shape
