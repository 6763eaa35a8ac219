-- What the tests of one record say: the head, a variant, a call.
-- Assumes nothing.
use mathlib.Core.Path.{◌≡◌, refl, ap}
use mathlib.Core.Bool.{Bool, true, false, cond, ◌&&◌}
use mathlib.Core.List.{List, [], ◌∷◌, ◌++◌}
use Prim.Native.Nat.{ℕ, zero, suc, ◌+◌, ◌-◌, ◌*◌, ◌≤◌, ◌<◌}
use native.Mathlib.Omega.{arith}
use native.Mathlib.Decide.{dec_lt}
use borrow.Author.Tests.{lt-ltb, le-ltb, ne_eqb, leb-true, ltb-true, eqb-true}
use lib.ListN.{length, get_or}
use lib.IntN.{ℤ, pos}
use lib.Dec.{leb, ltb, lit<}
use lib.Signed.{le_z}
use Rattle.variants_and_fragments.specs.declared.Sizes.{Sizes}
use Rattle.variants_and_fragments.specs.Words.{word, within, below, none, nat_of}
use Rattle.variants_and_fragments.specs.First.{first_fail}
use Rattle.variants_and_fragments.specs.Inner.First.{first_false}
use Rattle.variants_and_fragments.specs.Layout.{head_words, max_variants, max_fragments, max_calls, max_alleles, max_allele_length, lowest_quality, variants_field, fragments_field, calls_field, used_field, free_field, pos0_field, depth_field, genotype_field, allele_count_field, variant_field, allele_field, total_words, sizes_of, cutoff_at, variant_word, call_word, length_ok, pos0_at, genotype_at, allele_count_at, length_at, prior_pos0_at, haplotype_ok, all_of, variant_tests, variant_ok, call_variant_at, qual_at, one_minus_qual_at, call_words_ok, call_ok}
use Rattle.variants_and_fragments.specs.Inner.Head.{head_tests, head_fault}
use Rattle.variants_and_fragments.specs.Inner.Layout.{Sized, VariantIn, length_test}
use Rattle.variants_and_fragments.specs.Inner.Alleles.{VariantsIn}
use Rattle.variants_and_fragments.specs.Inner.Accepted.{CallIn}
use Rattle.variants_and_fragments.proofs.Bools.{both, and_when}
use Rattle.variants_and_fragments.proofs.First.{first_all, false_none}
use Rattle.variants_and_fragments.proofs.Readings.{nat_le}
use Rattle.variants_and_fragments.proofs.Ranges.{within_nat, within_low, within_top, below_nat, below_less, length_nat}

-- ---- the head
pub record HeadIn (w : List ℤ) : Type 0 where
  pub len_in : head_words ≤ length w
  pub n_in : (sizes_of w).n ≤ max_variants
  pub f_in : (sizes_of w).f ≤ max_fragments
  pub c_in : (sizes_of w).c ≤ max_calls
  pub cutoff_in : within lowest_quality (pos 0) (cutoff_at w) ≡ true
  pub used_in : (sizes_of w).used ≤ (sizes_of w).c
  pub free_in : (sizes_of w).free ≤ (sizes_of w).used
  pub all_in : length w ≡ total_words (sizes_of w)

cond_in : (b : Bool) (x : ℕ) → 7 ≤ cond b x 0 → (b ≡ true) × (7 ≤ x)
cond_in true x h = (refl, h)
cond_in false x h = absurd (omega arith)

pub head_in : (w : List ℤ) → 7 ≤ head_fault w → HeadIn w
unfolding head_fault
head_in w h =
    let c = cond_in (leb head_words (length w)) (first_false (head_tests w)) h in
    let at : (i : ℕ) → get_or (head_tests w) i true ≡ true = false_none (head_tests w) c.1 in
    record {
      len_in = leb-true _ _ c.0;
      n_in = within_top 0 max_variants (word w variants_field) (at 0);
      f_in = within_top 0 max_fragments (word w fragments_field) (at 1);
      c_in = within_top 0 max_calls (word w calls_field) (at 2);
      cutoff_in = at 3;
      used_in = within_top 0 (sizes_of w).c (word w used_field) (at 4);
      free_in = within_top 0 (sizes_of w).used (word w free_field) (at 5);
      all_in = eqb-true _ _ (at 6);
    }

pub head_sized : (w : List ℤ) → 7 ≤ head_fault w → Sized w (sizes_of w)
head_sized w h = let i = head_in w h in record { size = i.all_in; n_top = i.n_in; f_top = i.f_in; c_top = i.c_in; used_top = i.used_in; free_top = i.free_in }

-- ---- a variant
pub all_nth : (bs : List Bool) → all_of bs ≡ true → (i : ℕ) → get_or bs i true ≡ true
all_nth [] h i = refl
all_nth (b ∷ []) h zero = h
all_nth (b ∷ []) h (suc i) = refl
all_nth (true ∷ c ∷ bs) h zero = refl
all_nth (true ∷ c ∷ bs) h (suc i) = all_nth (c ∷ bs) h i
all_nth (false ∷ c ∷ bs) h i = let z : ◌≡◌ {A = ℕ} 0 1 = cc in absurd (omega arith)

-- the length of an allele, present or not
module _ (w : List ℤ) (v j : ℕ) (h : length_ok w v j ≡ true) where
  len_is : length_test j (allele_count_at w v) (length_at w v j) ≡ true
  len_is = rw (length_nat w v j) at h

  len_present : j < allele_count_at w v → (1 ≤ length_at w v j) × (length_at w v j ≤ max_allele_length)
  len_present l =
      let b = both (leb 1 (length_at w v j)) (leb (length_at w v j) max_allele_length) (rw (lt-ltb j (allele_count_at w v) l) at len_is) in
      (leb-true _ _ b.0, leb-true _ _ b.1)

  len_absent : allele_count_at w v ≤ j → length_at w v j ≡ 0
  len_absent l = eqb-true (length_at w v j) 0 (rw (le-ltb j (allele_count_at w v) l) at len_is)

  len_top : length_at w v j ≤ max_allele_length
  len_top = elim (dec_lt j (allele_count_at w v)) [ yes l ↦ (len_present l).1 | no l ↦ let e = len_absent (omega arith) in omega arith ]

pub variant_facts : (w : List ℤ) (h : List ℕ) (v : ℕ) → variant_ok w h v ≡ true → VariantIn w v
unfolding variant_ok
variant_facts w h v ok =
    let at : (i : ℕ) → get_or (variant_tests w h v) i true ≡ true = all_nth (variant_tests w h v) ok in
    let k = allele_count_at w v in
    let top : k ≤ 3 = within_top 1 max_alleles (variant_word w v allele_count_field) (at 3) in
    let long : (j : ℕ) → j < 3 → length_ok w v j ≡ true = below_three (length_ok w v) (at 6) (at 7) (at 8) in
    record {
      pos_in = at 0;
      rises = at 1;
      dp_in = at 2;
      k_low = within_low 1 (pos max_alleles) (variant_word w v allele_count_field) (at 3);
      k_high = top;
      a_in = below_less k (variant_word w v (genotype_field + 0)) (at 4);
      b_in = below_less k (variant_word w v (genotype_field + 1)) (at 5);
      len0 = len_top w v 0 (at 6);
      len1 = len_top w v 1 (at 7);
      len2 = len_top w v 2 (at 8);
      present = λ j l. (len_present w v j (long j (omega arith)) l).0;
      absent = λ j l m. len_absent w v j (long j m) l;
    }
  where
    below_three : (p : ℕ → Bool) → p 0 ≡ true → p 1 ≡ true → p 2 ≡ true → (j : ℕ) → j < 3 → p j ≡ true
    below_three p a b c zero l = a
    below_three p a b c (suc zero) l = b
    below_three p a b c (suc (suc zero)) l = c
    below_three p a b c (suc (suc (suc j))) l = absurd (omega arith)

there : (w : List ℤ) (h : List ℕ) (v i : ℕ) → haplotype_ok w h v i ≡ true → 2 * v + i < length h → get_or h (2 * v + i) 0 < allele_count_at w v
there w h v i ok long = ltb-true _ _ (rw (lt-ltb (2 * v + i) (length h) long) at ok)

pub variants_in : (w : List ℤ) (h : List ℕ) (s : Sizes) → s.n ≤ first_fail (variant_ok w h) s.n → VariantsIn w s
variants_in w h s k = record { each = λ v l. variant_facts w h v (first_all (variant_ok w h) s.n k v l) }

-- positions do not fall
pub pos0_up : {w : List ℤ} {s : Sizes} → VariantsIn w s → (v : ℕ) → suc v < s.n → pos0_at w v ≤ pos0_at w (suc v)
pos0_up {w} k v h =
    let e : suc v - 1 ≡ v = omega arith in
    let q : le_z (variant_word w v pos0_field) (variant_word w (suc v) pos0_field) ≡ true = rw (ne_eqb (suc v) 0 (λ z. omega arith), e) at (k.each (suc v) h).rises in
    nat_le (variant_word w v pos0_field) (variant_word w (suc v) pos0_field) (k.each v (omega arith)).pos_in q

-- where there are no haplotypes, nothing is asked of them
none_left : (w : List ℤ) (v i : ℕ) → haplotype_ok w [] v i ≡ true
none_left w v i = rw (le-ltb (2 * v + i) 0 (omega arith)) refl

-- where the code's tests of a variant's record, on numbers, are the definition's
pub variant_tests_lem : (w : List ℤ) (v : ℕ) → variant_ok w [] v ≡ (
    le_z (pos 0) (variant_word w v pos0_field)
    && (le_z (prior_pos0_at w v) (variant_word w v pos0_field)
    && (le_z (pos 0) (variant_word w v depth_field)
    && ((leb 1 (allele_count_at w v) && leb (allele_count_at w v) max_alleles)
    && (ltb (genotype_at w v 0) (allele_count_at w v)
    && (ltb (genotype_at w v 1) (allele_count_at w v)
    && (length_test 0 (allele_count_at w v) (length_at w v 0) && (length_test 1 (allele_count_at w v) (length_at w v 1) && length_test 2 (allele_count_at w v) (length_at w v 2)))))))))
unfolding variant_ok
variant_tests_lem w v =
    let k = within_nat 1 max_alleles (variant_word w v allele_count_field) (lit< tt) in
    rw (none_left w v 0, none_left w v 1, and_true (length_ok w v 2), length_nat w v 0, length_nat w v 1, length_nat w v 2, k)
    (ap (λ (b : Bool). le_z (pos 0) (variant_word w v pos0_field) && (le_z (prior_pos0_at w v) (variant_word w v pos0_field) && (le_z (pos 0) (variant_word w v depth_field) && b)))
    (and_when (leb 1 (allele_count_at w v) && leb (allele_count_at w v) max_alleles) _ _ (λ h.
    let top : allele_count_at w v ≤ none = omega (arith, leb-true (allele_count_at w v) max_alleles (both (leb 1 (allele_count_at w v)) (leb (allele_count_at w v) max_alleles) h).1) in
    rw (below_nat (allele_count_at w v) (variant_word w v (genotype_field + 0)) top, below_nat (allele_count_at w v) (variant_word w v (genotype_field + 1)) top))))
  where
    and_true : (b : Bool) → (b && true) ≡ b
    and_true true = refl
    and_true false = refl

-- a haplotype that is there is below k
pub haplotype_facts : (w : List ℤ) (h : List ℕ) (v : ℕ) → variant_ok w h v ≡ true → (i : ℕ) → i < 2 → 2 * v + i < length h → get_or h (2 * v + i) 0 < allele_count_at w v
unfolding variant_ok
haplotype_facts w h v ok zero l long = there w h v 0 (all_nth (variant_tests w h v) ok 9) long
haplotype_facts w h v ok (suc zero) l long = there w h v 1 (all_nth (variant_tests w h v) ok 10) long
haplotype_facts w h v ok (suc (suc i)) l long = absurd (omega arith)

-- the record's tests, and those of its haplotypes
pub variant_and_haplotypes : (w : List ℤ) (h : List ℕ) (v : ℕ) → variant_ok w h v ≡ (variant_ok w [] v && (haplotype_ok w h v 0 && haplotype_ok w h v 1))
unfolding variant_ok
variant_and_haplotypes w h v = rw (none_left w v 0, none_left w v 1) (last_two (
    le_z (pos 0) (variant_word w v pos0_field)
    ∷ le_z (prior_pos0_at w v) (variant_word w v pos0_field)
    ∷ le_z (pos 0) (variant_word w v depth_field)
    ∷ within (pos 1) (pos max_alleles) (variant_word w v allele_count_field)
    ∷ below (allele_count_at w v) (variant_word w v (genotype_field + 0))
    ∷ below (allele_count_at w v) (variant_word w v (genotype_field + 1))
    ∷ length_ok w v 0
    ∷ length_ok w v 1
    ∷ length_ok w v 2
    ∷ []) (haplotype_ok w h v 0) (haplotype_ok w h v 1))
  where
    last_two : (bs : List Bool) (x y : Bool) → all_of (bs ++ (x ∷ y ∷ [])) ≡ (all_of (bs ++ (true ∷ true ∷ [])) && (x && y))
    last_two [] x y = refl
    last_two (true ∷ []) x y = refl
    last_two (false ∷ []) x y = refl
    last_two (true ∷ c ∷ bs) x y = last_two (c ∷ bs) x y
    last_two (false ∷ c ∷ bs) x y = refl

-- so a variant that is right with haplotypes is right without
pub variant_alone : (w : List ℤ) (h : List ℕ) (v : ℕ) → variant_ok w h v ≡ true → variant_ok w [] v ≡ true
variant_alone w h v ok = (both (variant_ok w [] v) (haplotype_ok w h v 0 && haplotype_ok w h v 1) (rw (variant_and_haplotypes w h v) at ok)).0

-- ---- a call
pub call_facts : (w : List ℤ) (s : Sizes) (r : ℕ) → call_ok w s r ≡ true → CallIn w s r
unfolding call_ok
call_facts w s r h =
    let a = both (below s.n (call_word w s r variant_field)) _ h in
    let b = both (below (allele_count_at w (call_variant_at w s r)) (call_word w s r allele_field)) _ a.1 in
    let c = both (within lowest_quality (pos 0) (qual_at w s r)) (within lowest_quality (pos 0) (one_minus_qual_at w s r)) b.1 in
    record { variant_in = below_less _ _ a.0; allele_in = below_less _ _ b.0; qual_in = c.0; other_in = c.1 }

-- where its variant is one of the case, the code's tests of a call's four words are the definition's
module _ (w : List ℤ) (s : Sizes) (variant allele qual one_minus_qual : ℤ) (z : Sized w s) where
  pub call_tests : VariantsIn w s → nat_of variant < s.n → call_words_ok w s variant allele qual one_minus_qual ≡ (
      ltb (nat_of allele) (allele_count_at w (nat_of variant)) && (within lowest_quality (pos 0) qual && within lowest_quality (pos 0) one_minus_qual))
  call_tests k h =
      rw (below_nat s.n variant (omega (arith, z.n_top)), lt-ltb (nat_of variant) s.n h, below_nat (allele_count_at w (nat_of variant)) allele (omega (arith, (k.each (nat_of variant) h).k_high)))

  pub call_off : s.n ≤ nat_of variant → false ≡ call_words_ok w s variant allele qual one_minus_qual
  call_off h = rw (below_nat s.n variant (omega (arith, z.n_top)), le-ltb (nat_of variant) s.n h)
