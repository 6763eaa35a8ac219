-- Words that change one fragment of an accepted case as OneChanged says are accepted, with the same bytes and haplotypes: each test of the check holds
-- by the words that are kept, and the tests of the chains by what is kept of them.
-- Assumes nothing.
use mathlib.Core.Path.{◌≡◌, refl, sym, ap, ◌∙◌, subst}
use mathlib.Core.Bool.{Bool, true, false, not, ◌||◌}
use mathlib.Core.List.{List}
use Prim.Native.Nat.{ℕ, zero, suc, ◌+◌, ◌-◌, ◌≤◌, ◌<◌}
use native.Mathlib.Omega.{arith}
use native.Mathlib.Decide.{ℕ_discrete}
use borrow.Author.Tests.{le-leb, leb-true}
use lib.IntN.{ℤ, pos, negsuc}
use Rattle.variants_and_fragments.specs.declared.Sizes.{Sizes}
use Rattle.variants_and_fragments.specs.Refusals.{done}
use Rattle.variants_and_fragments.specs.Words.{within, nat_of}
use Rattle.variants_and_fragments.specs.Layout.{max_strand, cutoff_at, cutoff_field, lowest_quality, pos0_field, depth_field, genotype_field, allele_count_field, length_field, first_field, strand_field, variant_word, fragment_word, length_at, variant_ok, call_ok}
use Rattle.variants_and_fragments.specs.Chain.{strand_at, memb, reached, is_reached, in_chain, reached_call_ok, fragment_ok, free_ok}
use Rattle.variants_and_fragments.specs.Alleles.{alleles_start, alleles_ok}
use Rattle.variants_and_fragments.specs.First.{first_fail}
use Rattle.variants_and_fragments.specs.Check.{check_case_and_haplotypes_outcome}
use Rattle.variants_and_fragments.specs.Inner.Head.{head_fault}
use Rattle.variants_and_fragments.specs.Inner.Accepted.{CaseIn}
use Rattle.variants_and_fragments.proofs.First.{first_cong, first_end, all_from, below_all}
use Rattle.variants_and_fragments.proofs.Ranges.{within_top}
use Rattle.variants_and_fragments.proofs.Heads.{head_right}
use Rattle.variants_and_fragments.proofs.Chain.{frag_in}
use Rattle.variants_and_fragments.proofs.Accepted.{Passed, accepts}
use Rattle.late_reads.proofs.OneChanged.{room_as, Keeps, Changed, sizes_after, sized_after, variant_word_lem, chain_good, free_good, reached_calls, whole_after}

-- a first call in −1..u is in −1..v where v is no less
wider : (u v : ℕ) (z : ℤ) → u ≤ v → within (negsuc 0) (pos u) z ≡ true → within (negsuc 0) (pos v) z ≡ true
unfolding within
wider u v (pos n) l h = le-leb n v (omega (arith, leb-true n u h))
wider u v (negsuc n) l h = h

-- ---- the variants and their bytes
module _ {w w' : List ℤ} {s : Sizes} {u v f : ℕ} (k : CaseIn w s) (keeps : Keeps w w' s u v f) where
  pub variant_ok_same : (h : List ℕ) (x : ℕ) → x < s.n → variant_ok w' h x ≡ variant_ok w h x
  unfolding variant_ok
  variant_ok_same h x l =
      let at : (field : ℕ) → field < 8 → variant_word w' x field ≡ variant_word w x field = λ field. variant_word_lem k keeps x field l in
      rw (at pos0_field (omega arith), at depth_field (omega arith), at allele_count_field (omega arith), at (genotype_field + 0) (omega arith), at (genotype_field + 1) (omega arith), at (length_field + 0) (omega arith), at (length_field + 1) (omega arith), at (length_field + 2) (omega arith), variant_word_lem k keeps (x - 1) pos0_field (omega arith) (omega arith))

  pub length_same : (x j : ℕ) → x < s.n → j < 3 → length_at w' x j ≡ length_at w x j
  length_same x j l m = ap nat_of (variant_word_lem k keeps x (length_field + j) l (omega arith))

  pub start_same : (x : ℕ) → x ≤ s.n → alleles_start w' x ≡ alleles_start w x
  unfolding alleles_start
  start_same zero l = refl
  start_same (suc x) l = rw (start_same x (omega arith), length_same x 0 (omega arith) (omega arith), length_same x 1 (omega arith) (omega arith), length_same x 2 (omega arith) (omega arith))

  bytes_same : (b : List ℕ) (x : ℕ) → x < s.n → alleles_ok w' b x ≡ alleles_ok w b x
  unfolding alleles_ok
  bytes_same b x l = rw (start_same x (omega arith), length_same x 0 l (omega arith), length_same x 1 l (omega arith), length_same x 2 l (omega arith))

module _ {w w' : List ℤ} {s : Sizes} {u v f : ℕ} {own rest : List ℕ} (k : CaseIn w s) (changed : Changed w w' s u v f own rest) where
  abbrev after : Sizes
  after = room_as s u v

  head_after : 7 ≤ head_fault w'
  head_after =
      let z = sized_after k changed.keeps in
      let cutoff : within lowest_quality (pos 0) (cutoff_at w') ≡ true = rw (changed.keeps.front cutoff_field (omega arith) (λ e. omega arith) (λ e. omega arith)) k.cutoff_in in
      omega (arith, head_right w' after (sym (sizes_after k changed.keeps)) (omega (arith, z.size)) z.n_top z.f_top z.c_top cutoff z.used_top z.free_top z.size)

  -- ---- 4
  call_after : (r : ℕ) → reached_call_ok w' after r ≡ true
  unfolding reached_call_ok is_reached
  call_after r = go (memb r (reached w' after s.f)) refl
    where
      go : (b : Bool) → memb r (reached w' after s.f) ≡ b → (not b || call_ok w' after r) ≡ true
      go true e = reached_calls k changed r e
      go false e = refl

  -- ---- 5
  strand_after : (g : ℕ) → g < s.f → strand_at w' after g ≤ max_strand
  strand_after g l = elim (ℕ_discrete g f) [
    | yes e ↦ rw e (within_top 0 max_strand _ changed.strand_in)
    | no e ↦ omega (arith, (k.frags g l).strand_in, ap nat_of (changed.keeps.others g strand_field l e (omega arith)))
  ]

  first_after : (g : ℕ) → g < s.f → within (negsuc 0) (pos u) (fragment_word w' after g first_field) ≡ true
  first_after g l = elim (ℕ_discrete g f) [
    | yes e ↦ rw e changed.first_in
    | no e ↦ rw (changed.keeps.others g first_field l e (omega arith)) (wider s.used u _ changed.keeps.low (k.frags g l).first_in)
  ]

  fragment_after : (g : ℕ) → g < s.f → fragment_ok w' after g ≡ true
  fragment_after g l = sym (frag_in w' after g (strand_after g l) (first_after g l)) ∙ chain_good k changed g l

  -- at place F
  free_after : free_ok w' after ≡ true
  unfolding free_ok
  free_after =
      let each : u ≡ first_fail (λ i. in_chain w' after (suc i)) u = first_end (λ i. in_chain w' after (suc i)) u u (λ i l. whole_after k changed (suc i) (omega arith) (omega arith)) refl in
      rw (free_good k changed, below_all (λ i. in_chain w' after (suc i)) u (omega arith))

  pub accepted_changed : (b h : List ℕ) → Passed w b h s → check_case_and_haplotypes_outcome w' b h ≡ done after
  accepted_changed b h p =
      let variants = first_cong (variant_ok w' h) (variant_ok w h) s.n (variant_ok_same k changed.keeps h) in
      let bytes = first_cong (alleles_ok w' b) (alleles_ok w b) s.n (bytes_same k changed.keeps b) in
      let same = sizes_after k changed.keeps in
      let q : Passed w' b h after = record {
        head = head_after;
        variants = omega (arith, variants, p.variants);
        size = p.size ∙ sym (start_same k changed.keeps s.n (omega arith));
        bytes = omega (arith, bytes, p.bytes);
        calls = all_from (reached_call_ok w' after) 1 u (λ r lo hi. call_after r);
        frags = omega (arith, first_end (fragment_ok w' after) s.f s.f fragment_after refl);
        free = free_after;
      } in
      sym (accepts w' b h (subst (λ (t : Sizes). Passed w' b h t) (sym same) q)) ∙ ap (λ (t : Sizes). done t) same
