-- Words w' that keep those w of an accepted case but for one fragment f and the records that it and the free chain have between them: the variants are the
-- same, and so is every other fragment's chain, since w' keeps its records. An arrival and a departure both leave such words. The records of f and of the
-- free chain afterwards are those that they had and those taken from the unused tail, none twice, so that they share none with another chain, and each used
-- record is in a chain.
-- Assumes nothing.
use mathlib.Core.Path.{◌≡◌, refl, sym, ap, ◌∙◌}
use mathlib.Core.Bool.{true}
use mathlib.Core.List.{List, ◌++◌}
use mathlib.Core.Logic.{◌⊎◌, inl, inr}
use Prim.Native.Nat.{ℕ, suc, ◌+◌, ◌≤◌, ◌<◌}
use native.Mathlib.Omega.{arith}
use native.Mathlib.Decide.{dec_lt, ℕ_discrete}
use borrow.Author.Tests.{leb-true}
use lib.Dec.{leb}
use lib.IntN.{ℤ, pos, negsuc}
use lib.ListN.{length, get_or}
use lib.Signed.{le_z}
use Rattle.variants_and_fragments.specs.declared.Sizes.{Sizes}
use Rattle.variants_and_fragments.specs.Words.{word, within, below, none, nat_of, nat_at}
use Rattle.variants_and_fragments.specs.Layout.{max_strand, sizes_of, variants_field, fragments_field, calls_field, cutoff_field, call_words, fragment_words, variant_words, used_field, free_field, first_field, strand_field, next_field, variant_field, allele_field, qual_field, one_minus_qual_field, allele_count_field, fragment_at, variant_at, variant_word, fragment_word, call_word, allele_count_at, call_variant_at, call_words_ok, call_ok}
use Rattle.variants_and_fragments.specs.Chain.{first_call_at, next_call_at, next_ok, link_ok, chain_from, chain_of, free_chain, memb, reached, is_reached, in_chain, good_chain}
use Rattle.variants_and_fragments.specs.Decode.{call_from}
use Rattle.variants_and_fragments.specs.Inner.Layout.{Sized}
use Rattle.variants_and_fragments.specs.Inner.Chain.{record_of, first_record_at}
use Rattle.variants_and_fragments.specs.Inner.Accepted.{CaseIn}
use Rattle.variants_and_fragments.proofs.Bools.{both, or_right}
use Rattle.variants_and_fragments.proofs.Ranges.{below_less}
use Rattle.variants_and_fragments.proofs.Chain.{link_top, link_end, link_in, record_none, record_some, record_chain, chain_record}
use Rattle.variants_and_fragments.proofs.Linked.{Linked, linked_fuel, linked_first, linked_in, linked_right, linked_next, linked_by, chain_linked, chain_length}
use Rattle.variants_and_fragments.proofs.Pigeon.{distinct, distinct_left, memb_left, reached_has, memb_right}
use Rattle.late_reads.proofs.Apart.{or_cases, memb_cases, memb_place, memb_all, distinct_right, distinct_apart, good_by, reached_where, chain_distinct, chains_apart, free_apart}
use Rattle.late_reads.proofs.Distinct.{memb_at}
use Rattle.late_reads.proofs.Room.{place_in}

-- the sizes with `used` records used, `free` the first free one
abbrev pub room_as : Sizes → ℕ → ℕ → Sizes
room_as s used free = record { n = s.n; f = s.f; c = s.c; used = used; free = free; cutoff = s.cutoff }

-- what w' keeps: the length, the head but for the records used, u now, and the first free one, now v, the variants, the other fragments and the records
-- of their chains
pub record Keeps (w w' : List ℤ) (s : Sizes) (u v f : ℕ) : Type 0 where
  pub long : length w' ≡ length w
  pub used_is : nat_at w' used_field ≡ u
  pub free_is : nat_at w' free_field ≡ v
  pub low : s.used ≤ u
  pub high : u ≤ s.c
  pub free_top : v ≤ u
  pub front : (i : ℕ) → i < fragment_at s 0 → (i ≡ used_field → ⊥) → (i ≡ free_field → ⊥) → word w' i ≡ word w i
  pub others : (g field : ℕ) → g < s.f → (g ≡ f → ⊥) → field < fragment_words → fragment_word w' s g field ≡ fragment_word w s g field
  pub records : (g r field : ℕ) → g < s.f → (g ≡ f → ⊥) → memb r (chain_of w s g) ≡ true → field < call_words → call_word w' s r field ≡ call_word w s r field

-- and what is right of fragment f, whose chain is `own`, and of the free chain, `rest`
pub record Changed (w w' : List ℤ) (s : Sizes) (u v f : ℕ) (own rest : List ℕ) : Type 0 where
  pub keeps : Keeps w w' s u v f
  pub inside : f < s.f
  pub strand_in : within (pos 0) (pos max_strand) (fragment_word w' s f strand_field) ≡ true
  pub first_in : within (negsuc 0) (pos u) (fragment_word w' s f first_field) ≡ true
  pub chain_is : chain_of w' (room_as s u v) f ≡ own
  pub links : (x : ℕ) → memb x own ≡ true → link_ok w' (room_as s u v) x ≡ true
  pub calls : (x : ℕ) → memb x own ≡ true → call_ok w' (room_as s u v) x ≡ true
  pub rest_is : free_chain w' (room_as s u v) ≡ rest
  pub nexts : (x : ℕ) → memb x rest ≡ true → next_ok w' (room_as s u v) x ≡ true
  -- no record comes twice, and they are those that f and the free chain had, and those used since
  pub once : distinct (own ++ rest) ≡ true
  pub only : (x : ℕ) → memb x (own ++ rest) ≡ true → (memb x (chain_of w s f ++ free_chain w s) ≡ true) ⊎ ((s.used < x) × (x ≤ u))
  pub had : (x : ℕ) → memb x (chain_of w s f ++ free_chain w s) ≡ true → memb x (own ++ rest) ≡ true
  pub since : (x : ℕ) → s.used < x → x ≤ u → memb x (own ++ rest) ≡ true

-- a first call that is past the records used is −1
past_none : (u : ℕ) (z : ℤ) → within (negsuc 0) (pos u) z ≡ true → u < nat_of z → nat_of z ≡ none
unfolding within
past_none u (pos n) h l = absurd (omega (arith, leb-true n u (both (le_z (negsuc 0) (pos n)) (leb n u) h).1))
past_none u (negsuc n) h l = refl

module _ {w w' : List ℤ} {s : Sizes} {u v f : ℕ} (k : CaseIn w s) (keeps : Keeps w w' s u v f) where
  abbrev after : Sizes
  after = room_as s u v

  -- ---- the head
  pub sizes_after : sizes_of w' ≡ room_as s u v
  sizes_after =
      let at : (i : ℕ) → i < 4 → word w' i ≡ word w i = λ i l. keeps.front i (omega arith) (λ e. omega arith) (λ e. omega arith) in
      let n_is : nat_at w' variants_field ≡ s.n = ap nat_of (at 0 (omega arith)) ∙ ap (λ (t : Sizes). t.n) (sym k.shape) in
      let f-is : nat_at w' fragments_field ≡ s.f = ap nat_of (at 1 (omega arith)) ∙ ap (λ (t : Sizes). t.f) (sym k.shape) in
      let c-is : nat_at w' calls_field ≡ s.c = ap nat_of (at 2 (omega arith)) ∙ ap (λ (t : Sizes). t.c) (sym k.shape) in
      let cutoff_is : word w' cutoff_field ≡ s.cutoff = at 3 (omega arith) ∙ ap (λ (t : Sizes). t.cutoff) (sym k.shape) in
      rw (n_is, f-is, c-is, cutoff_is, keeps.used_is, keeps.free_is)

  pub sized_after : Sized w' (room_as s u v)
  sized_after = let z = k.sized in record { size = keeps.long ∙ z.size; n_top = z.n_top; f_top = z.f_top; c_top = z.c_top; used_top = keeps.high; free_top = keeps.free_top }

  -- ---- the variants
  pub variant_word_lem : (x field : ℕ) → x < s.n → field < variant_words → variant_word w' x field ≡ variant_word w x field
  variant_word_lem x field l m = keeps.front (variant_at x + field) (omega arith) (λ e. omega arith) (λ e. omega arith)

  pub allele_count_same : (x : ℕ) → x < s.n → allele_count_at w' x ≡ allele_count_at w x
  allele_count_same x l = ap nat_of (variant_word_lem x allele_count_field l (omega arith))

  -- four words that are a call's in w are one's in w'
  pub call_words_kept : (variant allele qual one_minus_qual : ℤ) → call_words_ok w s variant allele qual one_minus_qual ≡ true → call_words_ok w' after variant allele qual one_minus_qual ≡ true
  call_words_kept variant allele qual one_minus_qual h =
      let a = both (below s.n variant) _ h in
      rw (allele_count_same (nat_of variant) (below_less s.n variant a.0)) h

  -- ---- another fragment's chain
  module _ (g : ℕ) (in_case : g < s.f) (other : g ≡ f → ⊥) where
    linked : Linked w s (link_ok w s) (first_record_at w s g) (chain_of w s g)
    linked = chain_linked k.sized.used_top (k.frags g in_case)

    -- a record of it
    module _ (r : ℕ) (m : memb r (chain_of w s g) ≡ true) where
      kept : (field : ℕ) → field < call_words → call_word w' s r field ≡ call_word w s r field
      kept field l = keeps.records g r field in_case other m l

      pub call_kept : call_from w' after r ≡ call_from w s r
      unfolding call_from
      call_kept = rw (kept variant_field (omega arith), kept allele_field (omega arith), kept qual_field (omega arith), kept one_minus_qual_field (omega arith))

      call_ok_kept : call_ok w' after r ≡ true
      unfolding call_ok
      call_ok_kept =
          rw (kept variant_field (omega arith), kept allele_field (omega arith), kept qual_field (omega arith), kept one_minus_qual_field (omega arith))
          (call_words_kept _ _ _ _ (memb_all (call_ok w s) (chain_of w s g) r (k.frags g in_case).calls m))

      next_same : next_call_at w' after r ≡ next_call_at w s r
      next_same = ap nat_of (kept next_field (omega arith))

      variant_same : call_variant_at w' after r ≡ call_variant_at w s r
      variant_same = ap nat_of (kept variant_field (omega arith))

    -- its links stay right
    link_at : (i : ℕ) → i < length (chain_of w s g) → link_ok w' after (get_or (chain_of w s g) i 0) ≡ true
    link_at i l =
        let r = get_or (chain_of w s g) i 0 in
        let t = next_call_at w s r in
        let here = memb_at (chain_of w s g) i l in
        let same = next_same r here in
        let right : link_ok w s r ≡ true = linked_right linked i l in
        elim (ℕ_discrete t 0) [
          | yes e ↦ sym (link_end w' after r sized_after (same ∙ e))
          | no e ↦
              let along : t ≡ get_or (chain_of w s g) (suc i) 0 = linked_next linked i l in
              let there : memb t (chain_of w s g) ≡ true = rw along (memb_at (chain_of w s g) (suc i) (place_in (chain_of w s g) (suc i) (λ z. e (along ∙ z)))) in
              let top : t ≤ s.used = link_top w s r right in
              let low = keeps.low in
              sym (link_in w' after r sized_after (λ z. e (sym same ∙ z)) (omega arith))
              ∙ rw (same, variant_same r here, variant_same t there) (link_in w s r k.sized e top ∙ right)
        ]

    link_kept : (x : ℕ) → memb x (chain_of w s g) ≡ true → link_ok w' after x ≡ true
    link_kept x m = let i = memb_place (chain_of w s g) x m in rw i.2 (link_at i.0 i.1)

    linked_kept : Linked w' after (link_ok w' after) (get_or (chain_of w s g) 0 0) (chain_of w s g)
    linked_kept = linked_by (chain_of w s g) (λ i l.
        let b = linked_in linked i l in
        (b.0, omega (arith, b.1, keeps.low), link_at i l, next_same (get_or (chain_of w s g) i 0) (memb_at (chain_of w s g) i l) ∙ linked_next linked i l))

    first_same : first_record_at w' after g ≡ first_record_at w s g
    first_same =
        let t = first_call_at w s g in
        let e : first_call_at w' after g ≡ t = ap nat_of (keeps.others g first_field in_case other (omega arith)) in
        let low = keeps.low in
        let high = keeps.high in
        elim (dec_lt s.used t) [
          | yes l ↦
              let z : t ≡ none = past_none s.used (fragment_word w s g first_field) (k.frags g in_case).first_in l in
              ap (record_of after) e ∙ sym (record_none after t (omega (arith, k.sized.c_top))) ∙ record_none s t l
          | no l ↦ ap (record_of after) e ∙ sym (record_some after t (omega arith)) ∙ record_some s t (omega arith)
        ]

    pub chain_same : chain_of w' after g ≡ chain_of w s g
    unfolding chain_of
    chain_same =
        sym (record_chain w' after s.c (first_call_at w' after g))
        ∙ ap (chain_from w' after s.c) (first_same ∙ linked_first linked)
        ∙ linked_fuel linked_kept s.c (chain_length k.sized.used_top (k.frags g in_case))

-- ---- all chains
module _ {w w' : List ℤ} {s : Sizes} {u v f : ℕ} {own rest : List ℕ} (k : CaseIn w s) (changed : Changed w w' s u v f own rest) where
  abbrev later : Sizes
  later = room_as s u v

  -- a record of f's or of the free chain is in no other chain
  others_apart : (g x : ℕ) → g < s.f → (g ≡ f → ⊥) → memb x (own ++ rest) ≡ true → memb x (chain_of w s g) ≡ true → ⊥
  others_apart g x l other m n = elim (changed.only x m) [
    | inl h ↦ elim (memb_cases x (chain_of w s f) (free_chain w s) h) [
      | inl a ↦ chains_apart k g f x l changed.inside other n a
      | inr a ↦ free_apart k g x l a n
    ]
    | inr h ↦ omega (arith, h.0, (chain_record w s g x n).1)
  ]

  -- what is in a chain now
  chain_after : (g x : ℕ) → g < s.f → memb x (chain_of w' later g) ≡ true → ((g ≡ f) × (memb x own ≡ true)) ⊎ ((g ≡ f → ⊥) × (memb x (chain_of w s g) ≡ true))
  chain_after g x l m = elim (ℕ_discrete g f) [
    | yes e ↦ inl (e, rw changed.chain_is at (rw e at m))
    | no e ↦ inr (e, rw (chain_same k changed.keeps g l e) at m)
  ]

  apart_after : (g h x : ℕ) → g < s.f → h < s.f → (g ≡ h → ⊥) → memb x (chain_of w' later g) ≡ true → memb x (chain_of w' later h) ≡ true → ⊥
  apart_after g h x l m other a b = elim (chain_after g x l a) [
    | inl p ↦ elim (chain_after h x m b) [
      | inl q ↦ other (p.0 ∙ sym q.0)
      | inr q ↦ others_apart h x m q.0 (memb_left x own rest p.1) q.1
    ]
    | inr p ↦ elim (chain_after h x m b) [
      | inl q ↦ others_apart g x l p.0 (memb_left x own rest q.1) p.1
      | inr q ↦ chains_apart k g h x l m other p.1 q.1
    ]
  ]

  free_apart_after : (g x : ℕ) → g < s.f → memb x rest ≡ true → memb x (chain_of w' later g) ≡ true → ⊥
  free_apart_after g x l m n = elim (chain_after g x l n) [
    | inl p ↦ distinct_apart own rest changed.once x p.1 m
    | inr p ↦ others_apart g x l p.0 (memb_right x own rest m) p.1
  ]

  -- each is good
  links_after : (g x : ℕ) → g < s.f → memb x (chain_of w' later g) ≡ true → link_ok w' later x ≡ true
  links_after g x l m = elim (chain_after g x l m) [ inl p ↦ changed.links x p.1 | inr p ↦ link_kept k changed.keeps g l p.0 x p.1 ]

  distinct_after : (g : ℕ) → g < s.f → distinct (chain_of w' later g) ≡ true
  distinct_after g l = elim (ℕ_discrete g f) [
    | yes e ↦ rw (e, changed.chain_is) (distinct_left own rest changed.once)
    | no e ↦ rw (chain_same k changed.keeps g l e) (chain_distinct k g l)
  ]

  pub chain_good : (g : ℕ) → g < s.f → good_chain (link_ok w' later) (reached w' later g) (chain_of w' later g) ≡ true
  chain_good g l = good_by (link_ok w' later) (chain_of w' later g) (reached w' later g) (distinct_after g l) (λ x m. links_after g x l m) (λ x m n.
      let h = reached_where w' later g x n in
      let below = h.1 in
      apart_after g h.0 x l (omega arith) (λ e. omega arith) m h.2)

  pub free_good : good_chain (next_ok w' later) (reached w' later s.f) (free_chain w' later) ≡ true
  free_good = rw changed.rest_is (good_by (next_ok w' later) rest (reached w' later s.f) (distinct_right own rest changed.once) changed.nexts (λ x m n.
      let h = reached_where w' later s.f x n in
      free_apart_after h.0 x h.1 m h.2))

  -- the calls of all records reached are right
  pub reached_calls : (x : ℕ) → memb x (reached w' later s.f) ≡ true → call_ok w' later x ≡ true
  reached_calls x n =
      let h = reached_where w' later s.f x n in
      elim (chain_after h.0 x h.1 h.2) [ inl p ↦ changed.calls x p.1 | inr p ↦ call_ok_kept k changed.keeps h.0 h.1 p.0 x p.1 ]

  -- ---- each used record is in a chain
  chain_has : (g x : ℕ) → g < s.f → memb x (chain_of w' later g) ≡ true → in_chain w' later x ≡ true
  unfolding in_chain is_reached
  chain_has g x l m = rw (reached_has w' later x g s.f l m)

  both_have : (x : ℕ) → memb x (own ++ rest) ≡ true → in_chain w' later x ≡ true
  unfolding in_chain is_reached
  both_have x m = elim (memb_cases x own rest m) [
    | inl h ↦ chain_has f x changed.inside (rw changed.chain_is h)
    | inr h ↦ or_right (memb x (reached w' later s.f)) (memb x (free_chain w' later)) (rw changed.rest_is h)
  ]

  pub whole_after : (x : ℕ) → 1 ≤ x → x ≤ u → in_chain w' later x ≡ true
  unfolding in_chain is_reached
  whole_after x lo hi = elim (dec_lt s.used x) [
    | yes l ↦ both_have x (changed.since x l hi)
    | no l ↦ elim (or_cases (memb x (reached w s s.f)) (memb x (free_chain w s)) (k.free_in.whole x lo (omega arith))) [
      | inl m ↦
          let g = reached_where w s s.f x m in
          elim (ℕ_discrete g.0 f) [
            | yes e ↦ both_have x (changed.had x (memb_left x (chain_of w s f) (free_chain w s) (rw e at g.2)))
            | no e ↦ chain_has g.0 x g.1 (rw (chain_same k changed.keeps g.0 g.1 e) g.2)
          ]
      | inr m ↦ both_have x (changed.had x (memb_right x (chain_of w s f) (free_chain w s) m))
    ]
  ]
