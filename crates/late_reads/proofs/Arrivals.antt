-- The words after an arrival: its calls stand in the records taken, each linked to the next, so that the fragment's chain is these records in their
-- order, and it decodes to the arriving calls. The free chain is what is left of it, and all else is kept (WordsAfter). They are accepted, and stand for
-- the case with that fragment exchanged.
-- Assumes nothing.
use mathlib.Core.Path.{◌≡◌, refl, sym, ap, ◌∙◌, subst}
use mathlib.Core.Bool.{Bool, true}
use mathlib.Core.List.{List, [], ◌∷◌, ◌++◌, map}
use mathlib.Core.Logic.{◌⊎◌, inl, inr}
use Prim.Native.Nat.{ℕ, suc, ◌+◌, ◌-◌, ◌≤◌, ◌<◌}
use native.Mathlib.Omega.{arith}
use native.Mathlib.Decide.{dec_lt}
use borrow.Author.Tests.{le-leb, ne_eqb}
use lib.Dec.{ltb}
use lib.IntN.{ℤ, pos}
use lib.ListN.{length, get_or, take, drop, length-set, length-drop, take-append-drop}
use lib.Seq.{get_or-set_same, get_or-set_other, get_or-drop}
use Rattle.variants_and_fragments.specs.declared.Sizes.{Sizes}
use Rattle.variants_and_fragments.specs.declared.CallWords.{CallWords}
use Rattle.variants_and_fragments.specs.Refusals.{done}
use Rattle.variants_and_fragments.specs.Words.{word, within, nat_of}
use Rattle.variants_and_fragments.specs.Layout.{call_words, used_field, free_field, first_field, strand_field, next_field, fragment_at, fragment_word, call_at, call_word, call_variant_at, fragment_set, head_set, sizes_of, call_ok}
use Rattle.variants_and_fragments.specs.Chain.{next_call_at, next_ok, link_ok, chain_from, chain_of, free_chain, memb}
use Rattle.variants_and_fragments.specs.Check.{check_case_and_haplotypes_outcome}
use Rattle.variants_and_fragments.specs.Decode.{tabulate_from, tabulate, call_from, fragment_from, decode}
use Rattle.variants_and_fragments.specs.Inner.Layout.{Sized}
use Rattle.variants_and_fragments.specs.Inner.Accepted.{CaseIn}
use Rattle.variants_and_fragments.proofs.Chain.{next_in, link_end, link_in, absent_chain, chain_record}
use Rattle.variants_and_fragments.proofs.Free.{free_linked}
use Rattle.variants_and_fragments.proofs.Linked.{linked_next}
use Rattle.variants_and_fragments.proofs.Pigeon.{distinct, memb_left, memb_right}
use Rattle.variants_and_fragments.proofs.Accepted.{Passed, passed, checked_in}
use Rattle.late_reads.specs.Values.{exchanged}
use Rattle.late_reads.specs.Arriving.{whole_calls, arriving_call, arriving_read, arriving_ok, arriving_rises, room, taken, calls_laid, arrived_words}
use Rattle.late_reads.specs.Inner.Ready.{Arriving}
use Rattle.late_reads.proofs.Distinct.{memb_at, distinct_at}
use Rattle.late_reads.proofs.Apart.{memb_cases, memb_place, place_top, distinct_right, distinct_apart, distinct_join, chain_by, free_apart, free_record}
use Rattle.late_reads.proofs.WordsAfter.{CallAt, call_stays, laid_length, laid_below, laid_record, laid_at}
use Rattle.late_reads.proofs.Room.{room_length, room_free, room_tail, free_distinct, room_distinct, taken_at, taken_past, taken_length, taken_distinct, taken_in}
use Rattle.late_reads.proofs.OneChanged.{room_as, Keeps, Changed, sizes_after, sized_after, call_words_kept}
use Rattle.late_reads.proofs.AcceptedAfter.{accepted_changed}
use Rattle.late_reads.proofs.DecodedAfter.{decoded_changed}

-- a list by place
map_places : {X : Type 0} (g h : ℕ → X) (l : List ℕ) (j : ℕ) → ((i : ℕ) → i < length l → g (get_or l i 0) ≡ h (j + i)) → map g l ≡ tabulate_from h j (length l)
unfolding tabulate_from
map_places g h [] j e = refl
map_places g h (x ∷ l) j e =
    let here : g x ≡ h j = e 0 (omega arith) ∙ ap h (omega arith) in
    rw (here, map_places g h l (suc j) (λ i m. e (suc i) (omega arith) ∙ ap h (omega arith)))

-- ---- the records taken, and what is left of the free ones
module _ {w : List ℤ} {s : Sizes} (k : CaseIn w s) (m : ℕ) (fits : m ≤ length (room w s)) where
  abbrev rs : List ℕ
  rs = taken w s m

  abbrev rest : List ℕ
  rest = drop m (free_chain w s)

  abbrev n : ℕ
  n = length (free_chain w s)

  -- how many records are used then
  abbrev u : ℕ
  u = s.used + (m - length (free_chain w s))

  pub rs_length : length rs ≡ m
  rs_length = taken_length w s m fits

  pub used_high : u ≤ s.c
  used_high = omega (arith, room_length w s, k.sized.used_top)

  rest_at : (i : ℕ) → get_or rest i 0 ≡ get_or (free_chain w s) (m + i) 0
  rest_at i = get_or-drop m (free_chain w s) i 0

  rest_free : (x : ℕ) → memb x rest ≡ true → memb x (free_chain w s) ≡ true
  rest_free x h =
      let i = memb_place rest x h in
      let l = i.1 in
      rw (i.2, rest_at i.0) (memb_at (free_chain w s) (m + i.0) (omega (arith, length-drop m (free_chain w s))))

  -- a record is taken from the free chain or from the tail
  rs_only : (x : ℕ) → memb x rs ≡ true → (memb x (free_chain w s) ≡ true) ⊎ ((s.used < x) × (x ≤ u))
  rs_only x h =
      let i = memb_place rs x h in
      let l : i.0 < m = omega (arith, i.1, rs_length) in
      let e : x ≡ get_or (room w s) i.0 0 = i.2 ∙ taken_at w s m i.0 l in
      elim (dec_lt i.0 n) [
        | yes a ↦ inl (rw (e, room_free w s i.0 a) (memb_at (free_chain w s) i.0 a))
        | no a ↦ let z = room_tail w s i.0 (omega arith) (omega arith) in inr (omega arith, omega arith)
      ]

  pub both_only : (x : ℕ) → memb x (rs ++ rest) ≡ true → (memb x (free_chain w s) ≡ true) ⊎ ((s.used < x) × (x ≤ u))
  both_only x h = elim (memb_cases x rs rest h) [ inl a ↦ rs_only x a | inr a ↦ inl (rest_free x a) ]

  both_in : (x : ℕ) → memb x (rs ++ rest) ≡ true → (1 ≤ x) × (x ≤ u)
  both_in x h = elim (both_only x h) [
    | inl a ↦ let b = free_record k x a in (b.0, omega (arith, b.1))
    | inr a ↦ (omega (arith, a.0), a.1)
  ]

  -- the records at the places of the room before m are taken
  taken_has : (i : ℕ) → i < m → memb (get_or (room w s) i 0) rs ≡ true
  taken_has i l = rw (← taken_at w s m i l) (memb_at rs i (omega (arith, rs_length)))

  pub both_free : (x : ℕ) → memb x (free_chain w s) ≡ true → memb x (rs ++ rest) ≡ true
  both_free x h =
      let i = memb_place (free_chain w s) x h in
      let l = i.1 in
      elim (dec_lt i.0 m) [
        | yes a ↦ memb_left x rs rest (rw (i.2 ∙ sym (room_free w s i.0 l)) (taken_has i.0 a))
        | no a ↦
            let j = i.0 - m in
            let e : x ≡ get_or rest j 0 = i.2 ∙ ap (λ (t : ℕ). get_or (free_chain w s) t 0) (omega arith) ∙ sym (rest_at j) in
            memb_right x rs rest (rw e (memb_at rest j (omega (arith, length-drop m (free_chain w s)))))
      ]

  pub both_since : (x : ℕ) → s.used < x → x ≤ u → memb x (rs ++ rest) ≡ true
  both_since x a b =
      let i = n + (x - s.used - 1) in
      let e : x ≡ get_or (room w s) i 0 = sym (room_tail w s i (omega arith) (omega (arith, room_length w s)) ∙ omega arith) in
      memb_left x rs rest (rw e (taken_has i (omega arith)))

  both_once : distinct (rs ++ rest) ≡ true
  both_once =
      let free : distinct rest ≡ true = distinct_right (take m (free_chain w s)) rest (rw (take-append-drop m (free_chain w s)) (free_distinct k)) in
      distinct_join rs rest (taken_distinct k m) free (λ x a b.
      let i = memb_place rs x a in
      let j = memb_place rest x b in
      let l : i.0 < m = omega (arith, i.1, rs_length) in
      let h : m + j.0 < n = omega (arith, j.1, length-drop m (free_chain w s)) in
      let same : get_or (room w s) i.0 0 ≡ get_or (room w s) (m + j.0) 0 =
      sym (taken_at w s m i.0 l) ∙ sym i.2 ∙ j.2 ∙ rest_at j.0 ∙ sym (room_free w s (m + j.0) h) in
      omega (arith, distinct_at (room w s) (room_distinct k) i.0 (m + j.0) (omega arith) (omega (arith, room_length w s)) same))

-- ---- what stands at each place
-- the sizes: the records beyond the free ones are used, and the first that is left is free
abbrev pub arrived_sizes : List ℤ → Sizes → List ℤ → Sizes
arrived_sizes w s calls = room_as s (s.used + (whole_calls calls - length (free_chain w s))) (get_or (free_chain w s) (whole_calls calls) 0)

module _ {w : List ℤ} {s : Sizes} {f : ℕ} {strand : ℤ} {calls : List ℤ} (k : CaseIn w s) (arrives : Arriving w s f strand calls) where
  abbrev m : ℕ
  m = whole_calls calls

  abbrev fits : whole_calls calls ≤ length (room w s)
  fits = arrives.fits

  abbrev own : List ℕ
  own = taken w s (whole_calls calls)

  abbrev left : List ℕ
  left = drop (whole_calls calls) (free_chain w s)

  abbrev used_then : ℕ
  used_then = s.used + (whole_calls calls - length (free_chain w s))

  abbrev free_then : ℕ
  free_then = get_or (free_chain w s) (whole_calls calls) 0

  abbrev after : Sizes
  after = arrived_sizes w s calls

  abbrev laid : List ℤ
  laid = calls_laid w s calls (taken w s (whole_calls calls)) (whole_calls calls)

  abbrev w1 : List ℤ
  w1 = fragment_set laid s f first_field (pos (get_or own 0 0))

  abbrev w2 : List ℤ
  w2 = fragment_set w1 s f strand_field strand

  abbrev w3 : List ℤ
  w3 = head_set w2 used_field (pos used_then)

  abbrev w' : List ℤ
  w' = arrived_words w s f strand calls

  laid_long : length laid ≡ length w
  laid_long = laid_length w s calls own m

  pub arrived_long : length w' ≡ length w
  unfolding arrived_words
  arrived_long = simp length-set laid_long

  -- but for the four words set last, the words are those with the calls laid
  pub arrived_other : (i : ℕ) → (i ≡ used_field → ⊥) → (i ≡ free_field → ⊥) → (i ≡ fragment_at s f + first_field → ⊥) → (i ≡ fragment_at s f + strand_field → ⊥) → word w' i ≡ word laid i
  unfolding arrived_words
  arrived_other i a b c d =
      get_or-set_other w3 free_field i (pos free_then) (pos 0) b
      ∙ get_or-set_other w2 used_field i (pos used_then) (pos 0) a
      ∙ get_or-set_other w1 (fragment_at s f + strand_field) i strand (pos 0) d
      ∙ get_or-set_other laid (fragment_at s f + first_field) i (pos (get_or own 0 0)) (pos 0) c

  inside : fragment_at s f + strand_field < length laid
  inside = let below = arrives.below in omega (arith, k.sized.size, laid_long)

  arrived_first : fragment_word w' s f first_field ≡ pos (get_or own 0 0)
  unfolding arrived_words
  arrived_first =
      let room = inside in
      get_or-set_other w3 free_field (fragment_at s f + first_field) (pos free_then) (pos 0) (λ e. omega arith)
      ∙ get_or-set_other w2 used_field (fragment_at s f + first_field) (pos used_then) (pos 0) (λ e. omega arith)
      ∙ get_or-set_other w1 (fragment_at s f + strand_field) (fragment_at s f + first_field) strand (pos 0) (λ e. omega arith)
      ∙ get_or-set_same laid (fragment_at s f + first_field) (pos (get_or own 0 0)) (pos 0) (omega arith)

  arrived_strand : fragment_word w' s f strand_field ≡ strand
  unfolding arrived_words
  arrived_strand =
      let room = inside in
      get_or-set_other w3 free_field (fragment_at s f + strand_field) (pos free_then) (pos 0) (λ e. omega arith)
      ∙ get_or-set_other w2 used_field (fragment_at s f + strand_field) (pos used_then) (pos 0) (λ e. omega arith)
      ∙ get_or-set_same w1 (fragment_at s f + strand_field) strand (pos 0) (simp length-set room)

  arrived_used : word w' used_field ≡ pos used_then
  unfolding arrived_words
  arrived_used =
      let room = inside in
      get_or-set_other w3 free_field used_field (pos free_then) (pos 0) (λ e. omega arith) ∙ get_or-set_same w2 used_field (pos used_then) (pos 0) (simp length-set (omega arith))

  arrived_free : word w' free_field ≡ pos free_then
  unfolding arrived_words
  arrived_free = let room = inside in get_or-set_same w3 free_field (pos free_then) (pos 0) (simp length-set (omega arith))

  -- a record that is not taken keeps its words
  arrived_record : (r field : ℕ) → 1 ≤ r → field < call_words → (memb r own ≡ true → ⊥) → call_word w' s r field ≡ call_word w s r field
  arrived_record r field lo h n =
      let below = arrives.below in
      let size = rs_length k m fits in
      arrived_other (call_at s r + field) (λ e. omega arith) (λ e. omega arith) (λ e. omega arith) (λ e. omega arith)
      ∙ laid_record w s calls own (taken_distinct k m) (taken_in k m fits) m r field (omega arith) lo (λ j l e. n (rw (sym e) (memb_at own j (omega arith)))) h

  -- one that is taken has its call's
  arrived_at : (i : ℕ) → i < m → CallAt w' s calls own i
  arrived_at i l =
      let below = arrives.below in
      let size = rs_length k m fits in
      call_stays laid w' s calls own i
      (λ field h. arrived_other (call_at s (get_or own i 0) + field) (λ e. omega arith) (λ e. omega arith) (λ e. omega arith) (λ e. omega arith))
      (laid_at w s calls own (taken_distinct k m) (taken_in k m fits) k.sized m i l (omega arith))

  arrived_keeps : Keeps w w' s used_then free_then f
  arrived_keeps =
      let below = arrives.below in
      record {
        long = arrived_long;
        used_is = ap nat_of arrived_used;
        free_is = ap nat_of arrived_free;
        low = omega arith;
        high = used_high k m fits;
        free_top = place_top (free_chain w s) m (λ x h. let b = free_record k x h in omega (arith, b.1));
        front = λ i l a b. arrived_other i a b (λ e. omega arith) (λ e. omega arith) ∙ laid_below w s calls own m i (omega arith);
        others = λ g field l other h.
            arrived_other (fragment_at s g + field) (λ e. omega arith) (λ e. omega arith) (λ e. other (omega arith)) (λ e. other (omega arith))
            ∙ laid_below w s calls own m (fragment_at s g + field) (omega arith);
        records = λ g r field l other h j. let b = chain_record w s g r h in arrived_record r field b.0 j (λ a. elim (rs_only k m fits r a) [
          | inl c ↦ free_apart k g r l c h
          | inr c ↦ omega (arith, c.0, b.1)
        ]);
      }

  arrived_sized : Sized w' after
  arrived_sized = sized_after k arrived_keeps

  -- ---- the fragment's chain: the records taken, linked in their order
  own_in : (x : ℕ) → memb x own ≡ true → (1 ≤ x) × (x ≤ used_then)
  own_in x h = both_in k m fits x (memb_left x own left h)

  next_at : (i : ℕ) → i < m → next_call_at w' after (get_or own i 0) ≡ get_or own (suc i) 0
  next_at i l = ap nat_of (arrived_at i l).next_is

  variant_at : (i : ℕ) → i < m → call_variant_at w' after (get_or own i 0) ≡ (arriving_call calls i).variant
  unfolding arriving_call
  variant_at i l = ap (λ (c : CallWords). nat_of c.variant) (arrived_at i l).words_are

  rises : (i : ℕ) → suc i < m → ltb (arriving_call calls i).variant (arriving_call calls (suc i)).variant ≡ true
  unfolding arriving_rises
  rises i l = let e : suc i - 1 ≡ i = omega arith in rw (ne_eqb (suc i) 0 (λ z. omega arith), e) at (arrives.each_rises (suc i) l)

  link_at : (i : ℕ) → i < m → link_ok w' after (get_or own i 0) ≡ true
  link_at i l =
      let r = get_or own i 0 in
      let next : next_call_at w' after r ≡ get_or own (suc i) 0 = next_at i l in
      elim (dec_lt (suc i) m) [
        | yes h ↦
            let b = own_in (get_or own (suc i) 0) (memb_at own (suc i) (omega (arith, rs_length k m fits))) in
            let lo = b.0 in
            let hi = b.1 in
            sym (link_in w' after r arrived_sized (λ e. omega arith) (omega arith)) ∙ rw (next, variant_at i l, variant_at (suc i) h) (rises i h)
        | no h ↦ sym (link_end w' after r arrived_sized (next ∙ taken_past w s m (suc i) (omega arith)))
      ]

  call_ok_at : (i : ℕ) → i < m → call_ok w' after (get_or own i 0) ≡ true
  unfolding call_ok arriving_ok
  call_ok_at i l =
      let e = (arrived_at i l).words_are in
      rw (ap (λ (c : CallWords). c.variant) e, ap (λ (c : CallWords). c.allele) e, ap (λ (c : CallWords). c.qual) e, ap (λ (c : CallWords). c.one_minus_qual) e)
      (call_words_kept k arrived_keeps _ _ _ _ (arrives.each_in i l))

  call_from_at : (i : ℕ) → i < m → call_from w' after (get_or own i 0) ≡ arriving_call calls i
  unfolding call_from arriving_call
  call_from_at i l =
      let e = (arrived_at i l).words_are in
      rw (ap (λ (c : CallWords). c.variant) e, ap (λ (c : CallWords). c.allele) e, ap (λ (c : CallWords). c.qual) e, ap (λ (c : CallWords). c.one_minus_qual) e)

  -- what holds at each place holds of each record
  own_each : (p : ℕ → Bool) → ((i : ℕ) → i < m → p (get_or own i 0) ≡ true) → (x : ℕ) → memb x own ≡ true → p x ≡ true
  own_each p each x h = let i = memb_place own x h in rw i.2 (each i.0 (omega (arith, i.1, rs_length k m fits)))

  arrived_chain : chain_of w' after f ≡ own
  unfolding chain_of
  arrived_chain =
      ap (λ (z : ℤ). chain_from w' after s.c (nat_of z)) arrived_first
      ∙ chain_by w' after own s.c (taken_distinct k m) own_in (λ i l. next_at i (omega (arith, rs_length k m fits))) (used_high k m fits)

  -- ---- the free chain
  left_in : (x : ℕ) → memb x left ≡ true → (1 ≤ x) × (x ≤ used_then)
  left_in x h = both_in k m fits x (memb_right x own left h)

  left_next : (i : ℕ) → i < length left → next_call_at w' after (get_or left i 0) ≡ get_or left (suc i) 0
  left_next i h =
      let x = get_or left i 0 in
      let a = memb_at left i h in
      let along : get_or (free_chain w s) (suc (m + i)) 0 ≡ get_or left (suc i) 0 = ap (λ (t : ℕ). get_or (free_chain w s) t 0) (omega arith) ∙ sym (rest_at k m fits (suc i)) in
      ap nat_of (arrived_record x next_field (left_in x a).0 (omega arith) (λ b. distinct_apart own left (both_once k m fits) x b a))
      ∙ ap (next_call_at w s) (rest_at k m fits i)
      ∙ linked_next (free_linked k) (m + i) (omega (arith, length-drop m (free_chain w s)))
      ∙ along

  arrived_left : free_chain w' after ≡ left
  unfolding free_chain
  arrived_left =
      let first : free_then ≡ get_or left 0 0 = ap (λ (t : ℕ). get_or (free_chain w s) t 0) (omega arith) ∙ sym (rest_at k m fits 0) in
      ap (chain_from w' after (suc s.c)) first
      ∙ chain_by w' after left (suc s.c) (distinct_right own left (both_once k m fits)) left_in left_next (omega (arith, used_high k m fits))

  left_right : (x : ℕ) → memb x left ≡ true → next_ok w' after x ≡ true
  left_right x h =
      let i = memb_place left x h in
      rw (next_in w' after x arrived_sized, i.2, left_next i.0 i.1) (le-leb _ _ (place_top left (suc i.0) (λ y a. (left_in y a).1)))

  -- ---- all of it
  no_chain : chain_of w s f ≡ []
  no_chain = absent_chain w s k.sized f arrives.absent

  arrived_changed : Changed w w' s used_then free_then f own left
  unfolding within
  arrived_changed = record {
    keeps = arrived_keeps;
    inside = arrives.below;
    strand_in = rw arrived_strand arrives.strand_in;
    first_in = rw arrived_first (le-leb _ _ (place_top own 0 (λ x h. (own_in x h).1)));
    chain_is = arrived_chain;
    links = own_each (link_ok w' after) link_at;
    calls = own_each (call_ok w' after) call_ok_at;
    rest_is = arrived_left;
    nexts = left_right;
    once = both_once k m fits;
    only = λ x h. rw no_chain (both_only k m fits x h);
    had = λ x h. both_free k m fits x (rw no_chain at h);
    since = both_since k m fits;
  }

  arrived_fragment : fragment_from w' after f ≡ arriving_read strand calls
  unfolding fragment_from arriving_read
  arrived_fragment =
      let read : map (call_from w' after) own ≡ tabulate m (arriving_call calls) =
      map_places (call_from w' after) (arriving_call calls) own 0 (λ i l. call_from_at i (omega (arith, rs_length k m fits)) ∙ ap (arriving_call calls) (omega arith))
      ∙ ap (λ (t : ℕ). tabulate t (arriving_call calls)) (rs_length k m fits) in
      rw (arrived_first, arrived_strand, arrived_chain, le-leb 0 (get_or own 0 0) (omega arith), read)

-- ---- the case after an arrival
module _ (w : List ℤ) (b h : List ℕ) (s : Sizes) (ok : check_case_and_haplotypes_outcome w b h ≡ done s) (f : ℕ) (strand : ℤ) (calls : List ℤ) (arrives : Arriving w s f strand calls) where
  in_case : CaseIn w s
  in_case = checked_in w b h s ok

  pub sizes_arrival : sizes_of (arrived_words w s f strand calls) ≡ arrived_sizes w s calls
  sizes_arrival = sizes_after in_case (arrived_keeps in_case arrives)

  pub accepted_arrival : check_case_and_haplotypes_outcome (arrived_words w s f strand calls) b h ≡ done (arrived_sizes w s calls)
  accepted_arrival =
      let p = passed w b h s ok in
      accepted_changed in_case (arrived_changed in_case arrives) b h (subst (λ (t : Sizes). Passed w b h t) (sym p.0) p.1)

  -- "an arrival takes from the front": its records, and the free ones that are left
  pub chain_arrival : chain_of (arrived_words w s f strand calls) (arrived_sizes w s calls) f ≡ taken w s (whole_calls calls)
  chain_arrival = arrived_chain in_case arrives

  pub free_arrival : free_chain (arrived_words w s f strand calls) (arrived_sizes w s calls) ≡ drop (whole_calls calls) (free_chain w s)
  free_arrival = arrived_left in_case arrives

  pub decoded_arrival : decode (arrived_words w s f strand calls) b ≡ exchanged (decode w b) f (arriving_read strand calls)
  decoded_arrival =
      decoded_changed in_case (arrived_changed in_case arrives) b
      ∙ ap (exchanged (decode w b) f) (arrived_fragment in_case arrives)
