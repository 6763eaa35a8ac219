-- The records that no fragment has, by place: the free ones, linked one after the other, then the unused tail. What is left after i of them are taken
-- (`left_at`) has record i at its front, and without that it is what is left after i + 1: the calls before i are laid in other records, so that the
-- free record at hand keeps its next. They are distinct ones of the case, C at most.
-- Assumes nothing.
use mathlib.Core.Path.{◌≡◌, sym, ap, ◌∙◌}
use mathlib.Core.Bool.{Bool, true}
use mathlib.Core.List.{List}
use Prim.Native.Nat.{ℕ, suc, ◌+◌, ◌-◌, ◌≤◌, ◌<◌}
use native.Mathlib.Omega.{arith}
use native.Mathlib.Decide.{dec_lt}
use borrow.Author.Tests.{eq-eqb, ne_eqb}
use lib.IntN.{ℤ}
use lib.ListN.{length, get_or, take, length-append, length-take, get_or-append, get_or-eq_default}
use lib.Seq.{get_or-append-add, get_or-take, length-take-le}
use Rattle.variants_and_fragments.specs.declared.Sizes.{Sizes}
use Rattle.variants_and_fragments.specs.Layout.{next_field}
use Rattle.variants_and_fragments.specs.Chain.{next_call_at, reached, free_chain}
use Rattle.variants_and_fragments.specs.Words.{nat_of}
use Rattle.variants_and_fragments.specs.Inner.Accepted.{CaseIn}
use Rattle.variants_and_fragments.proofs.Decoded.{tabulate_length, tabulate_at}
use Rattle.variants_and_fragments.proofs.Free.{free_linked, chains_distinct, free_length}
use Rattle.variants_and_fragments.proofs.Linked.{Linked, linked_first, linked_in, linked_next}
use Rattle.variants_and_fragments.proofs.Pigeon.{distinct, distinct_left}
use Rattle.late_reads.specs.declared.words.RoomLeft.{RoomLeft}
use Rattle.late_reads.specs.Arriving.{unused_records, room, taken, calls_laid}
use Rattle.late_reads.specs.Inner.Room.{front_of, rest_of, left_at}
use Rattle.late_reads.proofs.Distinct.{distinct_at, distinct_by, distinct_take}
use Rattle.late_reads.proofs.WordsAfter.{laid_record}

-- ---- a linked chain has a record at each place before its end, and 0 from there on
pub place_in : (rs : List ℕ) (i : ℕ) → (get_or rs i 0 ≡ 0 → ⊥) → i < length rs
place_in rs i n = elim (dec_lt i (length rs)) [ yes h ↦ h | no h ↦ absurd (n (get_or-eq_default rs 0 (omega arith))) ]

pub place_end : {w : List ℤ} {s : Sizes} {right : ℕ → Bool} {r : ℕ} {rs : List ℕ} → Linked w s right r rs → (i : ℕ) → get_or rs i 0 ≡ 0 → length rs ≤ i
place_end {rs = rs} l i e = elim (dec_lt i (length rs)) [ yes h ↦ absurd (omega (arith, (linked_in l i h).0)) | no h ↦ omega arith ]

-- ---- by place
module _ (w : List ℤ) (s : Sizes) where
  pub room_length : length (room w s) ≡ length (free_chain w s) + (s.c - s.used)
  unfolding room unused_records
  room_length = length-append (free_chain w s) (unused_records s) ∙ ap (λ (n : ℕ). length (free_chain w s) + n) (tabulate_length (s.c - s.used) _)

  pub room_free : (i : ℕ) → i < length (free_chain w s) → get_or (room w s) i 0 ≡ get_or (free_chain w s) i 0
  unfolding room
  room_free i h = get_or-append (free_chain w s) (unused_records s) 0 i h

  pub room_tail : (i : ℕ) → length (free_chain w s) ≤ i → i < length (room w s) → get_or (room w s) i 0 ≡ s.used + 1 + (i - length (free_chain w s))
  unfolding room unused_records
  room_tail i h l =
      let n = i - length (free_chain w s) in
      let e : i ≡ length (free_chain w s) + n = omega arith in
      ap (λ (k : ℕ). get_or (room w s) k 0) e
      ∙ get_or-append-add (free_chain w s) (unused_records s) n 0
      ∙ tabulate_at (s.c - s.used) (λ (j : ℕ). s.used + 1 + j) n 0 (omega (arith, room_length))

  -- the first m of them
  pub taken_at : (m i : ℕ) → i < m → get_or (taken w s m) i 0 ≡ get_or (room w s) i 0
  unfolding taken
  taken_at m i h = get_or-take m (room w s) i 0 h

  pub taken_past : (m i : ℕ) → m ≤ i → get_or (taken w s m) i 0 ≡ 0
  unfolding taken
  taken_past m i h = get_or-eq_default (take m (room w s)) 0 (omega (arith, length-take m (room w s)))

  pub taken_length : (m : ℕ) → m ≤ length (room w s) → length (taken w s m) ≡ m
  unfolding taken
  taken_length m h = length-take-le m (room w s) h

-- ---- of an accepted case
module _ {w : List ℤ} {s : Sizes} (k : CaseIn w s) where
  pub room_top : length (room w s) ≤ s.c
  room_top = omega (arith, room_length w s, free_length k, k.sized.used_top)

  room_in : (i : ℕ) → i < length (room w s) → (1 ≤ get_or (room w s) i 0) × (get_or (room w s) i 0 ≤ s.c)
  room_in i h = elim (dec_lt i (length (free_chain w s))) [
    | yes l ↦ let b = linked_in (free_linked k) i l in rw (room_free w s i l) (b.0, omega (arith, b.1, k.sized.used_top))
    | no l ↦ let e = room_tail w s i (omega arith) h in (omega arith, omega (arith, room_length w s))
  ]

  pub free_distinct : distinct (free_chain w s) ≡ true
  free_distinct = distinct_left (free_chain w s) (reached w s s.f) (chains_distinct k)

  pub room_distinct : distinct (room w s) ≡ true
  room_distinct = distinct_by (room w s) (λ i j l h e. elim (dec_lt j (length (free_chain w s))) [
    | yes b ↦
        let a : i < length (free_chain w s) = omega arith in
        let q = distinct_at (free_chain w s) free_distinct i j a b (sym (room_free w s i a) ∙ e ∙ room_free w s j b) in
        omega arith
    | no b ↦
        let y = room_tail w s j (omega arith) h in
        elim (dec_lt i (length (free_chain w s))) [
          | yes a ↦ let x = room_free w s i a in omega (arith, (linked_in (free_linked k) i a).1)
          | no a ↦ let x = room_tail w s i (omega arith) (omega arith) in omega arith
        ]
  ])

  pub taken_distinct : (m : ℕ) → distinct (taken w s m) ≡ true
  unfolding taken
  taken_distinct m = distinct_take m (room w s) room_distinct

  pub taken_in : (m : ℕ) → m ≤ length (room w s) → (i : ℕ) → i < length (taken w s m) → (1 ≤ get_or (taken w s m) i 0) × (get_or (taken w s m) i 0 ≤ s.c)
  taken_in m h i l = let n = taken_length w s m h in rw (taken_at w s m i (omega arith)) (room_in i (omega arith))

  pub taken_top : (m : ℕ) → m ≤ length (room w s) → (i : ℕ) → get_or (taken w s m) i 0 ≤ s.c
  taken_top m h i = elim (dec_lt i m) [
    | yes l ↦ (taken_in m h i (omega (arith, taken_length w s m h))).1
    | no l ↦ omega (arith, taken_past w s m i (omega arith))
  ]

  -- ---- what is left
  pub left_start : (left : RoomLeft) → (left.free ≡ s.free) × (left.used ≡ s.used) → left ≡ left_at w s 0
  unfolding left_at
  left_start left e =
      let a : s.free ≡ get_or (free_chain w s) 0 0 = linked_first (free_linked k) in
      let b : s.used + (0 - length (free_chain w s)) ≡ s.used = omega arith in
      rw (b, ← a, ← e.0, ← e.1)

  pub left_in : (i : ℕ) → i ≤ length (room w s) → ((left_at w s i).used ≤ s.c) × ((left_at w s i).free ≤ s.used)
  unfolding left_at
  left_in i h = (
    omega (arith, room_length w s, k.sized.used_top),
    elim (dec_lt i (length (free_chain w s))) [
      | yes l ↦ (linked_in (free_linked k) i l).1
      | no l ↦ let e : get_or (free_chain w s) i 0 ≡ 0 = get_or-eq_default (free_chain w s) 0 (omega arith) in omega arith
    ],
  )

  pub front_is : (i : ℕ) → i < length (room w s) → front_of (left_at w s i) ≡ get_or (room w s) i 0
  unfolding front_of left_at
  front_is i h = elim (dec_lt i (length (free_chain w s))) [
    | yes l ↦ let lo = (linked_in (free_linked k) i l).0 in rw (ne_eqb (get_or (free_chain w s) i 0) 0 (λ e. omega arith)) (sym (room_free w s i l))
    | no l ↦
        let e : get_or (free_chain w s) i 0 ≡ 0 = get_or-eq_default (free_chain w s) 0 (omega arith) in
        rw (eq-eqb (get_or (free_chain w s) i 0) 0 e) (omega (arith, room_tail w s i (omega arith) h))
  ]

  -- in words that keep the next of the record at the front, where it is a free one
  pub rest_is : (w' : List ℤ) (i : ℕ) → (i < length (free_chain w s) → next_call_at w' s (get_or (free_chain w s) i 0) ≡ next_call_at w s (get_or (free_chain w s) i 0))
      → rest_of w' s (left_at w s i) ≡ left_at w s (suc i)
  unfolding rest_of left_at
  rest_is w' i same = elim (dec_lt i (length (free_chain w s))) [
    | yes l ↦
        let lo = (linked_in (free_linked k) i l).0 in
        let n : next_call_at w' s (get_or (free_chain w s) i 0) ≡ get_or (free_chain w s) (suc i) 0 = same l ∙ linked_next (free_linked k) i l in
        let u : s.used + (suc i - length (free_chain w s)) ≡ s.used + (i - length (free_chain w s)) = omega arith in
        rw (ne_eqb (get_or (free_chain w s) i 0) 0 (λ e. omega arith), n, u)
    | no l ↦
        let e : get_or (free_chain w s) i 0 ≡ 0 = get_or-eq_default (free_chain w s) 0 (omega arith) in
        let n : get_or (free_chain w s) (suc i) 0 ≡ 0 = get_or-eq_default (free_chain w s) 0 (omega arith) in
        let u : s.used + (suc i - length (free_chain w s)) ≡ s.used + (i - length (free_chain w s)) + 1 = omega arith in
        rw (eq-eqb (get_or (free_chain w s) i 0) 0 e, n, u)
  ]

  -- ---- while m calls are laid in the first m of them
  module _ (m : ℕ) (fits : m ≤ length (room w s)) (i : ℕ) (more : i < m) where
    pub taken_front : front_of (left_at w s i) ≡ get_or (taken w s m) i 0
    taken_front = front_is i (omega arith) ∙ sym (taken_at w s m i more)

    pub taken_rest : (calls : List ℤ) → rest_of (calls_laid w s calls (taken w s m) i) s (left_at w s i) ≡ left_at w s (suc i)
    taken_rest calls = rest_is (calls_laid w s calls (taken w s m) i) i (λ l.
        let n = taken_length w s m fits in
        let r = get_or (free_chain w s) i 0 in
        let here : get_or (taken w s m) i 0 ≡ r = taken_at w s m i more ∙ room_free w s i l in
        ap nat_of (laid_record w s calls (taken w s m) (taken_distinct m) (taken_in m fits) i r next_field (omega arith) (linked_in (free_linked k) i l).0
        (λ j h e. let q = distinct_at (taken w s m) (taken_distinct m) j i (omega arith) (omega arith) (e ∙ sym here) in omega arith) (omega arith)))
