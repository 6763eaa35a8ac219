-- The words after a departure: the fragment's first call is −1, so that its chain is empty, its records stand before the free ones, the last of them linked
-- to what was the first free one, and all else is kept. They are accepted, and stand for the case with that fragment absent.
-- Assumes nothing.
use mathlib.Core.Path.{◌≡◌, refl, sym, ap, ◌∙◌, subst}
use mathlib.Core.Bool.{true, false}
use mathlib.Core.List.{List, [], ◌∷◌, ◌++◌}
use mathlib.Core.Logic.{inl, inr}
use Prim.Native.Nat.{ℕ, suc, ◌+◌, ◌-◌, ◌≤◌, ◌<◌}
use native.Mathlib.Omega.{arith}
use native.Mathlib.Decide.{dec_lt, ℕ_discrete}
use borrow.Author.Tests.{le-leb}
use lib.Dec.{lit<}
use lib.IntN.{ℤ, pos, negsuc}
use lib.ListN.{length, get_or, length-set, length-append, get_or-append}
use lib.Seq.{get_or-set_same, get_or-set_other, get_or-append-add}
use Rattle.variants_and_fragments.specs.declared.Sizes.{Sizes}
use Rattle.variants_and_fragments.specs.Refusals.{done}
use Rattle.variants_and_fragments.specs.Words.{word, within, none, nat_of, nat_at}
use Rattle.variants_and_fragments.specs.Layout.{call_words, max_strand, sizes_of, used_field, free_field, first_field, strand_field, next_field, fragment_at, fragment_word, call_at, call_word, call_set}
use Rattle.variants_and_fragments.specs.Chain.{first_call_at, strand_at, next_call_at, next_ok, chain_of, free_chain, memb}
use Rattle.variants_and_fragments.specs.Check.{check_case_and_haplotypes_outcome}
use Rattle.variants_and_fragments.specs.Decode.{fragment_from, decode}
use Rattle.variants_and_fragments.specs.Inner.Accepted.{CaseIn}
use Rattle.variants_and_fragments.proofs.Bools.{true_false}
use Rattle.variants_and_fragments.proofs.Ranges.{upto_nat}
use Rattle.variants_and_fragments.proofs.Chain.{next_in, none_chain, chain_record}
use Rattle.variants_and_fragments.proofs.Free.{free_linked}
use Rattle.variants_and_fragments.proofs.Linked.{linked_first, linked_next, chain_linked}
use Rattle.variants_and_fragments.proofs.Pigeon.{distinct}
use Rattle.variants_and_fragments.proofs.Accepted.{Passed, passed, checked_in}
use Rattle.late_reads.specs.Values.{exchanged}
use Rattle.late_reads.specs.Arriving.{freed_words, departed_words}
use Rattle.late_reads.proofs.Distinct.{memb_at, distinct_at}
use Rattle.late_reads.proofs.Room.{free_distinct}
use Rattle.late_reads.proofs.Apart.{memb_cases, memb_place, place_top, distinct_join, chain_by, chain_distinct, free_apart, free_record, chains_apart}
use Rattle.late_reads.proofs.OneChanged.{room_as, Keeps, Changed, sizes_after, sized_after}
use Rattle.late_reads.proofs.AcceptedAfter.{accepted_changed}
use Rattle.late_reads.proofs.DecodedAfter.{decoded_changed}

-- ---- records rs put before the free ones
module _ (w : List ℤ) (s : Sizes) where
  freed_long : (rs : List ℕ) → length (freed_words w s rs) ≡ length w
  unfolding freed_words
  freed_long [] = refl
  freed_long (r ∷ rs) = simp length-set

  -- two words are set, the first free record and the next of the last of rs
  freed_other : (rs : List ℕ) (i : ℕ) → (i ≡ free_field → ⊥) → ((t : ℕ) → suc t ≡ length rs → i ≡ call_at s (get_or rs t 0) + next_field → ⊥) → word (freed_words w s rs) i ≡ word w i
  unfolding freed_words
  freed_other [] i a b = refl
  freed_other (r ∷ rs) i a b =
      let last = call_at s (get_or (r ∷ rs) (length rs) 0) + next_field in
      get_or-set_other (call_set w s (get_or (r ∷ rs) (length rs) 0) next_field (pos s.free)) free_field i (pos r) (pos 0) a
      ∙ get_or-set_other w last i (pos s.free) (pos 0) (b (length rs) refl)

  freed_last : (rs : List ℕ) (t : ℕ) → suc t ≡ length rs → call_at s (get_or rs t 0) + call_words ≤ length w → call_word (freed_words w s rs) s (get_or rs t 0) next_field ≡ pos s.free
  unfolding freed_words
  freed_last [] t e room = absurd (omega arith)
  freed_last (r ∷ rs) t e room =
      let q : t ≡ length rs = omega arith in
      let last = call_at s (get_or (r ∷ rs) (length rs) 0) + next_field in
      let inside : call_at s (get_or (r ∷ rs) (length rs) 0) + call_words ≤ length w = rw q at room in
      rw q (
      get_or-set_other (call_set w s (get_or (r ∷ rs) (length rs) 0) next_field (pos s.free)) free_field last (pos r) (pos 0) (λ z. omega arith)
      ∙ get_or-set_same w last (pos s.free) (pos 0) (omega arith))

  freed_free : (rs l : List ℕ) → free_field < length w → nat_at w free_field ≡ get_or l 0 0 → nat_at (freed_words w s rs) free_field ≡ get_or (rs ++ l) 0 0
  unfolding freed_words
  freed_free [] l long e = e
  freed_free (r ∷ rs) l long e = ap nat_of (get_or-set_same (call_set w s (get_or (r ∷ rs) (length rs) 0) next_field (pos s.free)) free_field (pos r) (pos 0) (simp length-set long))

module _ {w : List ℤ} {s : Sizes} (k : CaseIn w s) (f : ℕ) (l : f < s.f) where
  abbrev chain : List ℕ
  chain = chain_of w s f

  abbrev rest : List ℕ
  rest = chain_of w s f ++ free_chain w s

  abbrev w' : List ℤ
  w' = departed_words w s f

  -- the first free record
  abbrev v : ℕ
  v = get_or (chain_of w s f ++ free_chain w s) 0 0

  -- ---- what stands at each place
  pub departed_other : (i : ℕ) → (i ≡ fragment_at s f + first_field → ⊥) → (i ≡ free_field → ⊥) → ((t : ℕ) → suc t ≡ length (chain_of w s f) → i ≡ call_at s (get_or (chain_of w s f) t 0) + next_field → ⊥)
      → word (departed_words w s f) i ≡ word w i
  unfolding departed_words
  departed_other i a b c = get_or-set_other (freed_words w s chain) (fragment_at s f + first_field) i (negsuc 0) (pos 0) a ∙ freed_other w s chain i b c

  pub departed_long : length (departed_words w s f) ≡ length w
  unfolding departed_words
  departed_long = length-set (freed_words w s chain) (fragment_at s f + first_field) (negsuc 0) ∙ freed_long w s chain

  pub departed_first : fragment_word (departed_words w s f) s f first_field ≡ negsuc 0
  unfolding departed_words
  departed_first = get_or-set_same (freed_words w s chain) (fragment_at s f + first_field) (negsuc 0) (pos 0) (omega (arith, k.sized.size, freed_long w s chain))

  departed_strand : fragment_word (departed_words w s f) s f strand_field ≡ fragment_word w s f strand_field
  departed_strand = departed_other (fragment_at s f + strand_field) (λ e. omega arith) (λ e. omega arith) (λ t q e. omega arith)

  departed_free : nat_at (departed_words w s f) free_field ≡ v
  unfolding departed_words
  departed_free =
      let lent : nat_at w free_field ≡ get_or (free_chain w s) 0 0 = ap (λ (t : Sizes). t.free) (sym k.shape) ∙ linked_first (free_linked k) in
      ap nat_of (get_or-set_other (freed_words w s chain) (fragment_at s f + first_field) free_field (negsuc 0) (pos 0) (λ e. omega arith))
      ∙ freed_free w s chain (free_chain w s) (omega (arith, k.sized.size)) lent

  -- a record but the last of the chain keeps its words
  departed_record : (r field : ℕ) → 1 ≤ r → field < call_words → ((t : ℕ) → suc t ≡ length (chain_of w s f) → r ≡ get_or (chain_of w s f) t 0 → ⊥)
      → call_word (departed_words w s f) s r field ≡ call_word w s r field
  departed_record r field lo h n = departed_other (call_at s r + field) (λ e. omega arith) (λ e. omega arith) (λ t q e.
      let b = chain_record w s f (get_or chain t 0) (memb_at chain t (omega arith)) in
      let low = b.0 in
      n t q (omega arith))

  -- ---- the free records
  rest_in : (x : ℕ) → memb x rest ≡ true → (1 ≤ x) × (x ≤ s.used)
  rest_in x m = elim (memb_cases x chain (free_chain w s) m) [ inl h ↦ chain_record w s f x h | inr h ↦ free_record k x h ]

  rest_once : distinct rest ≡ true
  rest_once = distinct_join chain (free_chain w s) (chain_distinct k f l) (free_distinct k) (λ x a b. free_apart k f x l b a)

  -- each has the one after it as its next: in the chain, after its last one, and among those that were free
  chain_next : (i : ℕ) → suc i < length (chain_of w s f) → next_call_at (departed_words w s f) s (get_or (chain_of w s f) i 0) ≡ get_or (chain_of w s f) (suc i) 0
  chain_next i h =
      ap nat_of (departed_record (get_or chain i 0) next_field (chain_record w s f (get_or chain i 0) (memb_at chain i (omega arith))).0 (omega arith)
      (λ t q e. let z = distinct_at chain (chain_distinct k f l) i t (omega arith) (omega arith) e in omega arith))
      ∙ linked_next (chain_linked k.sized.used_top (k.frags f l)) i (omega arith)

  last_next : (t : ℕ) → suc t ≡ length (chain_of w s f) → next_call_at (departed_words w s f) s (get_or (chain_of w s f) t 0) ≡ get_or (free_chain w s) 0 0
  unfolding departed_words
  last_next t e =
      let b = chain_record w s f (get_or chain t 0) (memb_at chain t (omega arith)) in
      let low = b.0 in
      let high = b.1 in
      ap nat_of (get_or-set_other (freed_words w s chain) (fragment_at s f + first_field) (call_at s (get_or chain t 0) + next_field) (negsuc 0) (pos 0) (λ q. omega arith)
      ∙ freed_last w s chain t e (omega (arith, k.sized.size, k.sized.used_top)))
      ∙ linked_first (free_linked k)

  free_next : (i : ℕ) → i < length (free_chain w s) → next_call_at (departed_words w s f) s (get_or (free_chain w s) i 0) ≡ get_or (free_chain w s) (suc i) 0
  free_next i h =
      let m = memb_at (free_chain w s) i h in
      ap nat_of (departed_record (get_or (free_chain w s) i 0) next_field (free_record k _ m).0 (omega arith)
      (λ t q e. free_apart k f (get_or (free_chain w s) i 0) l m (rw e (memb_at chain t (omega arith)))))
      ∙ linked_next (free_linked k) i h

  rest_next : (i : ℕ) → i < length rest → next_call_at (departed_words w s f) s (get_or rest i 0) ≡ get_or rest (suc i) 0
  rest_next i h = elim (dec_lt i (length chain)) [
    | yes a ↦ elim (ℕ_discrete (suc i) (length chain)) [
      | yes e ↦
          let n : suc i ≡ length chain + 0 = omega arith in
          rw (get_or-append chain (free_chain w s) 0 i a, n, get_or-append-add chain (free_chain w s) 0 0) (last_next i e)
      | no e ↦ rw (get_or-append chain (free_chain w s) 0 i a, get_or-append chain (free_chain w s) 0 (suc i) (omega arith)) (chain_next i (omega arith))
    ]
    | no a ↦
        let j = i - length chain in
        let here : get_or rest i 0 ≡ get_or (free_chain w s) j 0 = ap (λ (n : ℕ). get_or rest n 0) (omega arith) ∙ get_or-append-add chain (free_chain w s) j 0 in
        let there : get_or rest (suc i) 0 ≡ get_or (free_chain w s) (suc j) 0 = ap (λ (n : ℕ). get_or rest n 0) (omega arith) ∙ get_or-append-add chain (free_chain w s) (suc j) 0 in
        rw (here, there) (free_next j (omega (arith, length-append chain (free_chain w s))))
  ]

  -- ---- the chains
  abbrev after : Sizes
  after = room_as s s.used v

  departed_keeps : Keeps w w' s s.used v f
  departed_keeps = record {
    long = departed_long;
    used_is = ap nat_of (departed_other used_field (λ e. omega arith) (λ e. omega arith) (λ t q e. omega arith)) ∙ ap (λ (t : Sizes). t.used) (sym k.shape);
    free_is = departed_free;
    low = omega arith;
    high = k.sized.used_top;
    free_top = place_top rest 0 (λ x m. (rest_in x m).1);
    front = λ i h a b. departed_other i (λ e. omega arith) b (λ t q e. omega arith);
    others = λ g field h other m. departed_other (fragment_at s g + field) (λ e. other (omega arith)) (λ e. omega arith) (λ t q e. omega arith);
    records = λ g r field h other m n. departed_record r field (chain_record w s g r m).0 n (λ t q e. chains_apart k g f r h l other m (rw e (memb_at chain t (omega arith))));
  }

  departed_chain : chain_of w' after f ≡ []
  unfolding chain_of
  departed_chain =
      let e : first_call_at w' after f ≡ none = ap nat_of departed_first in
      none_chain w' after s.c (first_call_at w' after f) (omega (arith, k.sized.used_top, k.sized.c_top))

  rest_is : free_chain w' after ≡ rest
  unfolding free_chain
  rest_is = chain_by w' after rest (suc s.c) rest_once rest_in rest_next (omega (arith, k.sized.used_top))

  rest_right : (x : ℕ) → memb x rest ≡ true → next_ok w' after x ≡ true
  rest_right x m =
      let i = memb_place rest x m in
      rw (next_in w' after x (sized_after k departed_keeps), i.2, rest_next i.0 i.1) (le-leb _ _ (place_top rest (suc i.0) (λ y n. (rest_in y n).1)))

  departed_changed : Changed w w' s s.used v f [] rest
  unfolding within memb
  departed_changed = record {
    keeps = departed_keeps;
    inside = l;
    strand_in = rw (departed_strand, upto_nat max_strand (fragment_word w s f strand_field) (lit< tt)) (le-leb (strand_at w s f) max_strand (k.frags f l).strand_in);
    first_in = rw departed_first refl;
    chain_is = departed_chain;
    links = λ x m. true_false m refl;
    calls = λ x m. true_false m refl;
    rest_is = rest_is;
    nexts = rest_right;
    once = rest_once;
    only = λ x m. inl m;
    had = λ x m. m;
    since = λ x a b. absurd (omega arith);
  }

-- ---- the case after a departure
-- the sizes: the fragment's first record is the first free one, if it has any
abbrev pub departed_sizes : List ℤ → Sizes → ℕ → Sizes
departed_sizes w s f = room_as s s.used (get_or (chain_of w s f ++ free_chain w s) 0 0)

module _ (w : List ℤ) (b h : List ℕ) (s : Sizes) (ok : check_case_and_haplotypes_outcome w b h ≡ done s) (f : ℕ) (l : f < s.f) where
  in_case : CaseIn w s
  in_case = checked_in w b h s ok

  pub sizes_departure : sizes_of (departed_words w s f) ≡ departed_sizes w s f
  sizes_departure = sizes_after in_case (departed_keeps in_case f l)

  pub accepted_departure : check_case_and_haplotypes_outcome (departed_words w s f) b h ≡ done (departed_sizes w s f)
  accepted_departure =
      let p = passed w b h s ok in
      accepted_changed in_case (departed_changed in_case f l) b h (subst (λ (t : Sizes). Passed w b h t) (sym p.0) p.1)

  -- "A departed chain goes, in its order, before the free ones"
  pub free_departure : free_chain (departed_words w s f) (departed_sizes w s f) ≡ chain_of w s f ++ free_chain w s
  free_departure = rest_is in_case f l

  pub decoded_departure : decode (departed_words w s f) b ≡ exchanged (decode w b) f (record { present = false; strand = strand_at w s f; calls = [] })
  unfolding fragment_from
  decoded_departure =
      decoded_changed in_case (departed_changed in_case f l) b
      ∙ rw (departed_first in_case f l, departed_strand in_case f l, departed_chain in_case f l)
