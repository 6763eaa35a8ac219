-- The tests of a link and of a fragment, case by case, and where a chain starts.
-- Assumes nothing.
use mathlib.Core.Path.{◌≡◌, refl}
use mathlib.Core.Bool.{Bool, true, false, cond, and-false}
use Prim.Native.Nat.{ℕ, zero, suc, ◌≤◌, ◌<◌}
use native.Mathlib.Omega.{arith}
use native.Mathlib.Decide.{dec_lt, ℕ_discrete}
use mathlib.Core.List.{List, [], ◌∷◌}
use lib.IntN.{ℤ, pos, negsuc}
use lib.Dec.{leb, ltb, eqb, lit<}
use borrow.Author.Tests.{le-leb, lt-leb, eq-eqb, ne_eqb, leb-true, ltb-true}
use Rattle.variants_and_fragments.specs.declared.Sizes.{Sizes}
use Rattle.variants_and_fragments.specs.Words.{within}
use Rattle.variants_and_fragments.specs.Layout.{max_calls, max_strand, first_field, strand_field, next_field, fragment_word, call_word, call_variant_at}
use Rattle.variants_and_fragments.specs.Chain.{first_call_at, present_at, strand_at, next_call_at, chain_from, chain_of, is_record, memb, reached, next_ok, link_ok, good_chain, fragment_ok}
use Rattle.variants_and_fragments.specs.Inner.Layout.{Sized}
use Rattle.variants_and_fragments.specs.Inner.Chain.{record_of}
use Rattle.variants_and_fragments.specs.Inner.Accepted.{allb}
use Rattle.variants_and_fragments.proofs.Bools.{both, or_right, true_false}
use Rattle.variants_and_fragments.proofs.Ranges.{upto_nat, within_top}
use Rattle.variants_and_fragments.proofs.Readings.{absent_none}

-- ---- a link
module _ (w : List ℤ) (s : Sizes) (r : ℕ) where
  -- a right one leads to zero or to a record
  pub next_top : next_ok w s r ≡ true → next_call_at w s r ≤ s.used
  next_top h = within_top 0 s.used (call_word w s r next_field) h

  -- which is at a variant above
  pub link_top : link_ok w s r ≡ true → next_call_at w s r ≤ s.used
  unfolding link_ok
  link_top h = next_top (both (next_ok w s r) _ h).0

  pub next_rises : link_ok w s r ≡ true → 1 ≤ next_call_at w s r → call_variant_at w s r < call_variant_at w s (next_call_at w s r)
  unfolding link_ok
  next_rises h l =
      let t = next_call_at w s r in
      let up : ltb (call_variant_at w s r) (call_variant_at w s t) ≡ true = rw (ne_eqb t 0 (λ e. omega arith)) at (both (next_ok w s r) _ h).1 in
      ltb-true _ _ up

  module _ (z : Sized w s) where
    top : s.used ≤ max_calls
    top = omega (arith, z.used_top, z.c_top)

    pub next_in : next_ok w s r ≡ leb (next_call_at w s r) s.used
    next_in = upto_nat s.used (call_word w s r next_field) (omega (arith, top))

    pub link_end : next_call_at w s r ≡ 0 → true ≡ link_ok w s r
    unfolding link_ok
    link_end e = simp (next_in, le-leb (next_call_at w s r) s.used (omega arith), eq-eqb (next_call_at w s r) 0 e)

    pub link_over : s.used < next_call_at w s r → false ≡ link_ok w s r
    unfolding link_ok
    link_over h = simp (next_in, lt-leb (next_call_at w s r) s.used h)

    pub link_in : (next_call_at w s r ≡ 0 → ⊥) → next_call_at w s r ≤ s.used → ltb (call_variant_at w s r) (call_variant_at w s (next_call_at w s r)) ≡ link_ok w s r
    unfolding link_ok
    link_in n h = simp (next_in, le-leb (next_call_at w s r) s.used h, ne_eqb (next_call_at w s r) 0 n)

-- ---- a fragment
module _ (w : List ℤ) (s : Sizes) (f : ℕ) where
  pub record FragmentTests : Type 0 where
    pub strand_in : strand_at w s f ≤ max_strand
    pub first_in : within (negsuc 0) (pos s.used) (fragment_word w s f first_field) ≡ true
    pub right : good_chain (link_ok w s) (reached w s f) (chain_of w s f) ≡ true

  pub fragment_tests : fragment_ok w s f ≡ true → FragmentTests
  unfolding fragment_ok
  fragment_tests h =
      let a = both (within (pos 0) (pos max_strand) (fragment_word w s f strand_field)) _ h in
      let b = both (within (negsuc 0) (pos s.used) (fragment_word w s f first_field)) (good_chain (link_ok w s) (reached w s f) (chain_of w s f)) a.1 in
      record { strand_in = within_top 0 max_strand _ a.0; first_in = b.0; right = b.1 }

  strand_test : within (pos 0) (pos max_strand) (fragment_word w s f strand_field) ≡ leb (strand_at w s f) max_strand
  strand_test = upto_nat max_strand (fragment_word w s f strand_field) (lit< tt)

  pub frag_strand : max_strand < strand_at w s f → false ≡ fragment_ok w s f
  unfolding fragment_ok
  frag_strand h = simp (strand_test, lt-leb (strand_at w s f) max_strand h)

  module _ (strand_in : strand_at w s f ≤ max_strand) where
    pub frag_first : within (negsuc 0) (pos s.used) (fragment_word w s f first_field) ≡ false → false ≡ fragment_ok w s f
    unfolding fragment_ok
    frag_first h = simp (strand_test, le-leb (strand_at w s f) max_strand strand_in, h)

    pub frag_in : within (negsuc 0) (pos s.used) (fragment_word w s f first_field) ≡ true → good_chain (link_ok w s) (reached w s f) (chain_of w s f) ≡ fragment_ok w s f
    unfolding fragment_ok
    frag_in h = simp (strand_test, le-leb (strand_at w s f) max_strand strand_in, h)

-- ---- where a chain starts, and where it goes on
pub record_bounds : (s : Sizes) (r : ℕ) → is_record s r ≡ true → (1 ≤ r) × (r ≤ s.used)
record_bounds s r h = let b = both (leb 1 r) (leb r s.used) h in (leb-true 1 r b.0, leb-true r s.used b.1)

pub record_none : (s : Sizes) (t : ℕ) → s.used < t → 0 ≡ record_of s t
unfolding record_of
record_none s t h = simp (lt-leb _ _ h)

pub record_some : (s : Sizes) (t : ℕ) → t ≤ s.used → t ≡ record_of s t
unfolding record_of
record_some s t h = simp (le-leb _ _ h)

-- it is 0 or a record
pub record_top : (s : Sizes) (t : ℕ) → record_of s t ≤ s.used
record_top s t = elim (dec_lt s.used t) [
  | yes l ↦ omega (arith, record_none s t l)
  | no l ↦ omega (arith, record_some s t (omega arith))
]

-- the chain is the same from there as from the word
pub record_chain : (w : List ℤ) (s : Sizes) (k t : ℕ) → chain_from w s k (record_of s t) ≡ chain_from w s k t
unfolding chain_from
record_chain w s zero t = refl
record_chain w s (suc k) t = elim (dec_lt s.used t) [
  | yes l ↦ rw (← record_none s t l, lt-leb t s.used l, and-false (leb 1 t))
  | no l ↦ rw (← record_some s t (omega arith))
]

-- there is no chain from what is past the records used
pub none_chain : (w : List ℤ) (s : Sizes) (k t : ℕ) → s.used < t → chain_from w s k t ≡ []
unfolding chain_from
none_chain w s zero t h = refl
none_chain w s (suc k) t h = rw (lt-leb t s.used h, and-false (leb 1 t))

-- and none of an absent fragment, whose first call is no record
pub absent_chain : (w : List ℤ) (s : Sizes) → Sized w s → (f : ℕ) → present_at w s f ≡ false → chain_of w s f ≡ []
unfolding chain_of
absent_chain w s z f h = none_chain w s s.c (first_call_at w s f) (omega (arith, absent_none (fragment_word w s f first_field) h, z.used_top, z.c_top))

-- each of a chain is a record
chain_from_record : (w : List ℤ) (s : Sizes) (k r x : ℕ) → memb x (chain_from w s k r) ≡ true → (1 ≤ x) × (x ≤ s.used)
unfolding chain_from memb
chain_from_record w s zero r x h = true_false h refl
chain_from_record w s (suc k) r x h = go (is_record s r) refl h (chain_from_record w s k (next_call_at w s r) x)
  where
    go : (t : Bool) → is_record s r ≡ t → memb x (cond t (r ∷ chain_from w s k (next_call_at w s r)) []) ≡ true
        → (memb x (chain_from w s k (next_call_at w s r)) ≡ true → (1 ≤ x) × (x ≤ s.used)) → (1 ≤ x) × (x ≤ s.used)
    go false e m rec = true_false m refl
    go true e m rec = elim (ℕ_discrete x r) [ yes q ↦ rw q (record_bounds s r e) | no q ↦ rec (rw (ne_eqb x r q) at m) ]

pub chain_record : (w : List ℤ) (s : Sizes) (f x : ℕ) → memb x (chain_of w s f) ≡ true → (1 ≤ x) × (x ≤ s.used)
unfolding chain_of
chain_record w s f x h = chain_from_record w s s.c (first_call_at w s f) x h

-- what holds of each member holds of all
pub all_memb : (p : ℕ → Bool) (l : List ℕ) → ((x : ℕ) → memb x l ≡ true → p x ≡ true) → allb p l ≡ true
unfolding allb memb
all_memb p [] h = refl
all_memb p (y ∷ ys) h = rw (h y (rw (eq-eqb y y refl) refl)) (all_memb p ys (λ x m. h x (or_right (eqb x y) (memb x ys) m)))
