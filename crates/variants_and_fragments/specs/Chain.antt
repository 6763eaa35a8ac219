-- 01, section 2 and numbers 4 and 5 of the table, as amended by requests 1, 3 and 5: the chains. A fragment's chain starts at its first call and
-- goes on by each call's next; zero ends it, and so does what is no used record. The free chain starts at the head's word 5 and goes on in the
-- same way. w is the words, s the sizes; r, t are record numbers from 1.
-- Assumes nothing.
use Rattle.std.specs.Prelude.{Bool, true, false, not, cond, ◌&&◌, ◌||◌, List, [], ◌∷◌, ◌++◌, ℕ, zero, suc, ℤ, pos, negsuc, leb, ltb, eqb}
use Rattle.variants_and_fragments.specs.declared.Sizes.{Sizes}
use Rattle.variants_and_fragments.specs.First.{holds_below}
use Rattle.variants_and_fragments.specs.Words.{within}
use Rattle.variants_and_fragments.specs.Layout.{max_strand, first_field, strand_field, next_field, fragment_word, call_word, call_variant_at, call_ok}
pub use Rattle.variants_and_fragments.specs.Layout.{first_call_at, present_at, strand_at, next_call_at}

-- ---- a chain
-- one of the records used so far
abbrev pub is_record : Sizes → ℕ → Bool
is_record s r = leb 1 r && leb r s.used

-- the records from r on, k at most; what is no record ends the chain
unfoldable pub chain_from : List ℤ → Sizes → ℕ → ℕ → List ℕ
chain_from w s zero r = []
chain_from w s (suc k) r = cond (is_record s r) (r ∷ chain_from w s k (next_call_at w s r)) []

-- fragment f's records; an absent fragment has none. C steps reach every record that the walk can reach (proofs/Reach), and along a good chain
-- variants rise, so that no record comes twice (proofs/Linked)
unfoldable pub chain_of : List ℤ → Sizes → ℕ → List ℕ
unfolding chain_from
chain_of w s f = chain_from w s s.c (first_call_at w s f)

-- x is in the list
unfoldable pub memb : ℕ → List ℕ → Bool
memb x [] = false
memb x (y ∷ ys) = eqb x y || memb x ys

-- the records of the fragments below f
unfoldable pub reached : List ℤ → Sizes → ℕ → List ℕ
unfolding chain_of
reached w s zero = []
reached w s (suc f) = chain_of w s f ++ reached w s f

-- ---- 4, a record that some fragment reaches, whatever other faults its chain has
unfoldable pub is_reached : List ℤ → Sizes → ℕ → Bool
unfolding memb reached
is_reached w s r = memb r (reached w s s.f)

-- records that no fragment reaches are not looked at under 4: the free ones and the unused tail
unfoldable pub reached_call_ok : List ℤ → Sizes → ℕ → Bool
reached_call_ok w s r = not (is_reached w s r) || call_ok w s r

-- ---- 5, a fragment
-- record r's next is in 0..used
abbrev pub next_ok : List ℤ → Sizes → ℕ → Bool
next_ok w s r = within (pos 0) (pos s.used) (call_word w s r next_field)

-- a fragment's link: the next is right, and where it is not 0, the variant of the record that it names is above r's
unfoldable pub link_ok : List ℤ → Sizes → ℕ → Bool
link_ok w s r = let t = next_call_at w s r in next_ok w s r && (eqb t 0 || ltb (call_variant_at w s r) (call_variant_at w s t))

-- along rs the test `right` of a link holds of each record, and no record was reached before, l being those reached
unfoldable pub good_chain : (ℕ → Bool) → List ℕ → List ℕ → Bool
unfolding memb
good_chain right l [] = true
good_chain right l (r ∷ rs) = not (memb r l) && (right r && good_chain right (r ∷ l) rs)

-- strand in 0..3, first call in −1..used, and a good chain; of a record that two fragments share the later one is wrong
unfoldable pub fragment_ok : List ℤ → Sizes → ℕ → Bool
fragment_ok w s f =
    within (pos 0) (pos max_strand) (fragment_word w s f strand_field)
    && (within (negsuc 0) (pos s.used) (fragment_word w s f first_field) && good_chain (link_ok w s) (reached w s f) (chain_of w s f))

-- ---- 5 at place F, the free chain (request 3)
-- the free records. C + 1 steps: a chain that comes back to one of its records meets it within them, since there are C records
unfoldable pub free_chain : List ℤ → Sizes → List ℕ
unfolding chain_from
free_chain w s = chain_from w s (suc s.c) s.free

-- record r lies in a fragment's chain or in the free chain
unfoldable pub in_chain : List ℤ → Sizes → ℕ → Bool
in_chain w s r = is_reached w s r || memb r (free_chain w s)

-- each next of the free chain is in 0..used, no record of it was reached by a fragment or by itself, and each used record is in a chain; nothing
-- else is asked of a free record
unfoldable pub free_ok : List ℤ → Sizes → Bool
free_ok w s = good_chain (next_ok w s) (reached w s s.f) (free_chain w s) && holds_below (λ i. in_chain w s (suc i)) s.used
