-- The free chain (request 3). In an accepted case it is linked from the head's word 5 to the zero that ends it, and each used record is in just one
-- chain. No record comes twice, since each is tested for that, so that C + 1 steps are enough: there are C records (proofs/Pigeon).
-- Assumes nothing.
use mathlib.Core.Path.{◌≡◌, refl, ◌∙◌}
use mathlib.Core.Bool.{Bool, true, false, not, ◌&&◌, ◌||◌}
use mathlib.Core.List.{List, [], ◌∷◌, ◌++◌}
use Prim.Native.Nat.{ℕ, zero, suc, ◌+◌, ◌≤◌}
use native.Mathlib.Nat.{le_refl}
use native.Mathlib.Omega.{arith}
use lib.IntN.{ℤ}
use lib.ListN.{length, get_or, length-append}
use Rattle.variants_and_fragments.specs.declared.Sizes.{Sizes}
use Rattle.variants_and_fragments.specs.First.{holds_below}
use Rattle.variants_and_fragments.specs.Layout.{max_calls}
use Rattle.variants_and_fragments.specs.Chain.{next_call_at, next_ok, chain_from, memb, good_chain, reached, is_reached, in_chain, free_chain}
use Rattle.variants_and_fragments.specs.Inner.Accepted.{CaseIn}
use Rattle.variants_and_fragments.specs.Inner.Chain.{Marked}
use Rattle.variants_and_fragments.proofs.Bools.{both}
use Rattle.variants_and_fragments.proofs.Chain.{next_top}
use Rattle.variants_and_fragments.proofs.First.{first_cong}
use Rattle.variants_and_fragments.proofs.Linked.{Linked, ends, goes}
use Rattle.variants_and_fragments.proofs.Pigeon.{distinct, Within, none, more, pigeon, memb_append, distinct_left, good_distinct, chain_within, reached_ok}
use Rattle.variants_and_fragments.proofs.Walks.{chain_on}

-- ---- flags: where the flags mark what it and the fragments reach, a used record is in a chain where it is marked
pub marked_chains : (w : List ℤ) (s : Sizes) (seen : List Bool) → s.used ≤ max_calls → Marked seen (free_chain w s ++ reached w s s.f)
    → holds_below (λ i. get_or seen (suc i) false) s.used ≡ holds_below (λ i. in_chain w s (suc i)) s.used
unfolding holds_below in_chain is_reached
marked_chains w s seen top m = rw (first_cong (λ i. get_or seen (suc i) false) (λ i. memb (suc i) (reached w s s.f) || memb (suc i) (free_chain w s)) s.used (λ i l. m.marks (suc i) (omega arith) ∙ memb_append (suc i) (free_chain w s) (reached w s s.f) ∙ or_comm (memb (suc i) (free_chain w s)) (memb (suc i) (reached w s s.f)))) refl
  where
    or_comm : (a b : Bool) → (a || b) ≡ (b || a)
    or_comm true true = refl
    or_comm true false = refl
    or_comm false true = refl
    or_comm false false = refl

-- ---- a good free chain is linked: the records passed are distinct, so that there are no C + 1 of them
free_from : (w : List ℤ) (s : Sizes) → s.used ≤ s.c → (k r : ℕ) (past l : List ℕ) → r ≤ s.used → distinct (past ++ l) ≡ true → Within s.used past → length past + k ≡ suc s.c
    → good_chain (next_ok w s) (past ++ l) (chain_from w s k r) ≡ true → Linked w s (next_ok w s) r (chain_from w s k r)
unfolding chain_from good_chain distinct
free_from w s ut zero r past l top d i n g = absurd (omega (arith, pigeon s.used past (distinct_left past l d) i))
free_from w s ut (suc k) zero past l top d i n g = ends
free_from w s ut (suc k) (suc r) past l top d i n g =
    let e = chain_on w s k (suc r) (omega arith) top in
    let t = next_call_at w s (suc r) in
    let a = both (not (memb (suc r) (past ++ l))) (next_ok w s (suc r) && good_chain (next_ok w s) (suc r ∷ past ++ l) (chain_from w s k t)) (rw e at g) in
    let b = both (next_ok w s (suc r)) (good_chain (next_ok w s) (suc r ∷ past ++ l) (chain_from w s k t)) a.1 in
    rw e (goes {r = suc r} (omega arith) top b.0 (free_from w s ut k t (suc r ∷ past) l (next_top w s (suc r) b.0) (rw a.0 d) (more (omega arith) top i) (omega arith) b.1))

-- ---- an accepted case
module _ {w : List ℤ} {s : Sizes} (k : CaseIn w s) where
  pub free_linked : Linked w s (next_ok w s) s.free (free_chain w s)
  unfolding free_chain
  free_linked =
      let z = k.sized in
      free_from w s z.used_top (suc s.c) s.free [] (reached w s s.f) z.free_top (reached_ok w s k s.f (le_refl _)).0 none (omega arith) k.free_in.right

  -- no record is in two chains or twice in one, each is a used one, and each used one is among them
  pub chains_distinct : distinct (free_chain w s ++ reached w s s.f) ≡ true
  chains_distinct = good_distinct (next_ok w s) (free_chain w s) (reached w s s.f) k.free_in.right (reached_ok w s k s.f (le_refl _)).0

  pub chains_within : Within s.used (free_chain w s ++ reached w s s.f)
  unfolding free_chain
  chains_within = chain_within w s (suc s.c) s.free (reached w s s.f) (reached_ok w s k s.f (le_refl _)).1

  pub free_length : length (free_chain w s) ≤ s.used
  free_length =
      omega (arith, pigeon s.used (free_chain w s ++ reached w s s.f) chains_distinct chains_within, length-append (free_chain w s) (reached w s s.f))
