-- A chain that can be read: a fragment's chain is one, and each record leaves one. More steps than its records add nothing.
-- Assumes nothing.
use mathlib.Core.Path.{◌≡◌, refl, ap, ◌∙◌}
use mathlib.Core.Bool.{Bool, true, false, not, cond, ◌&&◌}
use mathlib.Core.List.{List, [], ◌∷◌, map}
use Prim.Native.Nat.{ℕ, zero, suc, ◌≤◌}
use native.Mathlib.Omega.{arith}
use lib.IntN.{ℤ}
use lib.ListN.{length}
use Rattle.variants_and_fragments.specs.declared.Sizes.{Sizes}
use Rattle.variants_and_fragments.specs.Chain.{first_call_at, next_call_at, is_record, next_ok, link_ok, chain_from, chain_of, memb, good_chain, reached}
use Rattle.variants_and_fragments.specs.Decode.{call_from, fragment_from}
use Rattle.variants_and_fragments.specs.Inner.Accepted.{allb, FragmentIn}
use Rattle.variants_and_fragments.specs.Inner.Chain.{first_record_at}
use Rattle.variants_and_fragments.proofs.Bools.{both}
use Rattle.variants_and_fragments.proofs.Chain.{next_top, record_top, record_chain}
use Rattle.variants_and_fragments.proofs.Linked.{chain_linked, chain_length, linked_fuel}
use Rattle.variants_and_fragments.proofs.Walks.{chain_end, chain_none, chain_on}
use Rattle.pileup.specs.Inner.Reader.{held_call, calls_left, Readable, read_at, next_at, gather, calls_read}

module _ (w : List ℤ) (s : Sizes) where
  -- a chain that ends within k records is the same at any more steps
  settled : (k t : ℕ) → length (chain_from w s (suc k) t) ≤ k → (j : ℕ) → k ≤ j → chain_from w s j t ≡ chain_from w s k t
  unfolding chain_from
  settled zero t h zero l = refl
  settled zero t h (suc j) l = go (is_record s t) h
    where
      go : (b : Bool) → length (cond b (t ∷ []) []) ≤ 0 → cond b (t ∷ chain_from w s j (next_call_at w s t)) [] ≡ []
      go true h = absurd (omega arith)
      go false h = refl
  settled (suc k) t h zero l = absurd (omega arith)
  settled (suc k) t h (suc j) l = go (is_record s t) h (λ m. settled k (next_call_at w s t) m j (omega arith))
    where
      go : (b : Bool) → length (cond b (t ∷ chain_from w s (suc k) (next_call_at w s t)) []) ≤ suc k
          → (length (chain_from w s (suc k) (next_call_at w s t)) ≤ k → chain_from w s j (next_call_at w s t) ≡ chain_from w s k (next_call_at w s t))
          → cond b (t ∷ chain_from w s j (next_call_at w s t)) [] ≡ cond b (t ∷ chain_from w s k (next_call_at w s t)) []
      go true h rest = ap (λ (x : List ℕ). t ∷ x) (rest (omega arith))
      go false h rest = refl

  -- each right link leads to 0 or a record used
  links : (l rs : List ℕ) → good_chain (link_ok w s) l rs ≡ true → allb (next_ok w s) rs ≡ true
  unfolding good_chain allb link_ok
  links l [] h = refl
  links l (r ∷ rs) h =
      let a = both (not (memb r l)) (link_ok w s r && good_chain (link_ok w s) (r ∷ l) rs) h in
      let b = both (link_ok w s r) (good_chain (link_ok w s) (r ∷ l) rs) a.1 in
      rw ((both (next_ok w s r) _ b.0).0) (links (r ∷ l) rs b.1)

  -- ---- a fragment's chain
  pub fragment_readable : s.used ≤ s.c → (f r : ℕ) → r ≡ first_record_at w s f → FragmentIn w s f → Readable w s r
  fragment_readable top f r e i =
      let l = chain_linked top i in
      record {
        starts = rw e (record_top s (first_call_at w s f));
        goes_on = rw (e, linked_fuel l s.c (chain_length top i)) (links (reached w s f) (chain_of w s f) i.right);
        ends = rw (e, linked_fuel l (suc s.c) (omega (arith, chain_length top i))) (chain_length top i);
      }

  pub fragment_left : (f r : ℕ) → r ≡ first_record_at w s f → calls_left w s r ≡ map held_call (fragment_from w s f).calls
  unfolding calls_left fragment_from chain_of
  fragment_left f r e = rw (e, record_chain) refl

  -- ---- at 0
  pub none_left : (r : ℕ) → r ≡ 0 → calls_left w s r ≡ []
  unfolding calls_left
  none_left r e = rw (chain_end w s s.c r e) refl

  -- ---- at a record
  module _ {r : ℕ} (i : Readable w s r) (some : 1 ≤ r) where
    short : suc (length (chain_from w s s.c (next_call_at w s r))) ≤ s.c
    short = omega (arith, i.ends, ap length (chain_on w s s.c r some i.starts))

    -- the same at any number of steps that is enough
    same : (k : ℕ) → suc k ≡ s.c → (j : ℕ) → k ≤ j → chain_from w s j (next_call_at w s r) ≡ chain_from w s k (next_call_at w s r)
    same k e j l = settled k (next_call_at w s r) (rw e (omega (arith, short))) j l

    -- the chain is the record and the chain from its next
    read_chain : chain_from w s s.c r ≡ r ∷ chain_from w s s.c (next_call_at w s r)
    read_chain = go s.c refl
      where
        go : (n : ℕ) → n ≡ s.c → chain_from w s s.c r ≡ r ∷ chain_from w s s.c (next_call_at w s r)
        go zero e = absurd (omega (arith, short))
        go (suc k) e = let q = chain_on w s k r some i.starts in rw (e, ← same k e s.c (omega arith)) at q

    pub read_left : calls_left w s r ≡ held_call (call_from w s r) ∷ calls_left w s (next_call_at w s r)
    unfolding calls_left
    read_left = rw read_chain refl

    pub read_on : Readable w s (next_call_at w s r)
    unfolding allb
    read_on =
        let b = both (next_ok w s r) (allb (next_ok w s) (chain_from w s s.c (next_call_at w s r))) (rw read_chain at i.goes_on) in
        record { starts = next_top w s r b.0; goes_on = b.1; ends = go s.c refl }
      where
        go : (n : ℕ) → n ≡ s.c → length (chain_from w s (suc s.c) (next_call_at w s r)) ≤ s.c
        go zero e = absurd (omega (arith, short))
        go (suc k) e = rw (same k e (suc s.c) (omega arith), ← same k e s.c (omega arith)) (omega (arith, short))

  -- ---- reading one record at a time
  reads_along : (k r : ℕ) → r ≤ s.used → allb (next_ok w s) (chain_from w s k r) ≡ true → calls_read w s k r ≡ map held_call (map (call_from w s) (chain_from w s k r))
  unfolding allb calls_read gather read_at next_at
  reads_along zero r top right = rw (chain_none w s 0 r refl) refl
  reads_along (suc k) zero top right = rw (chain_end w s (suc k) 0 refl) refl
  reads_along (suc k) (suc r) top right =
      let on = chain_on w s k (suc r) (omega arith) top in
      let b = both (next_ok w s (suc r)) (allb (next_ok w s) (chain_from w s k (next_call_at w s (suc r)))) (rw on at right) in
      rw (on, reads_along k (next_call_at w s (suc r)) (next_top w s (suc r) b.0) b.1) refl

  pub chain_read : (f : ℕ) → FragmentIn w s f → calls_read w s s.c (first_record_at w s f) ≡ map held_call (fragment_from w s f).calls
  unfolding chain_of calls_left
  chain_read f i =
      reads_along s.c (first_record_at w s f) (record_top s (first_call_at w s f)) (rw record_chain (links (reached w s f) (chain_of w s f) i.right))
      ∙ fragment_left f (first_record_at w s f) refl
