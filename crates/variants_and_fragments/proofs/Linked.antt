-- Chains as lists: each record's next is the one after it, and zero after the last. An accepted fragment's chain is linked so from its first call on. Along
-- it the variants rise, so that no record comes twice and C steps are enough: there are C records (proofs/Pigeon). proofs/Free has the free chain.
-- Assumes nothing.
use mathlib.Core.Path.{◌≡◌, refl, sym, ◌∙◌, ap, subst}
use mathlib.Core.Bool.{Bool, true, false, cond, not, ◌&&◌}
use mathlib.Core.List.{List, [], ◌∷◌}
use Prim.Native.Nat.{ℕ, zero, suc, ◌+◌, ◌≤◌, ◌<◌}
use native.Mathlib.Omega.{arith}
use native.Mathlib.Decide.{ℕ_discrete}
use borrow.Author.Tests.{ne_eqb}
use lib.ListN.{length, get_or}
use lib.IntN.{ℤ}
use Rattle.variants_and_fragments.specs.declared.Sizes.{Sizes}
use Rattle.variants_and_fragments.specs.Layout.{call_variant_at}
use Rattle.variants_and_fragments.specs.Chain.{first_call_at, next_call_at, is_record, link_ok, chain_from, chain_of, memb, good_chain, reached}
use Rattle.variants_and_fragments.specs.Inner.Accepted.{FragmentIn}
use Rattle.variants_and_fragments.proofs.Bools.{both, off}
use Rattle.variants_and_fragments.proofs.Walks.{chain_on}
use Rattle.variants_and_fragments.specs.Inner.Chain.{first_record_at}
use Rattle.variants_and_fragments.proofs.Chain.{link_top, next_rises, record_top, record_chain}
use Rattle.variants_and_fragments.proofs.Pigeon.{distinct, Within, none, more, pigeon}

-- rs are the records from r on, each a record of the case with a right link, and zero is met after the last
pub data Linked (w : List ℤ) (s : Sizes) (right : ℕ → Bool) : ℕ → List ℕ → Type 0 where
  ends : Linked w s right 0 []
  goes : {r : ℕ} {rs : List ℕ} → 1 ≤ r → r ≤ s.used → right r ≡ true → Linked w s right (next_call_at w s r) rs → Linked w s right r (r ∷ rs)

-- the records passed are distinct ones of the case, at variants below r's
record Passed (w : List ℤ) (s : Sizes) (r : ℕ) (past : List ℕ) : Type 0 where
  apart : distinct past ≡ true
  within : Within s.used past
  below : 1 ≤ r → (x : ℕ) → memb x past ≡ true → call_variant_at w s x < call_variant_at w s r

module _ {w : List ℤ} {s : Sizes} {r : ℕ} {past : List ℕ} (lo : 1 ≤ r) (p : Passed w s r past) where
  -- so r is none of them
  fresh : memb r past ≡ false
  fresh = off (memb r past) (λ e. omega (arith, p.below lo r e))

  more_apart : distinct (r ∷ past) ≡ true
  unfolding distinct
  more_apart = rw fresh p.apart

  more_passed : r ≤ s.used → link_ok w s r ≡ true → Passed w s (next_call_at w s r) (r ∷ past)
  unfolding memb
  more_passed hi h = record {
    apart = more_apart;
    within = more lo hi p.within;
    below = λ l x m. let up = next_rises w s r h l in elim (ℕ_discrete x r) [
      | yes e ↦ rw e up
      | no e ↦ omega (arith, p.below lo x (rw (ne_eqb x r e) at m))
    ];
  }

-- a good chain is linked where as many steps are left as the records passed lack to C: there is no place for one more
linked_from : (w : List ℤ) (s : Sizes) → s.used ≤ s.c → (k r : ℕ) (reached past : List ℕ) → r ≤ s.used → Passed w s r past → length past + k ≡ s.c → good_chain (link_ok w s) reached (chain_from w s k r) ≡ true → Linked w s (link_ok w s) r (chain_from w s k r)
unfolding chain_from good_chain
linked_from w s ut zero zero l past top p n g = ends
linked_from w s ut zero (suc r) l past top p n g =
    absurd (omega (arith, pigeon s.used (suc r ∷ past) (more_apart (omega arith) p) (more (omega arith) top p.within)))
linked_from w s ut (suc k) zero l past top p n g = ends
linked_from w s ut (suc k) (suc r) l past top p n g =
    let e = chain_on w s k (suc r) (omega arith) top in
    let t = next_call_at w s (suc r) in
    let a = both (not (memb (suc r) l)) (link_ok w s (suc r) && good_chain (link_ok w s) (suc r ∷ l) (chain_from w s k t)) (rw e at g) in
    let b = both (link_ok w s (suc r)) (good_chain (link_ok w s) (suc r ∷ l) (chain_from w s k t)) a.1 in
    rw e (goes {r = suc r} (omega arith) top b.0 (linked_from w s ut k t (suc r ∷ l) (suc r ∷ past) (link_top w s (suc r) b.0) (more_passed (omega arith) p top b.0) (omega arith) b.1))

-- k steps give k records at most
chain_short : (w : List ℤ) (s : Sizes) (k r : ℕ) → length (chain_from w s k r) ≤ k
unfolding chain_from
chain_short w s zero r = omega arith
chain_short w s (suc k) r = go (is_record s r) (chain_short w s k (next_call_at w s r))
  where
    go : (t : Bool) → length (chain_from w s k (next_call_at w s r)) ≤ k → length (cond t (r ∷ chain_from w s k (next_call_at w s r)) []) ≤ suc k
    go true h = omega arith
    go false h = omega arith

-- ---- a linked chain
module _ {w : List ℤ} {s : Sizes} {right : ℕ → Bool} where
  -- any number of steps from the chain's length on gives the same chain
  pub linked_fuel : {r : ℕ} {rs : List ℕ} → Linked w s right r rs → (k : ℕ) → length rs ≤ k → chain_from w s k r ≡ rs
  unfolding chain_from
  linked_fuel ends zero m = refl
  linked_fuel ends (suc k) m = refl
  linked_fuel (goes lo hi h l) zero m = absurd (omega arith)
  linked_fuel (goes {r} {rs} lo hi h l) (suc k) m = chain_on w s k r lo hi ∙ ap (λ (x : List ℕ). r ∷ x) (linked_fuel l k (omega arith))

  -- ---- by place: each is a record of the case with a right link to the next one, and to 0 after the last
  pub linked_first : {r : ℕ} {rs : List ℕ} → Linked w s right r rs → r ≡ get_or rs 0 0
  linked_first ends = refl
  linked_first (goes lo hi h l) = refl

  pub linked_in : {r : ℕ} {rs : List ℕ} → Linked w s right r rs → (i : ℕ) → i < length rs → (1 ≤ get_or rs i 0) × (get_or rs i 0 ≤ s.used)
  linked_in ends i m = absurd (omega arith)
  linked_in (goes lo hi h l) zero m = (lo, hi)
  linked_in (goes lo hi h l) (suc i) m = linked_in l i (omega arith)

  pub linked_right : {r : ℕ} {rs : List ℕ} → Linked w s right r rs → (i : ℕ) → i < length rs → right (get_or rs i 0) ≡ true
  linked_right ends i m = absurd (omega arith)
  linked_right (goes lo hi h l) zero m = h
  linked_right (goes lo hi h l) (suc i) m = linked_right l i (omega arith)

  pub linked_next : {r : ℕ} {rs : List ℕ} → Linked w s right r rs → (i : ℕ) → i < length rs → next_call_at w s (get_or rs i 0) ≡ get_or rs (suc i) 0
  linked_next ends i m = absurd (omega arith)
  linked_next (goes lo hi h l) zero m = linked_first l
  linked_next (goes lo hi h l) (suc i) m = linked_next l i (omega arith)

  -- and the other way round
  pub linked_by : (rs : List ℕ)
      → ((i : ℕ) → i < length rs → (1 ≤ get_or rs i 0) × (get_or rs i 0 ≤ s.used) × (right (get_or rs i 0) ≡ true) × (next_call_at w s (get_or rs i 0) ≡ get_or rs (suc i) 0))
      → Linked w s right (get_or rs 0 0) rs
  linked_by [] at = ends
  linked_by (r ∷ rs) at =
      let here = at 0 (omega arith) in
      goes {r = r} here.0 here.1 here.2 (subst (λ (t : ℕ). Linked w s right t rs) (sym here.3) (linked_by rs (λ i m. at (suc i) (omega arith))))

-- ---- an accepted fragment's chain
module _ {w : List ℤ} {s : Sizes} {f : ℕ} (used_top : s.used ≤ s.c) (i : FragmentIn w s f) where
  none_passed : Passed w s (first_record_at w s f) []
  unfolding distinct memb
  none_passed = record { apart = refl; within = none; below = λ l x m. let z : ◌≡◌ {A = ℕ} 0 1 = cc in absurd (omega arith) }

  -- the chain from the first record, or from 0 where there is none
  from_record : chain_from w s s.c (first_record_at w s f) ≡ chain_of w s f
  unfolding chain_of
  from_record = record_chain w s s.c (first_call_at w s f)

  pub chain_linked : Linked w s (link_ok w s) (first_record_at w s f) (chain_of w s f)
  chain_linked =
      rw (← from_record) (linked_from w s used_top s.c (first_record_at w s f) (reached w s f) [] (record_top s (first_call_at w s f)) none_passed (omega arith) (rw from_record i.right))

  -- it has at most C records
  pub chain_length : length (chain_of w s f) ≤ s.c
  unfolding chain_of
  chain_length = chain_short w s s.c (first_call_at w s f)
