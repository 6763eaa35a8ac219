-- The records that the fragments reach, marked by walks that no fault of a chain stops (`chains::mark_chain`). A walk stops at a record
-- marked before; what it leaves marked still holds, with each record, the record after it, so that it holds the whole chain. After C records the walk
-- has nowhere else to go: one record more would be C + 1 distinct numbers of 1..C.
-- Assumes nothing.
use mathlib.Core.Path.{◌≡◌, refl, sym, ◌∙◌}
use mathlib.Core.Bool.{Bool, true, false, not, cond, ◌||◌}
use mathlib.Core.List.{List, [], ◌∷◌, ◌++◌}
use Prim.Native.Nat.{ℕ, zero, suc, ◌+◌, ◌-◌, ◌≤◌, ◌<◌}
use native.Mathlib.Omega.{arith}
use native.Mathlib.Decide.{ℕ_discrete}
use native.Mathlib.Nat.{sub-zero}
use borrow.Author.Tests.{ne_eqb}
use lib.ListN.{length, get_or, set}
use lib.IntN.{ℤ}
use Rattle.variants_and_fragments.specs.declared.Sizes.{Sizes}
use Rattle.variants_and_fragments.specs.Layout.{call_ok}
use Rattle.variants_and_fragments.specs.Chain.{first_call_at, next_call_at, is_record, chain_from, chain_of, memb, reached, is_reached, reached_call_ok}
use Rattle.variants_and_fragments.specs.Inner.Layout.{Sized}
use Rattle.variants_and_fragments.specs.Inner.Chain.{record_of, first_record_at, Marked, Closed, ReachMarked}
use Rattle.variants_and_fragments.proofs.Bools.{or_off, true_false}
use Rattle.variants_and_fragments.proofs.Chain.{record_bounds, record_some, record_top, record_chain}
use Rattle.variants_and_fragments.proofs.Walks.{chain_step, memb_middle, mark_more}
use Rattle.variants_and_fragments.proofs.Pigeon.{distinct, Within, none, more, pigeon, memb_head, memb_more, memb_append, memb_left}

-- ---- lists of records
memb_tail : (x y : ℕ) (l : List ℕ) → (x ≡ y → ⊥) → memb x (y ∷ l) ≡ memb x l
unfolding memb
memb_tail x y l n = rw (ne_eqb x y n)

-- a test that gives another one, which gives it or a third, is the same beside the third
or_same : (a b c : Bool) → (a ≡ true → b ≡ true) → (b ≡ true → (a || c) ≡ true) → (a || c) ≡ (b || c)
or_same true b c h k = rw (h refl)
or_same false true c h k = k refl
or_same false false c h k = refl

module _ (w : List ℤ) (s : Sizes) where
  -- a list that holds the record after each of its own holds a chain that starts in it
  stays : (l : List ℕ) → Closed w s l → (k t : ℕ) → (is_record s t ≡ true → memb t l ≡ true) → (x : ℕ) → memb x (chain_from w s k t) ≡ true → memb x l ≡ true
  unfolding chain_from memb
  stays l whole zero t start x h = true_false h refl
  stays l whole (suc k) t start x h = go (is_record s t) refl h (λ on i. stays l whole k (next_call_at w s t) (whole.closed t (start on)) x i)
    where
      go : (b : Bool) → is_record s t ≡ b → memb x (cond b (t ∷ chain_from w s k (next_call_at w s t)) []) ≡ true
          → (is_record s t ≡ true → memb x (chain_from w s k (next_call_at w s t)) ≡ true → memb x l ≡ true) → memb x l ≡ true
      go false e h rest = true_false h refl
      go true e h rest = elim (ℕ_discrete x t) [ yes q ↦ rw q (start e) | no n ↦ rest e (sym (memb_tail x t (chain_from w s k (next_call_at w s t)) n) ∙ h) ]

  module _ {l m : List ℕ} (same : (x : ℕ) → memb x l ≡ memb x m) where
    same_marked : {seen : List Bool} → Marked seen l → Marked seen m
    same_marked i = record { long = i.long; marks = λ x le. i.marks x le ∙ same x }

    same_closed : Closed w s l → Closed w s m
    same_closed i = record { closed = λ x h k. sym (same (next_call_at w s x)) ∙ i.closed x (same x ∙ h) k }

-- ---- the loop's invariant: r is where the walk goes on, k how many records it marked
pub record Reaching (w : List ℤ) (s : Sizes) (f : ℕ) (seen : List Bool) (r k : ℕ) : Type 0 where
  -- those that it marked
  pub passed : List ℕ
  pub r_top : r ≤ s.used
  pub now_marked : Marked seen (passed ++ reached w s f)
  pub apart : distinct passed ≡ true
  pub used : Within s.used passed
  pub count : length passed ≡ k
  pub has : (x : ℕ) → memb x (chain_of w s f) ≡ memb x (passed ++ chain_from w s (s.c - k) r)
  -- the first record, and the record after each that is marked, is marked or r
  pub starts : is_record s (first_call_at w s f) ≡ true → memb (first_call_at w s f) (r ∷ passed ++ reached w s f) ≡ true
  pub goes : (x : ℕ) → memb x (passed ++ reached w s f) ≡ true → is_record s (next_call_at w s x) ≡ true → memb (next_call_at w s x) (r ∷ passed ++ reached w s f) ≡ true

-- before the first turn
pub reach_start : (w : List ℤ) (s : Sizes) (f : ℕ) (seen : List Bool) (r : ℕ) → r ≡ first_record_at w s f → ReachMarked w s f seen → Reaching w s f seen r 0
unfolding chain_of distinct
reach_start w s f seen r e m = record {
  passed = [];
  r_top = omega (arith, record_top s (first_call_at w s f));
  now_marked = m.marked;
  apart = refl;
  used = none;
  count = refl;
  has = λ x. rw (e, sub-zero, record_chain);
  starts = λ h. memb_head _ _ _ (record_some s (first_call_at w s f) (record_bounds s _ h).1 ∙ sym e);
  goes = λ x h k. memb_more _ r _ (m.whole.closed x h k);
}

module _ {w : List ℤ} {s : Sizes} {f : ℕ} {seen : List Bool} {r k : ℕ} (sized : Sized w s) (i : Reaching w s f seen r k) where
  -- what is marked
  abbrev marked : List ℕ
  marked = i.passed ++ reached w s f

  r_in : r ≤ 16384
  r_in = omega (arith, i.r_top, sized.used_top, sized.c_top)

  flagged : get_or seen r false ≡ memb r marked
  flagged = i.now_marked.marks r r_in

  -- ---- the walk stops where r is no record, or marked
  module _ (met : is_record s r ≡ true → memb r marked ≡ true) where
    past : (t : ℕ) → memb t (r ∷ marked) ≡ true → is_record s t ≡ true → memb t marked ≡ true
    past t h z = elim (ℕ_discrete t r) [ yes e ↦ rw e (met (rw e at z)) | no n ↦ sym (memb_tail t r marked n) ∙ h ]

    whole : Closed w s marked
    whole = record { closed = λ x h z. past _ (i.goes x h z) z }

    same : (x : ℕ) → memb x marked ≡ memb x (reached w s (suc f))
    unfolding reached chain_of
    same x =
        memb_append x i.passed (reached w s f)
        ∙ or_same (memb x i.passed) (memb x (chain_of w s f)) (memb x (reached w s f))
        (λ h. i.has x ∙ memb_left x i.passed _ h)
        (λ h. sym (memb_append x i.passed (reached w s f)) ∙ stays w s marked whole s.c (first_call_at w s f) (λ z. past _ (i.starts z) z) x h)
        ∙ sym (memb_append x (chain_of w s f) (reached w s f))

    reach_done : ReachMarked w s (suc f) seen
    reach_done = record { marked = same_marked w s same i.now_marked; whole = same_closed w s same whole }

  -- at the end of the chain
  pub reach_end : r ≡ 0 → ReachMarked w s (suc f) seen
  reach_end e = reach_done (λ h. absurd (omega (arith, (record_bounds s r h).0)))

  -- at a record marked before
  pub reach_hit : get_or seen r false ≡ true → ReachMarked w s (suc f) seen
  reach_hit h = reach_done (λ _. sym flagged ∙ h)

  -- ---- a record that is not marked is a new one
  fresh : memb r marked ≡ false → distinct (r ∷ i.passed) ≡ true
  unfolding distinct
  fresh h = rw (or_off (memb r i.passed) (memb r (reached w s f)) (sym (memb_append r i.passed (reached w s f)) ∙ h)).0 i.apart

  -- so after C records there is none
  pub reach_out : s.c ≤ k → ReachMarked w s (suc f) seen
  reach_out out = reach_done (λ h. go h (memb r marked) refl)
    where
      go : is_record s r ≡ true → (b : Bool) → memb r marked ≡ b → b ≡ true
      go h true e = refl
      go h false e = absurd (omega (arith, pigeon s.used (r ∷ i.passed) (fresh e) (more (record_bounds s r h).0 i.r_top i.used), i.count, sized.used_top))

  -- before that the walk marks it and goes on at its next
  pub reach_on : k < s.c → (r ≡ 0 → ⊥) → get_or seen r false ≡ false → (t : ℕ) → t ≡ record_of s (next_call_at w s r) → Reaching w s f (set seen r true) t (k + 1)
  reach_on h n free t e = record {
    passed = r ∷ i.passed;
    r_top = rw e (record_top s (next_call_at w s r));
    now_marked = mark_more r r_in i.now_marked;
    apart = fresh (sym flagged ∙ free);
    used = more {x = r} (omega arith) i.r_top i.used;
    count = omega (arith, i.count);
    has = λ x. i.has x ∙ rw (chain_step w s s.c k r h (omega arith) i.r_top, e, record_chain) (sym (memb_middle x r i.passed _));
    starts = λ z. memb_more _ t _ (i.starts z);
    goes = λ x m z. elim (ℕ_discrete x r) [
      | yes q ↦ memb_head _ _ _ (record_some s (next_call_at w s x) (record_bounds s _ z).1 ∙ rw q (sym e))
      | no o ↦ memb_more _ t _ (i.goes x (sym (memb_tail x r marked o) ∙ m) z)
    ];
  }

-- ---- all fragments
pub reach_none : (w : List ℤ) (s : Sizes) (seen : List Bool) → Marked seen [] → ReachMarked w s 0 seen
unfolding reached memb
reach_none w s seen m = record { marked = m; whole = record { closed = λ x h z. true_false h refl } }

-- a record that is marked as reached is tested, and no other
pub call_tested : (w : List ℤ) (s : Sizes) (seen : List Bool) → Marked seen (reached w s s.f) → (r : ℕ) → r ≤ 16384 → (not (get_or seen r false) || call_ok w s r) ≡ reached_call_ok w s r
unfolding reached_call_ok is_reached
call_tested w s seen m r top = rw (m.marks r top) refl
