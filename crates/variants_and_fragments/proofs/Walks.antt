-- The walk along a chain: what one step of it does to the definitions.
-- Assumes nothing.
use mathlib.Core.Path.{◌≡◌, refl, sym, ap, ◌∙◌, subst}
use mathlib.Core.Bool.{Bool, true, false, ◌||◌}
use mathlib.Core.List.{List, [], ◌∷◌, ◌++◌}
use Prim.Native.Nat.{ℕ, zero, suc, ◌+◌, ◌-◌, ◌≤◌, ◌<◌}
use native.Mathlib.Omega.{arith}
use native.Mathlib.Decide.{ℕ_discrete}
use native.Mathlib.Nat.{sub-zero}
use borrow.Author.Tests.{le-leb, lt-leb, eq-eqb, ne_eqb}
use lib.ListN.{get_or, set, replicate, length-set, length-replicate, get_or-replicate}
use lib.Seq.{get_or-set_same, get_or-set_other}
use lib.IntN.{ℤ}
use lib.Dec.{eqb}
use Rattle.variants_and_fragments.specs.declared.Sizes.{Sizes}
use Rattle.variants_and_fragments.specs.Chain.{first_call_at, next_call_at, chain_from, chain_of, memb, reached, good_chain}
use Rattle.variants_and_fragments.specs.Inner.Layout.{Sized}
use Rattle.variants_and_fragments.specs.Inner.Chain.{first_record_at, Walked, Marked}
use Rattle.variants_and_fragments.proofs.Chain.{record_top, record_chain}

-- ---- chain_from
pub chain_end : (w : List ℤ) (s : Sizes) (j r : ℕ) → r ≡ 0 → chain_from w s j r ≡ []
unfolding chain_from
chain_end w s zero r e = refl
chain_end w s (suc j) r e = simp (lt-leb 1 r (omega arith))

pub chain_none : (w : List ℤ) (s : Sizes) (j r : ℕ) → j ≡ 0 → chain_from w s j r ≡ []
unfolding chain_from
chain_none w s zero r e = refl
chain_none w s (suc j) r e = absurd (omega arith)

pub chain_on : (w : List ℤ) (s : Sizes) (j r : ℕ) → 1 ≤ r → r ≤ s.used → chain_from w s (suc j) r ≡ r ∷ chain_from w s j (next_call_at w s r)
unfolding chain_from
chain_on w s j r lo hi = simp (le-leb 1 r lo, le-leb r s.used hi)

-- of n steps
pub chain_step : (w : List ℤ) (s : Sizes) (n k r : ℕ) → k < n → 1 ≤ r → r ≤ s.used → chain_from w s (n - k) r ≡ r ∷ chain_from w s (n - (k + 1)) (next_call_at w s r)
chain_step w s n k r h lo hi = let e : n - k ≡ suc (n - (k + 1)) = omega arith in rw e (chain_on w s (n - (k + 1)) r lo hi)

-- the chain from where fragment f's starts
pub start_chain : (w : List ℤ) (s : Sizes) (f r : ℕ) → r ≡ first_record_at w s f → chain_from w s (s.c - 0) r ≡ chain_of w s f
unfolding chain_of
start_chain w s f r e = rw (e, sub-zero, record_chain)

-- ---- good_chain
module _ (right : ℕ → Bool) (l : List ℕ) (r : ℕ) (rs : List ℕ) where
  good_hit : memb r l ≡ true → false ≡ good_chain right l (r ∷ rs)
  unfolding good_chain
  good_hit h = simp h

  good_link : memb r l ≡ false → right r ≡ false → false ≡ good_chain right l (r ∷ rs)
  unfolding good_chain
  good_link h k = simp (h, k)

  good_on : memb r l ≡ false → right r ≡ true → good_chain right l (r ∷ rs) ≡ good_chain right (r ∷ l) rs
  unfolding good_chain
  good_on h k = simp (h, k)

-- a record reached is reached, wherever it stands in the list
pub memb_middle : (x r : ℕ) (rs l : List ℕ) → memb x (r ∷ rs ++ l) ≡ memb x (rs ++ (r ∷ l))
unfolding memb
memb_middle x r [] l = refl
memb_middle x r (y ∷ rs) l = or_swap (eqb x r) (eqb x y) (memb x (rs ++ l)) ∙ ap (λ (b : Bool). eqb x y || b) (memb_middle x r rs l)
  where
    or_swap : (a b c : Bool) → (a || (b || c)) ≡ (b || (a || c))
    or_swap true true c = refl
    or_swap true false c = refl
    or_swap false b c = refl

-- ---- flags
pub mark_more : {seen : List Bool} {l : List ℕ} (r : ℕ) → r ≤ 16384 → Marked seen l → Marked (set seen r true) (r ∷ l)
unfolding memb
mark_more {seen} {l} r h m = record {
  long = simp length-set m.long;
  marks = λ x le. elim (ℕ_discrete x r) [
    | yes e ↦ rw e (get_or-set_same seen r true false (omega (arith, m.long)) ∙ simp (eq-eqb r r refl))
    | no n ↦ get_or-set_other seen r x true false n ∙ simp (ne_eqb x r n) (m.marks x le)
  ];
}

-- ---- the loop's invariant: a walk of the chain rs, n steps at most, with the test `right` of each link, l being the records reached before
pub record Walking (w : List ℤ) (s : Sizes) (right : ℕ → Bool) (n : ℕ) (l rs : List ℕ) (seen : List Bool) (r k : ℕ) : Type 0 where
  pub acc : List ℕ
  pub r_top : r ≤ s.used
  pub k_top : k ≤ n
  pub now_marked : Marked seen acc
  pub good : good_chain right l rs ≡ good_chain right acc (chain_from w s (n - k) r)
  pub has : (x : ℕ) → memb x (rs ++ l) ≡ memb x (chain_from w s (n - k) r ++ acc)

pub walk_start : (w : List ℤ) (s : Sizes) (right : ℕ → Bool) (n : ℕ) (l rs : List ℕ) (seen : List Bool) (r : ℕ) → r ≤ s.used → chain_from w s n r ≡ rs → Marked seen l → Walking w s right n l rs seen r 0
walk_start w s right n l rs seen r top e m = record {
  acc = l;
  r_top = top;
  k_top = omega arith;
  now_marked = m;
  good = rw (sub-zero, e);
  has = λ x. rw (sub-zero, e);
}

-- of fragment f's chain
pub walk_fragment : (w : List ℤ) (s : Sizes) (right : ℕ → Bool) (f : ℕ) (seen : List Bool) (r : ℕ) → r ≡ first_record_at w s f → Marked seen (reached w s f)
    → Walking w s right s.c (reached w s f) (chain_of w s f) seen r 0
unfolding chain_of
walk_fragment w s right f seen r e m =
    walk_start w s right s.c (reached w s f) (chain_of w s f) seen r (omega (arith, record_top s (first_call_at w s f))) (rw e (record_chain w s s.c (first_call_at w s f))) m

module _ {w : List ℤ} {s : Sizes} {right : ℕ → Bool} {n : ℕ} {l rs : List ℕ} {seen : List Bool} {r k : ℕ} (z : Sized w s) (i : Walking w s right n l rs seen r k) where
  -- the chain ends
  pub walk_done : chain_from w s (n - k) r ≡ [] → Walked right l rs seen true
  unfolding good_chain
  walk_done e = record {
    ok = sym (rw e at i.good);
    marked = λ _. record { long = i.now_marked.long; marks = λ x le. i.now_marked.marks x le ∙ sym (rw e at (i.has x)) };
  }

  pub walk_end : r ≡ 0 → Walked right l rs seen true
  walk_end e = walk_done (chain_end w s (n - k) r e)

  pub walk_out : n ≤ k → Walked right l rs seen true
  walk_out e = walk_done (chain_none w s (n - k) r (omega arith))

  module _ (more : k < n) (some : r ≡ 0 → ⊥) where
    lo : 1 ≤ r
    lo = omega arith

    step : chain_from w s (n - k) r ≡ r ∷ chain_from w s (n - (k + 1)) (next_call_at w s r)
    step = chain_step w s n k r more lo i.r_top

    flagged : get_or seen r false ≡ memb r i.acc
    flagged = i.now_marked.marks r (omega (arith, i.r_top, z.used_top, z.c_top))

    fails : good_chain right i.acc (chain_from w s (n - k) r) ≡ false → (seen2 : List Bool) → Walked right l rs seen2 false
    fails e seen2 = record { ok = sym (i.good ∙ e); marked = λ z. let z2 : ◌≡◌ {A = ℕ} 0 1 = cc in absurd (omega arith) }

    pub walk_hit : get_or seen r false ≡ true → Walked right l rs seen false
    walk_hit h = fails (rw step (sym (good_hit right i.acc r _ (sym flagged ∙ h)))) seen

    module _ (free : get_or seen r false ≡ false) where
      fresh : memb r i.acc ≡ false
      fresh = sym flagged ∙ free

      pub walk_link : right r ≡ false → Walked right l rs seen false
      walk_link h = fails (rw step (sym (good_link right i.acc r _ fresh h))) seen

      pub walk_on : right r ≡ true → next_call_at w s r ≤ s.used → (t : ℕ) → t ≡ next_call_at w s r → Walking w s right n l rs (set seen r true) t (k + 1)
      walk_on h top t e = record {
        acc = r ∷ i.acc;
        r_top = rw e top;
        k_top = omega arith;
        now_marked = mark_more r (omega (arith, i.r_top, z.used_top, z.c_top)) i.now_marked;
        good = i.good ∙ rw (step, e) (good_on right i.acc r _ fresh h);
        has = λ x. i.has x ∙ rw (step, e) (memb_middle x r (chain_from w s (n - (k + 1)) (next_call_at w s r)) i.acc);
      }

-- ---- after the walks
pub reached_at : (w : List ℤ) (s : Sizes) (seen : List Bool) (f g : ℕ) → f ≡ g → Marked seen (reached w s f) → Marked seen (reached w s g)
reached_at w s seen f g e m = subst (λ (x : ℕ). Marked seen (reached w s x)) e m

pub clear_marked : Marked (replicate 16385 false) []
unfolding memb
clear_marked = record { long = omega (arith, length-replicate 16385 false); marks = λ x h. get_or-replicate 16385 x false false (omega arith) }
