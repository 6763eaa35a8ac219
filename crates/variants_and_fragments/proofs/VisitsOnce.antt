-- Request 2: the walk visits each record in a chain once and no other. The records visited are those reached, and no two of these are the same.
-- Request 3: each used record lies in just one fragment chain or in the free chain, which shares no record with those reached (proofs/Free).
-- Assumes nothing.
use mathlib.Core.Path.{◌≡◌, refl, ◌∙◌, ap}
use mathlib.Core.Bool.{Bool, true, false, not, or_comm}
use mathlib.Core.List.{List, [], ◌∷◌, ◌++◌, map, append-nil}
use Prim.Native.Nat.{ℕ, zero, suc, ◌+◌, ◌≤◌, ◌<◌}
use native.Mathlib.Nat.{le_refl}
use native.Mathlib.Omega.{arith}
use native.Mathlib.Decide.{ℕ_discrete}
use borrow.Author.Tests.{eq-eqb, ne_eqb}
use lib.Dec.{eqb}
use lib.IntN.{ℤ}
use lib.ListN.{length-append}
use Rattle.variants_and_fragments.specs.declared.Sizes.{Sizes}
use Rattle.variants_and_fragments.specs.Chain.{chain_of, memb, reached, is_reached, in_chain, free_chain}
use Rattle.variants_and_fragments.specs.Check.{check_case_outcome}
use Rattle.variants_and_fragments.specs.Pileup.{only}
use Rattle.variants_and_fragments.specs.Refusals.{done}
use Rattle.variants_and_fragments.specs.Visits.{Visit, visit, visits_from, visits, numbers, visited, times, VisitsOnce, OneChainEach}
use Rattle.variants_and_fragments.specs.Inner.Accepted.{CaseIn}
use Rattle.variants_and_fragments.proofs.Accepted.{case_in}
use Rattle.variants_and_fragments.proofs.Bools.{both, or_off, not_on, off, true_false}
use Rattle.variants_and_fragments.proofs.Chain.{absent_chain, chain_record}
use Rattle.variants_and_fragments.proofs.Free.{chains_distinct, chains_within}
use Rattle.variants_and_fragments.proofs.Only.{only_append, only_map, only_yes, only_no}
use Rattle.variants_and_fragments.proofs.Pigeon.{distinct, memb_append, within_memb, reached_ok, reached_has}
use Rattle.variants_and_fragments.proofs.Visits.{numbers_visit, same_total}

-- ---- how often a number is in a list
times_append : (r : ℕ) (xs ys : List ℕ) → times r (xs ++ ys) ≡ times r xs + times r ys
times_append r xs ys = rw (only_append (eqb r) xs ys) (length-append (only (eqb r) xs) (only (eqb r) ys))

times_none : (r : ℕ) (l : List ℕ) → memb r l ≡ false → times r l ≡ 0
unfolding memb only
times_none r [] h = refl
times_none r (x ∷ xs) h = let o = or_off (eqb r x) (memb r xs) h in rw o.0 (times_none r xs o.1)

times_once : (r : ℕ) (l : List ℕ) → distinct l ≡ true → memb r l ≡ true → times r l ≡ 1
unfolding distinct memb only
times_once r [] d h = true_false h refl
times_once r (x ∷ xs) d h =
    let a = both (not (memb x xs)) (distinct xs) d in
    elim (ℕ_discrete r x) [
      | yes e ↦ rw (eq-eqb r x e) (ap suc (times_none r xs (rw e (not_on _ a.0))))
      | no n ↦ rw (ne_eqb r x n) (times_once r xs a.1 (rw (ne_eqb r x n) at h))
    ]

times_some : (r : ℕ) (l : List ℕ) → memb r l ≡ true → 1 ≤ times r l
unfolding memb only
times_some r [] h = true_false h refl
times_some r (x ∷ xs) h = elim (ℕ_discrete r x) [ yes e ↦ rw (eq-eqb r x e) (omega arith) | no n ↦ rw (ne_eqb r x n) (times_some r xs (rw (ne_eqb r x n) at h)) ]

-- ---- the walk
-- what no chain has is not reached
reached_lacks : (w : List ℤ) (s : Sizes) (r g : ℕ) → ((f : ℕ) → f < g → memb r (chain_of w s f) ≡ false) → memb r (reached w s g) ≡ false
unfolding reached memb
reached_lacks w s r zero h = refl
reached_lacks w s r (suc g) h = rw (memb_append r (chain_of w s g) (reached w s g), h g (omega arith)) (reached_lacks w s r g (λ f l. h f (omega arith)))

visited_times : (w : List ℤ) (s : Sizes) (r : ℕ) → times r (visited w s) ≡ times r (reached w s s.f)
unfolding visited
visited_times w s r = same_total (times r) (times_append r) w s s.f

-- the visits to fragment f are its chain
module _ (w : List ℤ) (s : Sizes) (f : ℕ) where
  to : Visit → Bool
  to x = eqb x.fragment f

  to_own : (g : ℕ) (rs : List ℕ) → g ≡ f → only to (map (visit g) rs) ≡ map (visit g) rs
  unfolding to
  to_own g rs e = rw (only_map (visit g) to rs, eq-eqb g f e, only_yes rs)

  to_other : (g : ℕ) (rs : List ℕ) → (g ≡ f → ⊥) → only to (map (visit g) rs) ≡ []
  unfolding to
  to_other g rs n = rw (only_map (visit g) to rs, ne_eqb g f n, only_no rs)

  to_later : (j g : ℕ) → f < g → only to (visits_from w s g j) ≡ []
  unfolding visits_from only
  to_later zero g h = refl
  to_later (suc j) g h = rw (only_append to (map (visit g) (chain_of w s g)) (visits_from w s (suc g) j), to_other g (chain_of w s g) (λ e. omega arith)) (to_later j (suc g) (omega arith))

  to_chain : (j g : ℕ) → g ≤ f → f < g + j → numbers (only to (visits_from w s g j)) ≡ chain_of w s f
  unfolding visits_from
  to_chain zero g l h = absurd (omega arith)
  to_chain (suc j) g l h = rw (only_append to (map (visit g) (chain_of w s g)) (visits_from w s (suc g) j)) (elim (ℕ_discrete g f) [
    | yes e ↦ rw (to_own g (chain_of w s g) e, to_later j (suc g) (omega arith), append-nil, numbers_visit, e) refl
    | no n ↦ rw (to_other g (chain_of w s g) n) (to_chain j (suc g) (omega arith) (omega arith))
  ])

  visits_along : f < s.f → numbers (only (λ (x : Visit). eqb x.fragment f) (visits w s)) ≡ chain_of w s f
  unfolding to
  visits_along h = to_chain s.f 0 (omega arith) (omega arith)

pub visits_once : {w : List ℤ} {s : Sizes} → CaseIn w s → VisitsOnce w s
visits_once {w} {s} k = record {
  once = λ f r l h. visited_times w s r ∙ times_once r (reached w s s.f) (reached_ok w s k s.f (le_refl _)).0 (reached_has w s r f s.f l h);
  no_other = λ r h. visited_times w s r ∙ times_none r (reached w s s.f) (reached_lacks w s r s.f h);
  along = visits_along w s;
  absent = absent_chain w s k.sized;
  unused = λ f r l. off (memb r (chain_of w s f)) (λ e. omega (arith, (chain_record w s f r e).1));
}

-- of every accepted input
pub accepted_once : (w : List ℤ) (b : List ℕ) (s : Sizes) → check_case_outcome w b ≡ done s → VisitsOnce w s
accepted_once w b s h = visits_once (case_in w b s h)

-- ---- the walk and the free chain
module _ {w : List ℤ} {s : Sizes} (k : CaseIn w s) where
  -- together they are the records that are in a chain
  chains_times : (r : ℕ) → times r (visited w s ++ free_chain w s) ≡ times r (free_chain w s ++ reached w s s.f)
  chains_times r =
      omega (arith, times_append r (visited w s) (free_chain w s), visited_times w s r, times_append r (free_chain w s) (reached w s s.f))

  chains_have : (r : ℕ) → in_chain w s r ≡ true → memb r (free_chain w s ++ reached w s s.f) ≡ true
  unfolding in_chain is_reached
  chains_have r h = memb_append r (free_chain w s) (reached w s s.f) ∙ or_comm (memb r (free_chain w s)) (memb r (reached w s s.f)) ∙ h

  chains_only : (r : ℕ) → memb r (visited w s ++ free_chain w s) ≡ true → memb r (free_chain w s ++ reached w s s.f) ≡ true
  chains_only r h = go (memb r (free_chain w s ++ reached w s s.f)) refl
    where
      go : (b : Bool) → memb r (free_chain w s ++ reached w s s.f) ≡ b → b ≡ true
      go true e = refl
      go false e = absurd (omega (arith, times_some r (visited w s ++ free_chain w s) h, chains_times r, times_none r (free_chain w s ++ reached w s s.f) e))

  pub one_chain_each : OneChainEach w s
  one_chain_each = record {
    once = λ r lo hi. chains_times r ∙ times_once r (free_chain w s ++ reached w s s.f) (chains_distinct k) (chains_have r (k.free_in.whole r lo hi));
    no_other = λ r h. within_memb s.used (free_chain w s ++ reached w s s.f) (chains_within k) r (chains_only r h);
  }

-- of every accepted input
pub accepted_one_chain : (w : List ℤ) (b : List ℕ) (s : Sizes) → check_case_outcome w b ≡ done s → OneChainEach w s
accepted_one_chain w b s h = one_chain_each (case_in w b s h)
