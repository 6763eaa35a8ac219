-- The walk along the chains of an accepted case: fragment by fragment, as many visits as records at most, and each to a call in its ranges.
-- Assumes nothing.
use mathlib.Core.Path.{◌≡◌, refl}
use mathlib.Core.Bool.{true}
use mathlib.Core.List.{List, [], ◌∷◌, ◌++◌, map, map-append, append_assoc, append-nil}
use Prim.Native.Nat.{ℕ, zero, suc, ◌+◌, ◌≤◌, ◌<◌}
use native.Mathlib.Nat.{add-zero, add-suc, suc-add, zero-add}
use native.Mathlib.Omega.{arith}
use lib.IntN.{ℤ}
use lib.ListN.{length, length-append, length-map}
use Rattle.variants_and_fragments.specs.declared.Sizes.{Sizes}
use Rattle.variants_and_fragments.specs.Layout.{call_ok}
use Rattle.variants_and_fragments.specs.Chain.{chain_of, reached}
use Rattle.variants_and_fragments.specs.Visits.{Visit, visit, visits_from, numbers}
use Rattle.variants_and_fragments.specs.Inner.Accepted.{allb, CallIn, CaseIn}
use Rattle.variants_and_fragments.specs.Inner.Case.{All, end, also}
use Rattle.variants_and_fragments.proofs.Alls.{all_append}
use Rattle.variants_and_fragments.proofs.Bools.{both}
use Rattle.variants_and_fragments.proofs.Pigeon.{pigeon, reached_ok}
use Rattle.variants_and_fragments.proofs.Records.{call_facts}

-- ---- the last fragment's visits come last
visits_last_from : (w : List ℤ) (s : Sizes) (f j : ℕ) → visits_from w s f (suc j) ≡ visits_from w s f j ++ map (visit (f + j)) (chain_of w s (f + j))
unfolding visits_from
visits_last_from w s f zero = rw (add-zero f, append-nil (map (visit f) (chain_of w s f)))
visits_last_from w s f (suc j) = rw (visits_last_from w s (suc f) j, append_assoc, add-suc f j, suc-add f j)

pub visits_last : (w : List ℤ) (s : Sizes) (f : ℕ) → visits_from w s 0 (suc f) ≡ visits_from w s 0 f ++ map (visit f) (chain_of w s f)
visits_last w s f = rw (zero-add f) at (visits_last_from w s 0 f)

-- ---- the records visited are those reached, though in another order: what adds up along a list is the same of both
pub numbers_visit : (f : ℕ) (rs : List ℕ) → numbers (map (visit f) rs) ≡ rs
numbers_visit f [] = refl
numbers_visit f (r ∷ rs) = rw (numbers_visit f rs)

pub same_total : (m : List ℕ → ℕ) → ((xs ys : List ℕ) → m (xs ++ ys) ≡ m xs + m ys) → (w : List ℤ) (s : Sizes) (f : ℕ) → m (numbers (visits_from w s 0 f)) ≡ m (reached w s f)
unfolding visits_from reached
same_total m adds w s zero = refl
same_total m adds w s (suc f) =
    rw (visits_last w s f, map-append (λ (x : Visit). x.number) (visits_from w s 0 f) (map (visit f) (chain_of w s f)), numbers_visit f (chain_of w s f), adds (numbers (visits_from w s 0 f)) (chain_of w s f), adds (chain_of w s f) (reached w s f))
    (omega (arith, same_total m adds w s f))

-- so there are no more visits than records
pub visits_top : (w : List ℤ) (s : Sizes) → CaseIn w s → (f : ℕ) → f ≤ s.f → length (visits_from w s 0 f) ≤ s.used
visits_top w s k f l =
    let r = reached_ok w s k f l in
    omega (arith, pigeon s.used (reached w s f) r.0 r.1, same_total length length-append w s f, length-map (visits_from w s 0 f) (λ (x : Visit). x.number))

-- ---- what holds of each call holds along a chain, and along the walk
pub chain_all : {X : Type 0} (w : List ℤ) (s : Sizes) (g : ℕ → X) (P : X → Type 0) → ((r : ℕ) → CallIn w s r → P (g r)) → (rs : List ℕ) → allb (call_ok w s) rs ≡ true → All P (map g rs)
unfolding allb
chain_all w s g P h [] a = end
chain_all w s g P h (r ∷ rs) a = let b = both (call_ok w s r) (allb (call_ok w s) rs) a in also (h r (call_facts w s r b.0)) (chain_all w s g P h rs b.1)

pub visits_in : {w : List ℤ} {s : Sizes} → CaseIn w s → (f j : ℕ) → f + j ≤ s.f → All (λ x. (x.fragment < s.f) × CallIn w s x.number) (visits_from w s f j)
unfolding visits_from
visits_in k f zero h = end
visits_in {w} {s} k f (suc j) h =
    let l : f < s.f = omega arith in
    all_append (chain_all w s (visit f) _ (λ r c. (l, c)) (chain_of w s f) (k.frags f l).calls) (visits_in k (suc f) j (omega arith))
