-- The laws of outcomes: a test that stops, one that goes on, what it says that an outcome is done, and what an operation promises at each
-- return.
-- Assumes nothing.
use mathlib.Core.Path.{◌≡◌, refl, sym, ap, ◌∙◌}
use mathlib.Core.Bool.{Bool, true, false}
use mathlib.Core.List.{List}
use Prim.Native.Nat.{ℕ, ◌+◌, ◌≤◌, ◌<◌}
use native.Mathlib.Omega.{arith}
use borrow.Author.Tests.{le-leb, lt-leb, leb-true, eq-eqb, ne_eqb, eqb-true}
use lib.IntN.{ℤ}
use Rattle.variants_and_fragments.specs.declared.Sizes.{Sizes}
use Rattle.variants_and_fragments.specs.declared.Refusal.{Refusal}
use Rattle.std.specs.Prelude.{Option, Some, None, MatchOption, Result, IsErrAnd}
use Rattle.std.proofs.Common.{Ok, Err}
use Rattle.std.proofs.lemmas.Option.{MatchOption-at_some, MatchOption-at_none}
use Rattle.std.proofs.lemmas.Result.{err_from_is_err_and}
use Rattle.variants_and_fragments.specs.declared.laid.Case.{Case}
use Rattle.variants_and_fragments.specs.First.{first_fail_from}
use Rattle.variants_and_fragments.specs.Refusals.{Outcome, refused, done, refusal, unless, each, and_then, smallest_short, long_enough, afterwards, Promise}
use Rattle.variants_and_fragments.specs.Check.{check_case_outcome}
use Rattle.variants_and_fragments.specs.Check as check
use Rattle.variants_and_fragments.proofs.First.{from_is, all_from}

-- ---- one test
pub unless_on : {X : Type 0} (b : Bool) (n p : ℕ) (rest : Outcome X) → b ≡ true → rest ≡ unless b n p rest
unfolding unless
unless_on b n p rest h = simp h

pub unless_at : {X : Type 0} (b : Bool) (n p : ℕ) (rest : Outcome X) → b ≡ false → refused n p ≡ unless b n p rest
unfolding unless
unless_at b n p rest h = simp h

pub not_done : {X : Type 0} {n p : ℕ} {x : X} → refused n p ≡ done x → ⊥
not_done h = let z : ◌≡◌ {A = ℕ} 0 1 = cc in omega arith

pub unless_past : {X : Type 0} (b : Bool) (n p : ℕ) (rest : Outcome X) (x : X) → unless b n p rest ≡ done x → (b ≡ true) × (rest ≡ done x)
unfolding unless
unless_past true n p rest x h = (refl, h)
unless_past false n p rest x h = absurd (not_done h)

-- what follows matters only where the test holds
pub unless_stops : {X : Type 0} {a p : ℕ} (b : Bool) (n q : ℕ) (rest : Outcome X) → ◌≡◌ {A = Outcome Unit} (refused a p) (unless b n q (done tt)) → ◌≡◌ {A = Outcome X} (refused a p) (unless b n q rest)
unfolding unless
unless_stops true n q rest e = absurd (not_done e)
unless_stops {X} {a} {p} false n q rest e = let x : a ≡ n = cc in let y : p ≡ q = cc in rw (x, y) refl

pub unless_passes : {X : Type 0} (b : Bool) (n q : ℕ) (rest : Outcome X) → ◌≡◌ {A = Outcome Unit} (done tt) (unless b n q (done tt)) → rest ≡ unless b n q rest
unfolding unless
unless_passes true n q rest e = refl
unless_passes false n q rest e = absurd (not_done (sym e))

-- ---- a test at each of some numbers
module _ {X : Type 0} (n : ℕ) (test : ℕ → Bool) (i k : ℕ) (rest : Outcome X) where
  pub each_on : i + k ≤ first_fail_from test i k → rest ≡ each n test i k rest
  unfolding each
  each_on h = unless_on _ n _ rest (le-leb _ _ h)

  pub each_at : first_fail_from test i k < i + k → refused n (first_fail_from test i k) ≡ each n test i k rest
  unfolding each
  each_at h = unless_at _ n _ rest (lt-leb _ _ h)

  pub each_past : (x : X) → each n test i k rest ≡ done x → (i + k ≤ first_fail_from test i k) × (rest ≡ done x)
  unfolding each
  each_past x h = let p = unless_past _ n _ rest x h in (leb-true _ _ p.0, p.1)

  -- where each before r holds and that of r fails
  pub each_fails : (r : ℕ) → i ≤ r → r < i + k → ((j : ℕ) → i ≤ j → j < r → test j ≡ true) → test r ≡ false → refused n r ≡ each n test i k rest
  each_fails r lo hi good bad = let e = from_is test i k r lo (omega arith) good (λ _. bad) in ap (refused n) e ∙ each_at (omega (arith, e))

  -- where each holds
  pub each_holds : ((j : ℕ) → i ≤ j → j < i + k → test j ≡ true) → rest ≡ each n test i k rest
  each_holds good = each_on (all_from test i k good)

-- what follows matters only where each holds
module _ {X : Type 0} (n : ℕ) (test : ℕ → Bool) (i k : ℕ) (rest : Outcome X) where
  pub each_stops : (x : Refusal) → refusal x ≡ each {X = Unit {0}} n test i k (done tt) → refusal x ≡ each n test i k rest
  unfolding each
  each_stops x e = unless_stops _ _ _ rest e

  pub each_passes : ◌≡◌ {A = Outcome Unit} (done tt) (each n test i k (done tt)) → rest ≡ each n test i k rest
  unfolding each
  each_passes e = unless_passes _ _ _ rest e

-- what `find` finds of the numbers from i on and below the end: the first that fails
abbrev pub FirstFault : (ℕ → Bool) → ℕ → ℕ → Option ℕ → Type 0
FirstFault test i end found =
    MatchOption found ((j : ℕ) → i ≤ j → j < end → test j ≡ true) (λ r. (i ≤ r) × (r < end) × (test r ≡ false) × ((j : ℕ) → i ≤ j → j < r → test j ≡ true))

-- from what `first_fault` says of the calls of its closure, which answer the test
pub first_is : (test : ℕ → Bool) (Right Wrong : ℕ → Type 0) (i end : ℕ) (found : Option ℕ)
    → MatchOption found ((j : ℕ) → i ≤ j → j < end → Right j) (λ r. (i ≤ r) × (r < end) × Wrong r × ((j : ℕ) → i ≤ j → j < r → Right j))
    → ((r : ℕ) → Right r → test r ≡ true) → ((r : ℕ) → Wrong r → test r ≡ false) → FirstFault test i end found
first_is test Right Wrong i end None h right wrong = λ j lo hi. right j (h j lo hi)
first_is test Right Wrong i end (Some r) h right wrong = (h.0, h.1, wrong r h.2, λ j lo hi. right j (h.3 j lo hi))

-- of two tests that are the same at these numbers
pub first_same : (p q : ℕ → Bool) (i end : ℕ) (found : Option ℕ) → FirstFault p i end found → ((r : ℕ) → i ≤ r → r < end → p r ≡ q r) → FirstFault q i end found
first_same p q i end None h e = λ j lo hi. sym (e j lo hi) ∙ h j lo hi
first_same p q i end (Some r) h e = (h.0, h.1, sym (e r h.0 h.1) ∙ h.2, λ j lo hi. sym (e j lo (omega (arith, h.1))) ∙ h.3 j lo hi)

module _ {X : Type 0} (n : ℕ) (test : ℕ → Bool) (i k end : ℕ) (rest : Outcome X) (e : i + k ≡ end) (found : Option ℕ) (first : FirstFault test i end found) where
  pub fault_found : (r : ℕ) → found ≡ Some r → refused n r ≡ each n test i k rest
  fault_found r h = let f = MatchOption-at_some _ _ r h first in each_fails n test i k rest r f.0 (omega (arith, f.1)) f.3 f.2

  pub no_fault : found ≡ None → rest ≡ each n test i k rest
  no_fault h = let f = MatchOption-at_none _ _ h first in each_holds n test i k rest (λ j lo hi. f j lo (omega arith))

-- ---- 10
module _ {X : Type 0} (slices : List (ℕ × ℕ)) (rest : Outcome X) where
  pub enough_on : smallest_short slices ≡ 0 → rest ≡ long_enough slices rest
  unfolding long_enough
  enough_on h = unless_on _ 10 _ rest (eq-eqb _ _ h)

  pub enough_at : (smallest_short slices ≡ 0 → ⊥) → refused 10 (smallest_short slices) ≡ long_enough slices rest
  unfolding long_enough
  enough_at h = unless_at _ 10 _ rest (ne_eqb _ _ h)

  pub enough_past : (x : X) → long_enough slices rest ≡ done x → (smallest_short slices ≡ 0) × (rest ≡ done x)
  unfolding long_enough
  enough_past x h = let p = unless_past _ 10 _ rest x h in (eqb-true _ _ p.0, p.1)

  -- what follows matters only where each is long enough
  pub enough_stops : (x : Refusal) → refusal x ≡ long_enough {X = Unit {0}} slices (done tt) → refusal x ≡ long_enough slices rest
  unfolding long_enough
  enough_stops x e = unless_stops _ _ _ rest e

  pub enough_passes : ◌≡◌ {A = Outcome Unit} (done tt) (long_enough slices (done tt)) → rest ≡ long_enough slices rest
  unfolding long_enough
  enough_passes e = unless_passes _ _ _ rest e

-- none is too short
pub enough_fits : (slices : List (ℕ × ℕ)) → ◌≡◌ {A = Outcome Unit} (done tt) (long_enough slices (done tt)) → smallest_short slices ≡ 0
enough_fits slices e = (enough_past slices (done tt) tt (sym e)).0

-- ---- an outcome before another one
pub then_on : {X Y : Type 0} (o : Outcome X) (next : X → Outcome Y) (x : X) → o ≡ done x → next x ≡ and_then o next
unfolding and_then
then_on o next x e = rw e

pub then_past : {X Y : Type 0} (o : Outcome X) (next : X → Outcome Y) (y : Y) → and_then o next ≡ done y → (x : X) × ((o ≡ done x) × (next x ≡ done y))
unfolding and_then
then_past (refused n p) next y h = absurd (not_done h)
then_past (done x) next y h = (x, (refl, h))

pub then_same : {X Y : Type 0} (o : Outcome X) (f g : X → Outcome Y) → ((x : X) → f x ≡ g x) → and_then o f ≡ and_then o g
unfolding and_then
then_same (refused n p) f g h = refl
then_same (done x) f g h = h x

-- what is asked next may stand within what is asked before
module _ {X Y : Type 0} (next : X → Outcome Y) where
  pub then_unless : (b : Bool) (n p : ℕ) (rest : Outcome X) → and_then (unless b n p rest) next ≡ unless b n p (and_then rest next)
  unfolding and_then unless
  then_unless true n p rest = refl
  then_unless false n p rest = refl

  pub then_each : (n : ℕ) (test : ℕ → Bool) (i k : ℕ) (rest : Outcome X) → and_then (each n test i k rest) next ≡ each n test i k (and_then rest next)
  unfolding each
  then_each n test i k rest = then_unless _ n _ rest

  pub then_then : {Z : Type 0} (o : Outcome Z) (first : Z → Outcome X) → and_then (and_then o first) next ≡ and_then o (λ z. and_then (first z) next)
  unfolding and_then
  then_then (refused n p) first = refl
  then_then (done z) first = refl

-- a refusal stops what is asked next
pub then_refused : {X Y : Type 0} (o : Outcome X) (next : X → Outcome Y) (x : Refusal) → refusal x ≡ o → refusal x ≡ and_then o next
unfolding and_then
then_refused o next x e = rw (← e)

-- ---- after a check, which answers a case or a refusal
module _ {Y : Type 0} (o : Outcome Sizes) (next : Sizes → Outcome Y) where
  -- where it refuses, so does the operation
  pub check_stops : (x : Refusal) → check.outcome_of (Err x) ≡ o → refusal x ≡ and_then o next
  unfolding and_then
  check_stops x e = rw (← e)

  -- past it
  pub check_past : (case : Case) → check.outcome_of (Ok case) ≡ o → next case.laid.sizes ≡ and_then o next
  unfolding and_then
  check_past case e = rw (← e)

-- the same of the check of the case
module _ {Y : Type 0} (w : List ℤ) (b : List ℕ) (next : Sizes → Outcome Y) where
  pub case_stops : (x : Refusal) → check.outcome_of (Err x) ≡ check_case_outcome w b → refusal x ≡ and_then (check_case_outcome w b) next
  case_stops = check_stops (check_case_outcome w b) next

  pub case_past : (case : Case) → check.outcome_of (Ok case) ≡ check_case_outcome w b → next case.laid.sizes ≡ and_then (check_case_outcome w b) next
  case_past = check_past (check_case_outcome w b) next

-- ---- the exit of a `?`: what is returned is the error that the call gave
pub exit_is : {T E : Type 0} {error : E} {result : Result T E} → IsErrAnd result (λ y. y ≡ error) → result ≡ Err error
exit_is {T} {E} {error} {result} h = let p = err_from_is_err_and result h in p.1 ∙ ap (λ (y : E). Err y) p.2

-- ---- what an operation promises
module _ {X Slices : Type 0} {outcome : Outcome X} {new before : Slices} where
  -- at a refusal: the slices are as they were
  pub promise_refused : (x : Refusal) → refusal x ≡ outcome → Promise outcome new before (refusal x) before
  unfolding afterwards
  promise_refused x e = record { answers = e; slices = refl }

  -- at the end
  pub promise_done : {after : Slices} (x : X) → done x ≡ outcome → after ≡ new → Promise outcome new before (done x) after
  unfolding afterwards
  promise_done x e w = record { answers = e; slices = w }
