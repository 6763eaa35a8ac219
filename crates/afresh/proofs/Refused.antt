-- What follows where an outcome is refused with one number at one place: the test that refuses has that number, and those before it have passed.
-- Assumes nothing.
use mathlib.Core.Path.{◌≡◌, refl, ◌∙◌}
use mathlib.Core.Bool.{Bool, true, false}
use mathlib.Core.List.{List}
use Prim.Native.Nat.{ℕ, ◌+◌, ◌≤◌}
use borrow.Author.Tests.{leb-true, eqb-false}
use lib.Dec.{eqb}
use Rattle.variants_and_fragments.specs.First.{first_fail_from}
use Rattle.variants_and_fragments.specs.Refusals.{Outcome, refused, done, unless, each, and_then, smallest_short, long_enough}

module _ {X G : Type 0} {a q : ℕ} where
  -- a test refuses, or passes
  pub unless_refused : (b : Bool) (n p : ℕ) (rest : Outcome X) → (b ≡ false → n ≡ a → p ≡ q → G) → (b ≡ true → rest ≡ refused a q → G) → unless b n p rest ≡ refused a q → G
  unfolding unless
  unless_refused true n p rest stops goes h = goes refl h
  unless_refused false n p rest stops goes h = let e : n ≡ a = cc in let z : p ≡ q = cc in stops refl e z

  -- one with another number passes
  pub other_refused : (b : Bool) (n p : ℕ) (rest : Outcome X) → (n ≡ a → ⊥) → (b ≡ true → rest ≡ refused a q → G) → unless b n p rest ≡ refused a q → G
  other_refused b n p rest other goes = unless_refused b n p rest (λ _ e _. absurd (other e)) goes

  pub each_refused : (n : ℕ) (test : ℕ → Bool) (i k : ℕ) (rest : Outcome X) → (n ≡ a → ⊥) → (i + k ≤ first_fail_from test i k → rest ≡ refused a q → G) → each n test i k rest ≡ refused a q → G
  unfolding each
  each_refused n test i k rest other goes = other_refused _ n _ rest other (λ on h. goes (leb-true _ _ on) h)

  -- slices that are too short have a place that is not 0
  pub short_refused : (slices : List (ℕ × ℕ)) (rest : Outcome X) → (10 ≡ a → (q ≡ 0 → ⊥) → G) → (rest ≡ refused a q → G) → long_enough slices rest ≡ refused a q → G
  unfolding long_enough
  short_refused slices rest stops goes =
      unless_refused (eqb (smallest_short slices) 0) 10 (smallest_short slices) rest (λ off e at. stops e (λ z. eqb-false (smallest_short slices) 0 off (at ∙ z))) (λ _ h. goes h)

  pub then_refused : {Y : Type 0} (o : Outcome Y) (next : Y → Outcome X) → (o ≡ refused a q → G) → ((y : Y) → o ≡ done y → next y ≡ refused a q → G) → and_then o next ≡ refused a q → G
  unfolding and_then
  then_refused (refused n p) next stops goes h = let e : n ≡ a = cc in let z : p ≡ q = cc in stops (rw (e, z))
  then_refused (done y) next stops goes h = goes y refl h
