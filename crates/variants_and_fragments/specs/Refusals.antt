-- 01, "Refusals by number and place", and request 1, which adds 13 and 14: a refusal's number and place, and the outcome of an operation in these terms.
-- Assumes nothing.
use Rattle.std.specs.Prelude.{◌≡◌, Result, Ok, Err, Bool, true, false, cond, List, [], ◌∷◌, ℕ, ◌+◌, eqb, leb}
use Rattle.variants_and_fragments.specs.declared.Refusal.{Refusal}
use Rattle.variants_and_fragments.specs.declared.Refusal.TheVariants.{Head, Variant, Alleles, Call, Chain, Rates, Phase, Orders, Limit, Short, DensityQual, Normalize, Fragment, Room}
use Rattle.variants_and_fragments.specs.First.{first_fail_from}

-- the column "Number"
abbrev pub number : Refusal → ℕ
number (Head p) = 1
number (Variant p) = 2
number (Alleles p) = 3
number (Call p) = 4
number (Chain p) = 5
number (Rates p) = 6
number (Phase p) = 7
number (Orders p) = 8
number (Limit p) = 9
number (Short p) = 10
number (DensityQual p) = 11
number (Normalize p) = 12
number (Fragment p) = 13
number (Room p) = 14

-- the column "Returned place"
abbrev pub place : Refusal → ℕ
place (Head p) = p
place (Variant p) = p
place (Alleles p) = p
place (Call p) = p
place (Chain p) = p
place (Rates p) = p
place (Phase p) = p
place (Orders p) = p
place (Limit p) = p
place (Short p) = p
place (DensityQual p) = p
place (Normalize p) = p
place (Fragment p) = p
place (Room p) = p

-- what an operation answers: refused with a number and a place, or done with its values
pub data Outcome (Values : Type 0) : Type 0 where
  refused : ℕ → ℕ → Outcome Values
  done : Values → Outcome Values

abbrev pub refusal : {X : Type 0} → Refusal → Outcome X
refusal x = refused (number x) (place x)

-- an answer as an outcome: refused, or done with the values that `values` reads off it
abbrev pub answered : {A X : Type 0} → (A → X) → Result A Refusal → Outcome X
answered values (Ok a) = done (values a)
answered values (Err x) = refusal x

-- the answer of an operation that returns nothing but done
abbrev pub outcome_of : Result Unit Refusal → Outcome Unit
outcome_of answer = answered (λ x. x) answer

-- ---- what is asked, in order
-- where the test fails, refused with the number and the place; else what follows
unfoldable pub unless : {X : Type 0} → Bool → ℕ → ℕ → Outcome X → Outcome X
unless true n p rest = rest
unless false n p rest = refused n p

-- the test at each of the k numbers from i on: where one fails, refused with the number and the first such place; else what follows
unfoldable pub each : {X : Type 0} → ℕ → (ℕ → Bool) → ℕ → ℕ → Outcome X → Outcome X
each n test i k rest = let p = first_fail_from test i k in unless (leb (i + k) p) n p rest

-- an outcome, and what is asked next with its values
unfoldable pub and_then : {X Y : Type 0} → Outcome X → (X → Outcome Y) → Outcome Y
and_then (refused n p) next = refused n p
and_then (done x) next = next x

-- ---- 10, elements needed
-- what a slice of `long` elements needs, where that is too short; else 0
unfoldable pub short_of : ℕ → ℕ → ℕ
short_of need long = cond (leb need long) 0 need

-- the smaller of two numbers; 0, which is none, gives the other one
unfoldable pub earlier : ℕ → ℕ → ℕ
earlier a b = cond (eqb a 0) b (cond (eqb b 0) a (cond (leb a b) a b))

-- 01: "then lower place", so of the slices too short the smallest need. Each slice is given as what it needs and its length; 0 where none is too
-- short
unfoldable pub smallest_short : List (ℕ × ℕ) → ℕ
smallest_short [] = 0
smallest_short (slice ∷ rest) = earlier (short_of slice.0 slice.1) (smallest_short rest)

unfoldable pub long_enough : {X : Type 0} → List (ℕ × ℕ) → Outcome X → Outcome X
long_enough slices rest = unless (eqb (smallest_short slices) 0) 10 (smallest_short slices) rest

-- ---- what is left in the slices
-- "All slices remain untouched" by a refusal: a lent slice afterwards is `new` where the operation is done, else as it was
unfoldable pub afterwards : {X A : Type 0} → Outcome X → A → A → A
afterwards (refused n p) new old = old
afterwards (done x) new old = new

-- What an operation promises: it answers the outcome, and the slices lent as `before` are `new` where that is done, else as they were
pub record Promise {X Slices : Type 0} (outcome : Outcome X) (new before : Slices) (answer : Outcome X) (after : Slices) : Type 0 where
  pub answers : answer ≡ outcome
  pub slices : after ≡ afterwards answer new before
