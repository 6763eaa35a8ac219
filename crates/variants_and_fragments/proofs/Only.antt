-- Those of a list of which a test holds: one element more, how many, along an append and a map, what holds of each, and tests that are the same.
-- Assumes nothing.
use mathlib.Core.Path.{◌≡◌, refl, ap}
use mathlib.Core.Bool.{Bool, true, false, cond}
use mathlib.Core.List.{List, [], ◌∷◌, ◌++◌, map}
use Prim.Native.Nat.{suc, ◌≤◌}
use native.Mathlib.Omega.{arith}
use lib.ListN.{length}
use Rattle.variants_and_fragments.specs.Inner.Case.{All, end, also}
use Rattle.variants_and_fragments.specs.Pileup.{only}

pub only_in : {X : Type 0} (p : X → Bool) (x : X) (xs : List X) → p x ≡ true → only p (x ∷ xs) ≡ x ∷ only p xs
unfolding only
only_in p x xs e = simp e

pub only_out : {X : Type 0} (p : X → Bool) (x : X) (xs : List X) → p x ≡ false → only p (x ∷ xs) ≡ only p xs
unfolding only
only_out p x xs e = simp e

pub only_none : {X : Type 0} (p : X → Bool) → only p [] ≡ []
unfolding only
only_none p = refl

pub only_length : {X : Type 0} (p : X → Bool) (xs : List X) → length (only p xs) ≤ length xs
unfolding only
only_length p [] = omega arith
only_length p (x ∷ xs) = go (p x) (only_length p xs)
  where
    go : (t : Bool) → length (only p xs) ≤ length xs → length (cond t (x ∷ only p xs) (only p xs)) ≤ suc (length xs)
    go true a = omega arith
    go false a = omega arith

pub only_append : {X : Type 0} (p : X → Bool) (xs ys : List X) → only p (xs ++ ys) ≡ only p xs ++ only p ys
unfolding only
only_append p [] ys = refl
only_append p (x ∷ xs) ys = rw (only_append p xs ys) (go (p x))
  where
    go : (t : Bool) → cond t (x ∷ (only p xs ++ only p ys)) (only p xs ++ only p ys) ≡ cond t (x ∷ only p xs) (only p xs) ++ only p ys
    go true = refl
    go false = refl

pub only_map : {X Y : Type 0} (g : X → Y) (p : Y → Bool) (xs : List X) → only p (map g xs) ≡ map g (only (λ x. p (g x)) xs)
unfolding only
only_map g p [] = refl
only_map g p (x ∷ xs) = rw (only_map g p xs) (go (p (g x)))
  where
    go : (t : Bool) → cond t (g x ∷ map g (only (λ y. p (g y)) xs)) (map g (only (λ y. p (g y)) xs)) ≡ map g (cond t (x ∷ only (λ y. p (g y)) xs) (only (λ y. p (g y)) xs))
    go true = refl
    go false = refl

pub only_all : {X : Type 0} {P : X → Type 0} (p : X → Bool) (xs : List X) → All P xs → All P (only p xs)
unfolding only
only_all p [] end = end
only_all {P = P} p (x ∷ xs) (also h hs) = go (p x) (only_all p xs hs)
  where
    go : (t : Bool) → All P (only p xs) → All P (cond t (x ∷ only p xs) (only p xs))
    go true a = also h a
    go false a = a

-- a test that all pass, or none
pub only_yes : {X : Type 0} (xs : List X) → only (λ _. true) xs ≡ xs
unfolding only
only_yes [] = refl
only_yes (x ∷ xs) = ap (λ (l : List _). x ∷ l) (only_yes xs)

pub only_no : {X : Type 0} (xs : List X) → only (λ _. false) xs ≡ []
unfolding only
only_no [] = refl
only_no (x ∷ xs) = only_no xs

pub only_cong : {X : Type 0} (p q : X → Bool) (xs : List X) → ((x : X) → p x ≡ q x) → only p xs ≡ only q xs
unfolding only
only_cong p q [] e = refl
only_cong p q (x ∷ xs) e = rw (e x, only_cong p q xs e)
