-- What a walk gathers, for any accumulator.
-- Assumes nothing.
use Rattle.std.specs.Prelude.{List, [], ◌∷◌}

-- steps along a list from the left, starting at a
unfoldable pub fold : {A X : Type 0} → (A → X → A) → A → List X → A
fold step a [] = a
fold step a (x ∷ xs) = fold step (step a x) xs
