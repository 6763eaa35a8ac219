-- An array that is filled key by key, each value at its key's number: one more key.
-- Assumes nothing.
use Rattle.std.proofs.Common.{◌≡◌, List, ℕ, ◌+◌, ◌<◌, length, get_or, set, sym, ◌∙◌, arith}
use Rattle.std.proofs.lemmas.List.{get_or-set_same, get_or-set_other}
use native.Mathlib.Decide.{ℕ_discrete}

-- P holds of each key whose number is below i, and of the value at its number
abbrev pub FilledTo : {K X : Type 0} → (K → ℕ) → (K → X → Type 0) → X → ℕ → List X → Type 0
FilledTo {K} number P d i values = (key : K) → number key < i → P key (get_or values (number key) d)

pub filled_on : {K X : Type 0} (number : K → ℕ) (P : K → X → Type 0) (d : X) (values : List X) {i : ℕ} → ((a b : K) → number a ≡ number b → a ≡ b) → (now : K) (x : X) → number now ≡ i → i < length values → P now x → FilledTo number P d i values → FilledTo number P d (i + 1) (set values i x)
filled_on number P d values {i = i} one now x e h p below key l = elim (ℕ_discrete (number key) i) [
  | yes f ↦ rw (one key now (f ∙ sym e), e, get_or-set_same values i x d h) p
  | no n ↦ rw (get_or-set_other values i (number key) x d n) (below key (omega arith))
]
