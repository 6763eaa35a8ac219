-- A run of stores: what stands at each index. Assumes nothing.
use mathlib.Core.Path.{◌≡◌, refl, ◌∙◌}
use mathlib.Core.List.{List, [], ◌∷◌}
use Prim.Native.Nat.{ℕ, zero, suc, ◌+◌, ◌<◌, ◌≤◌}
use native.Mathlib.Omega.{arith}
use native.Mathlib.Nat.{add-zero}
use lib.ListN.{length, get_or, set, replicate, length-set}
use lib.Seq.{sets, get_or-set_same, get_or-set_other}

module _ {X : Type 0} (d : X) where
  -- a run of stores leaves what lies before it and after it
  pub sets_before : (vs l : List X) (i j : ℕ) → j < i → get_or (sets l i vs) j d ≡ get_or l j d
  sets_before [] l i j h = refl
  sets_before (a ∷ vs) l i j h = sets_before vs (set l i a) (suc i) j (omega arith) ∙ get_or-set_other l i j a d (omega arith)

  pub sets_after : (vs l : List X) (i j : ℕ) → i + length vs ≤ j → get_or (sets l i vs) j d ≡ get_or l j d
  sets_after [] l i j h = refl
  sets_after (a ∷ vs) l i j h = sets_after vs (set l i a) (suc i) j (omega arith) ∙ get_or-set_other l i j a d (omega arith)

  -- and puts its elements
  pub sets_at : (vs l : List X) (i j : ℕ) → j < length vs → i + length vs ≤ length l → get_or (sets l i vs) (i + j) d ≡ get_or vs j d
  sets_at [] l i j h k = absurd (omega arith)
  sets_at (a ∷ vs) l i zero h k = rw (add-zero i) (sets_before vs (set l i a) (suc i) i (omega arith) ∙ get_or-set_same l i a d (omega arith))
  sets_at (a ∷ vs) l i (suc j) h k =
      let e : i + suc j ≡ suc i + j = omega arith in
      rw e (sets_at vs (set l i a) (suc i) j (omega arith) (omega (arith, length-set l i a)))

  pub replicate_at : (n i : ℕ) → get_or (replicate n d) i d ≡ d
  replicate_at zero i = refl
  replicate_at (suc n) zero = refl
  replicate_at (suc n) (suc i) = replicate_at n i
