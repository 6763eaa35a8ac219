-- A slice that is written place by place: one step more, its length, what stands where, and a part after a part.
-- Assumes nothing.
use mathlib.Core.Path.{◌≡◌, refl, ◌∙◌}
use mathlib.Core.List.{List}
use Prim.Native.Nat.{ℕ, zero, suc, ◌+◌, ◌≤◌, ◌<◌}
use native.Mathlib.Decide.{ℕ_discrete}
use native.Mathlib.Nat.{zero-add}
use native.Mathlib.Numerals.{add-one}
use native.Mathlib.Omega.{arith}
use lib.ListN.{length, get_or, set, length-set}
use lib.Seq.{get_or-set_same, get_or-set_other}
use Rattle.variants_and_fragments.specs.Written.{written}
use Rattle.variants_and_fragments.specs.Inner.Written.{written_from}

-- ---- from a place on
module _ {A : Type 0} (g : ℕ → A) (at : ℕ) where
  pub from_length : (n : ℕ) (l : List A) → length (written_from g at n l) ≡ length l
  unfolding written_from
  from_length zero l = refl
  from_length (suc n) l = length-set (written_from g at n l) (at + n) (g n) ∙ from_length n l

  pub from_past : (n : ℕ) (l : List A) (p : ℕ) (d : A) → n ≤ p → get_or (written_from g at n l) (at + p) d ≡ get_or l (at + p) d
  unfolding written_from
  from_past zero l p d h = refl
  from_past (suc n) l p d h = get_or-set_other (written_from g at n l) (at + n) (at + p) (g n) d (λ e. omega arith) ∙ from_past n l p d (omega arith)

  pub from_at : (n : ℕ) (l : List A) (p : ℕ) (d : A) → at + n ≤ length l → p < n → get_or (written_from g at n l) (at + p) d ≡ g p
  unfolding written_from
  from_at zero l p d h k = absurd (omega arith)
  from_at (suc n) l p d h k = elim (ℕ_discrete p n) [
    | yes e ↦ rw (e, get_or-set_same (written_from g at n l) (at + n) (g n) d (omega (arith, from_length n l)))
    | no e ↦ get_or-set_other (written_from g at n l) (at + n) (at + p) (g n) d (λ q. e (omega arith)) ∙ from_at n l p d (omega arith) (omega arith)
  ]

pub from_same : {A : Type 0} (g h : ℕ → A) (at n : ℕ) (l : List A) → ((i : ℕ) → i < n → g i ≡ h i) → written_from g at n l ≡ written_from h at n l
unfolding written_from
from_same g h at zero l e = refl
from_same g h at (suc n) l e = rw (from_same g h at n l (λ i k. e i (omega arith)), e n (omega arith))

-- a part after a part
pub from_join : {A : Type 0} (g h : ℕ → A) (at m n : ℕ) (l : List A) → ((p : ℕ) → p < n → h p ≡ g (m + p)) → written_from h (at + m) n (written_from g at m l) ≡ written_from g at (m + n) l
unfolding written_from
from_join g h at m zero l e = let z : m + 0 ≡ m = omega arith in rw z
from_join g h at m (suc n) l e =
    let z : m + suc n ≡ suc (m + n) = omega arith in
    let y : at + m + n ≡ at + (m + n) = omega arith in
    rw (z, y, from_join g h at m n l (λ p k. e p (omega arith)), e n (omega arith))

-- ---- from the start
pub written_from_lem : {A : Type 0} (g : ℕ → A) (n : ℕ) (l : List A) → written g n l ≡ written_from g 0 n l
unfolding written written_from
written_from_lem g zero l = refl
written_from_lem g (suc n) l = rw (written_from_lem g n l, zero-add)

pub written_on : {A : Type 0} (g : ℕ → A) (n : ℕ) (l o : List A) (x : A) → o ≡ written g n l → x ≡ g n → set o n x ≡ written g (n + 1) l
unfolding written
written_on g n l o x e q = rw (add-one, e, q)

module _ {A : Type 0} (g : ℕ → A) (n : ℕ) (l : List A) where
  pub written_length : length (written g n l) ≡ length l
  written_length = rw (written_from_lem g n l) (from_length g 0 n l)

  -- what stands there
  pub written_at : (d : A) → n ≤ length l → (i : ℕ) → i < n → get_or (written g n l) i d ≡ g i
  written_at d h i k = rw (written_from_lem g n l) (rw zero-add at (from_at g 0 n l i d (rw zero-add h) k))

  pub written_past : (d : A) (i : ℕ) → n ≤ i → get_or (written g n l) i d ≡ get_or l i d
  written_past d i k = rw (written_from_lem g n l) (simp zero-add at (from_past g 0 n l i d k))

pub written_same : {A : Type 0} (g h : ℕ → A) (n : ℕ) (l : List A) → ((i : ℕ) → i < n → g i ≡ h i) → written g n l ≡ written h n l
written_same g h n l e = rw (written_from_lem g n l, written_from_lem h n l) (from_same g h 0 n l e)

-- a part after what is written from the start
pub from_after : {A : Type 0} (g h : ℕ → A) (at n : ℕ) (l : List A) → ((p : ℕ) → p < n → h p ≡ g (at + p)) → written_from h at n (written g at l) ≡ written g (at + n) l
from_after g h at n l e = rw (written_from_lem g at l, written_from_lem g (at + n) l) (rw zero-add at (from_join g h 0 at n l e))
