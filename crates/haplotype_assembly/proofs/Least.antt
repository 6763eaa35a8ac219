-- A set's name is its least pos0 + 1, over all variants with that set, as 01 says: it is one of theirs, and none is less.
-- A law of the definition, which no other proof needs.
-- Assumes nothing.
use mathlib.Core.Path.{◌≡◌, refl, sym, ◌∙◌}
use mathlib.Core.Bool.{Bool, true, false, cond}
use mathlib.Core.List.{List}
use Prim.Native.Nat.{ℕ, zero, suc, ◌+◌, ◌≤◌, ◌<◌}
use native.Mathlib.Omega.{arith}
use native.Mathlib.Decide.{dec_le, ℕ_discrete}
use borrow.Author.Tests.{eq-eqb}
use lib.IntN.{ℤ, pos}
use lib.ListN.{length, get_or}
use Rattle.variants_and_fragments.specs.Case.{Case, variant_of}
use Rattle.haplotype_assembly.specs.Phase.{is_phase, byte_of, is_set, name_below, set_name, name_of_set, phase_name}
use Rattle.variants_and_fragments.specs.Refusals.{earlier}
use Rattle.variants_and_fragments.proofs.Short.{earlier_right, earlier_first, earlier_second}

-- n is the least of f over the v below k with p
pub record LeastOf (p : ℕ → Bool) (f : ℕ → ℕ) (k n : ℕ) : Type 0 where
  pub by : ℕ
  pub by_in : by < k
  pub by_has : p by ≡ true
  pub is : n ≡ f by
  pub least : (v : ℕ) → v < k → p v ≡ true → n ≤ f v

-- either there is none and the name is 0, or it is the least
data Name (p : ℕ → Bool) (f : ℕ → ℕ) (k n : ℕ) : Type 0 where
  nobody : n ≡ 0 → ((v : ℕ) → v < k → p v ≡ false) → Name p f k n
  least_of : LeastOf p f k n → Name p f k n

no_more : {X : Type 0} (b : Bool) → b ≡ true → b ≡ false → X
no_more true e d = let z : ◌≡◌ {A = ℕ} 0 1 = cc in absurd (omega arith)
no_more false e d = let z : ◌≡◌ {A = ℕ} 0 1 = cc in absurd (omega arith)

module _ (pos0 : ℕ → ℕ) (sets : List ℤ) (s : ℕ) where
  abbrev has : ℕ → Bool
  has v = is_set (get_or sets v (pos 0)) s

  abbrev name_at : ℕ → ℕ
  name_at v = pos0 v + 1

  name_is : (k : ℕ) → Name has name_at k (name_below pos0 sets s k)
  unfolding name_below
  name_is zero = nobody refl (λ v l. absurd (omega arith))
  name_is (suc k) = go (has k) refl (name_is k)
    where
      n : ℕ
      n = name_below pos0 sets s k

      more : {P : ℕ → Type 0} → ((v : ℕ) → v < k → P v) → P k → (v : ℕ) → v < suc k → P v
      more {P} f x v l = elim (ℕ_discrete v k) [ yes e ↦ rw e x | no e ↦ f v (omega arith) ]

      go : (t : Bool) → has k ≡ t → Name has name_at k n → Name has name_at (suc k) (cond t (earlier n (name_at k)) n)
      go false e (nobody z none) = nobody z (more none e)
      go false e (least_of i) = least_of (record { by = i.by; by_in = omega (arith, i.by_in); by_has = i.by_has; is = i.is; least = more i.least (λ h. no_more (has k) h e) })
      go true e (nobody z none) = least_of (record { by = k; by_in = omega arith; by_has = e; is = sym (earlier_right n (name_at k) z); least = more (λ v l h. no_more (has v) h (none v l)) (λ h. omega (arith, earlier_right n (name_at k) z)) })
      go true e (least_of i) = elim (dec_le n (name_at k)) [
        | yes l ↦ let q = earlier_first n (name_at k) (λ z. omega (arith, i.is)) (λ z. omega arith) l in least_of (record { by = i.by; by_in = omega (arith, i.by_in); by_has = i.by_has; is = sym q ∙ i.is; least = more (λ v j h. omega (arith, i.least v j h)) (λ h. omega arith) })
        | no l ↦ let q = earlier_second n (name_at k) (λ z. omega arith) (λ z. omega arith) (omega arith) in least_of (record { by = k; by_in = omega arith; by_has = e; is = sym q; least = more (λ v j h. omega (arith, i.least v j h)) (λ h. omega arith) })
      ]

-- the name of a variant v whose byte is '0' or '1' and whose set is s
pub name_least : (case : Case) (bytes : List ℕ) (sets : List ℤ) (v s : ℕ) → v < length case.variants → is_phase (byte_of bytes v) ≡ true → get_or sets v (pos 0) ≡ pos s
    → LeastOf (λ u. is_set (get_or sets u (pos 0)) s) (λ u. (variant_of case u).pos0 + 1) (length case.variants) (phase_name case bytes sets v)
unfolding phase_name name_of_set set_name
name_least case bytes sets v s h byte set = rw (byte, set) (go (name_is (λ u. (variant_of case u).pos0) sets s (length case.variants)))
  where
    here : is_set (get_or sets v (pos 0)) s ≡ true
    here = rw set (eq-eqb s s refl)

    go : Name (λ u. is_set (get_or sets u (pos 0)) s) (λ u. (variant_of case u).pos0 + 1) (length case.variants) (set_name case sets s) → LeastOf (λ u. is_set (get_or sets u (pos 0)) s) (λ u. (variant_of case u).pos0 + 1) (length case.variants) (set_name case sets s)
    go (nobody z none) = no_more _ here (none v h)
    go (least_of i) = i
