-- Tests: what holds where one does, two in one, and one turned round. The kit's laws of `T` are handed on, so that one line brings all.
-- Assumes nothing.
use mathlib.Core.Path.{◌≡◌, refl}
use mathlib.Core.Bool.{Bool, true, false, not, cond, ◌&&◌, ◌||◌}
use mathlib.Core.Logic.{◌⊎◌, inl, inr}
use lib.Dec.{T}
pub use lib.Dec.{T_not, not_T}
pub use lib.Ieee.Bits.{is_true, is_false, cond_no}
pub use Rattle.steps.proofs.Signed.{true_false}

pub true_is : (b : Bool) → b ≡ true → T b
true_is true e = tt
true_is false e = true_false e refl

-- a test holds or not
pub which : (b : Bool) → T b ⊎ T (not b)
which true = inl tt
which false = inr tt

pub cond_yes : {A : Type 0} (b : Bool) (x y : A) → T b → cond b x y ≡ x
cond_yes true x y t = refl
cond_yes false x y t = absurd t

pub both : (a b : Bool) → (a && b) ≡ true → (a ≡ true) × (b ≡ true)
both true b h = (refl, h)
both false b h = true_false h refl

-- what follows a test that holds may go by it
pub and_when : (a b c : Bool) → (a ≡ true → b ≡ c) → (a && b) ≡ (a && c)
and_when true b c h = h refl
and_when false b c h = refl

pub or_off : (a b : Bool) → (a || b) ≡ false → (a ≡ false) × (b ≡ false)
or_off true b h = true_false refl h
or_off false b h = (refl, h)

pub or_right : (a b : Bool) → b ≡ true → (a || b) ≡ true
or_right true b h = refl
or_right false b h = h

pub not_on : (b : Bool) → not b ≡ true → b ≡ false
not_on true h = true_false h refl
not_on false h = refl

-- what does not hold is false
pub off : (b : Bool) → (b ≡ true → ⊥) → b ≡ false
off true h = absurd (h refl)
off false h = refl
