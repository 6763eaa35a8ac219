-- What the test of a digit says. Assumes nothing.
use Rattle.std.proofs.Common.{◌≡◌, ℕ, ◌≤◌, Bool, true, false, ◌&&◌, leb, refl, leb-true}
use mathlib.Core.Bool.{false≢true}
use Rattle.protocol.specs.Text.{is_digit}

-- a digit's bounds
pub both : (a b : Bool) → (a && b) ≡ true → (a ≡ true) × (b ≡ true)
both true true h = (refl, refl)
both true false h = absurd (false≢true h)
both false b h = absurd (false≢true h)

pub digit_low : (b : ℕ) → is_digit b ≡ true → 48 ≤ b
unfolding is_digit
digit_low b h = leb-true 48 b (both (leb 48 b) (leb b 57) h).0
