-- The low digits of a product from halves of P: the high halves' product and what the middle carries past are multiples of P · P.
-- Assumes nothing.
use Rattle.std.proofs.Common.{◌≡◌, ℕ, ◌+◌, ◌*◌, ◌/◌, ◌%◌, ◌^◌, ◌<◌, sym, refl, ap, ◌∙◌, lt_of_le_of_lt, le_of_lt, add_assoc, mul_assoc, mul_comm, add-mul, add_comm, mul-le-mul_left, mul-lt-mul_of_pos_right, div-add-mod', mul-add, mul_left_comm, pow_pos, pow-add}
use mathlib.Core.Path.{subst⁻¹}
use native.Mathlib.Nat.{add_left_comm, add-mul-mod_self_right}

pub below : (k : ℕ) {a b : ℕ} → a < 2 ^ k → b < 2 ^ k → a * b < 2 ^ (k + k)
below k {a} {b} ha hb =
    subst⁻¹ (λ (n : ℕ). a * b < n) (pow-add 2 k k)
    (lt_of_le_of_lt (mul-le-mul_left a (le_of_lt hb)) (mul-lt-mul_of_pos_right ha (pow_pos k)))

product : (P a₀ a₁ b₀ b₁ : ℕ) → (a₁ * P + a₀) * (b₁ * P + b₀) ≡ a₀ * b₀ + (a₁ * b₀ + a₀ * b₁) * P + a₁ * b₁ * (P * P)
product P a₀ a₁ b₀ b₁ = simp (mul-add, add-mul, mul_assoc, mul_comm, mul_left_comm, add_assoc, add_comm, add_left_comm) refl

carry : (P l q r h : ℕ) → l + (q * P + r) * P + h * (P * P) ≡ (l + r * P) + (h + q) * (P * P)
carry P l q r h = simp (add-mul, mul_assoc, mul_comm, mul_left_comm, add_assoc, add_comm) refl

pub low_law : (P a₀ a₁ b₀ b₁ : ℕ) → (a₀ * b₀ + (a₁ * b₀ + a₀ * b₁) % P * P) % (P * P) ≡ (a₁ * P + a₀) * (b₁ * P + b₀) % (P * P)
low_law P a₀ a₁ b₀ b₁ =
    let x = a₁ * b₀ + a₀ * b₁ in
    let e = product P a₀ a₁ b₀ b₁ ∙ ap (λ (y : ℕ). a₀ * b₀ + y * P + a₁ * b₁ * (P * P)) (sym (div-add-mod' x P)) ∙ carry P (a₀ * b₀) (x / P) (x % P) (a₁ * b₁) in
    sym (ap (λ (y : ℕ). y % (P * P)) e ∙ add-mul-mod_self_right (a₀ * b₀ + x % P * P) (a₁ * b₁ + x / P) (P * P))
