-- Powers of natural numbers: a power of a product, a power of a power, and a power compared through a rounded root of it.
-- Assumes nothing.
use Rattle.std.proofs.Common.{◌≡◌, ℕ, zero, suc, ◌+◌, ◌*◌, ◌/◌, ◌^◌, ◌<◌, ◌≤◌, subst, le_trans, lt_of_lt_of_le, mul-le-mul_right, suc-mul, pow-suc, mul-zero, mul-suc, div-mul-le_self, arith, pow_pos, pow-add}
use native.Mathlib.Nat.{pow-zero, mul-mul-mul_comm, pow-le-pow_left, pow-lt-pow_left, lt-div-mul-add}

pub mul_pow : (a b k : ℕ) → (a * b) ^ k ≡ a ^ k * b ^ k
mul_pow a b zero = simp pow-zero
mul_pow a b (suc k) = simp (pow-suc, mul_pow a b k) (mul-mul-mul_comm (a ^ k) (b ^ k) a b)

pub pow_mul : (n i j : ℕ) → n ^ (i * j) ≡ (n ^ i) ^ j
pow_mul n i zero = simp (mul-zero, pow-zero)
pow_mul n i (suc j) = simp (mul-suc, pow-add, pow-suc, pow_mul n i j)

-- the exact power is at least 2 ^ m where that of its base's a-th power, rounded down to multiples of 2 ^ s, says so
pub at_least : (n s a b t m : ℕ) → t + s * b ≡ m → 2 ^ t ≤ (n ^ a / 2 ^ s) ^ b → 2 ^ m ≤ n ^ (a * b)
at_least n s a b t m e h =
    subst (λ (i : ℕ). 2 ^ i ≤ n ^ (a * b)) e
    (rw (pow-add 2 t (s * b), pow_mul 2 s b, pow_mul n a b)
    (le_trans (mul-le-mul_right ((2 ^ s) ^ b) h)
    (subst (λ (x : ℕ). x ≤ (n ^ a) ^ b) (mul_pow (n ^ a / 2 ^ s) (2 ^ s) b)
    (pow-le-pow_left (div-mul-le_self (n ^ a) (2 ^ s)) b))))

-- and below 2 ^ m where the next multiple's says so
pub below : (n s a b t m : ℕ) → 0 < b → t + s * b ≡ m → suc (n ^ a / 2 ^ s) ^ b ≤ 2 ^ t → n ^ (a * b) < 2 ^ m
below n s a b t m p e h =
    subst (λ (i : ℕ). n ^ (a * b) < 2 ^ i) e
    (rw (pow-add 2 t (s * b), pow_mul 2 s b, pow_mul n a b)
    (lt_of_lt_of_le
    (subst (λ (x : ℕ). (n ^ a) ^ b < x) (mul_pow (suc (n ^ a / 2 ^ s)) (2 ^ s) b) (pow-lt-pow_left next (λ z. omega arith)))
    (mul-le-mul_right ((2 ^ s) ^ b) h)))
  where
    next : n ^ a < suc (n ^ a / 2 ^ s) * 2 ^ s
    next = rw suc-mul (lt-div-mul-add (pow_pos s))
