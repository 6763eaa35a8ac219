-- Laws of log probabilities with the mark: how an i64 is read, the cases of `ln_add_exp`, and sizes.
-- Assumes nothing.
use Rattle.std.proofs.Common.{◌≡◌, ℕ, suc, ◌+◌, ◌-◌, ◌^◌, ◌<◌, ◌≤◌, true, false, eqb, ℤ, pos, negsuc, nat_abs, sym, refl, ap, ◌∙◌, arith, w64, SFits, of_z, eq-eqb, ne_eqb, eqb-true}
use Rattle.steps.specs.Logs.{Log, mark, steps, add_exp, ln_add_exp}
use Rattle.steps.specs.Inner.Logs.{is_mark, log_of, size}
use Rattle.steps.proofs.Signed.{cases, by_test, true_false, sfits}
use Rattle.steps.proofs.AddExp.{add_size}

-- ---- an i64 as a log probability
abbrev least : ℤ
least = negsuc 9223372036854775807

pub mark_is : (z : ℤ) → is_mark z ≡ true → z ≡ negsuc 9223372036854775807
unfolding is_mark
mark_is (pos n) t = true_false t refl
mark_is (negsuc n) t = ap negsuc (eqb-true n 9223372036854775807 t)

pub of_mark : (z : ℤ) → is_mark z ≡ true → log_of z ≡ mark
unfolding log_of
of_mark z t = rw t

pub of_steps : (z : ℤ) → is_mark z ≡ false → log_of z ≡ steps z
unfolding log_of
of_steps z t = rw t

pub of_least : log_of (negsuc 9223372036854775807) ≡ mark
unfolding log_of is_mark
of_least = refl

-- whatever is in range is no mark
pub no_mark : (z : ℤ) → nat_abs z < 2 ^ 63 → is_mark z ≡ false
unfolding is_mark
no_mark (pos n) h = refl
no_mark (negsuc n) h = ne_eqb n 9223372036854775807 (λ e. omega arith)

pub of_small : (z : ℤ) → nat_abs z < 2 ^ 63 → log_of z ≡ steps z
of_small z h = of_steps z (no_mark z h)

-- the code's number, from the log probability
number : Log → ℤ
number mark = least
number (steps z) = z

number_of : (z : ℤ) → number (log_of z) ≡ z
unfolding number
number_of z = by_test (is_mark z) (λ t. rw (of_mark z t) (sym (mark_is z t))) (λ t. rw (of_steps z t))

-- so an equation of `log_of r` fixes r
pub log_injective : (a b : ℤ) → log_of a ≡ log_of b → a ≡ b
log_injective a b e = sym (number_of a) ∙ ap number e ∙ number_of b

-- and a finite one is its number
pub steps_is : (r z : ℤ) → nat_abs z < 2 ^ 63 → log_of r ≡ steps z → r ≡ z
steps_is r z h e = log_injective r z (e ∙ sym (of_small z h))

-- the bits of the mark are those of no other i64
pub mark_bits : (a : ℤ) → SFits w64 a → eqb (of_z w64 a) 9223372036854775808 ≡ is_mark a
unfolding is_mark
mark_bits (pos n) f = let l = f.sfits in ne_eqb n 9223372036854775808 (λ e. omega arith)
mark_bits (negsuc n) f =
    let l = f.sfits in
    cases n 9223372036854775807
    (λ h. rw (ne_eqb n 9223372036854775807 (λ e. omega arith)) (ne_eqb (2 ^ 64 - suc n) 9223372036854775808 (λ e. omega arith)))
    (λ h. rw (eq-eqb n 9223372036854775807 (omega arith)) (eq-eqb (2 ^ 64 - suc n) 9223372036854775808 (omega arith)))

-- ---- ln_add_exp
pub add_to_mark : (a : Log) → ln_add_exp a mark ≡ a
unfolding ln_add_exp
add_to_mark mark = refl
add_to_mark (steps a) = refl

pub add_mark : (b : Log) → ln_add_exp mark b ≡ b
unfolding ln_add_exp
add_mark b = refl

pub add_steps : (a b : ℤ) → ln_add_exp (steps a) (steps b) ≡ steps (add_exp a b)
unfolding ln_add_exp
add_steps a b = refl

-- ---- sizes
pub size_steps : (z : ℤ) → size (steps z) ≡ nat_abs z
unfolding size
size_steps z = refl

-- a number that is no mark has its own size
pub size_of : (z : ℤ) → is_mark z ≡ false → size (log_of z) ≡ nat_abs z
size_of z t = ap size (of_steps z t) ∙ size_steps z

-- and so has a number that is in range
pub size_small : (z : ℤ) → nat_abs z < 2 ^ 63 → size (log_of z) ≡ nat_abs z
size_small z h = size_of z (no_mark z h)

-- the number of a sum of two finite ones
pub add_is : (a b r : ℤ) → nat_abs a ≤ 2 ^ 61 → nat_abs b ≤ 2 ^ 61 → log_of r ≡ ln_add_exp (log_of a) (log_of b) → r ≡ add_exp a b
add_is a b r h k e =
    let z = add_size a b (2 ^ 61) h k in
    let s = rw (of_small a (omega arith), of_small b (omega arith)) at e in
    steps_is r (add_exp a b) (omega arith) (s ∙ add_steps a b)

pub log_size : (a b : Log) (n : ℕ) → size a ≤ n → size b ≤ n → size (ln_add_exp a b) ≤ n + 4096
unfolding ln_add_exp size
log_size mark b n h k = omega arith
log_size (steps a) mark n h k = omega arith
log_size (steps a) (steps b) n h k = add_size a b n h k

-- a number whose size is in range fits, the mark too
pub size_fits : (z : ℤ) → size (log_of z) < 2 ^ 63 → SFits w64 z
size_fits z h =
    by_test (is_mark z) (λ t. rw (mark_is z t) (record { sfits = omega arith }))
    (λ t. let e = size_of z t in sfits w64 z (omega arith))
