-- Laws of `add_exp`, for all integers: with the larger one first it is a + A(a − b), and A falls by 0 or 1 with each step of the difference.
-- Assumes nothing.
use Rattle.std.proofs.Common.{◌≡◌, ℕ, ◌+◌, ◌^◌, ◌<◌, ◌≤◌, ℤ, pos, negsuc, ◌+ℤ◌, ◌-ℤ◌, neg_ℤ, nat_abs, ◌≤ℤ◌, sym, refl, ap, ◌∙◌, arith}
use Rattle.std.specs.Int.{int_max}
use Rattle.steps.specs.Table.{knots}
use Rattle.steps.specs.Knots.{T}
use Rattle.steps.specs.Addend.{addend}
use Rattle.steps.specs.Logs.{larger, difference, add_exp, mix_of}
use Rattle.steps.proofs.Addends.{falls, at_most, far}
use Rattle.steps.proofs.Signed.{up, dn, zlin, cases_z, le_true, →le_z_no, parts_add, up_pos, dn_pos, neg_up, neg_dn, apart, apart_swap, add_abs, minus_abs, <ℤ→, ≤ℤ→, →lt_z, →lt_z_no}

-- ---- the difference
pub diff_swap : (a b : ℤ) → difference a b ≡ difference b a
unfolding difference
diff_swap a b = apart_swap a b

pub diff_parts : (a b : ℤ) → b ≤ℤ a → up b + dn a + difference a b ≡ up a + dn b
unfolding difference
diff_parts a b h = apart a b h

-- the larger
pub larger_first : (a b : ℤ) → b ≤ℤ a → larger a b ≡ a
unfolding larger
larger_first a b h = rw (le_true b a h)

pub larger_second : (a b : ℤ) → a ≤ℤ b → larger a b ≡ b
unfolding larger
larger_second a b h = cases_z b a (λ k. rw (le_true b a k) (omega zlin)) (λ k. rw (→le_z_no b a (<ℤ→ a b k)))

pub max_is : (a b : ℤ) → int_max a b ≡ larger a b
max_is a b =
    cases_z a b (λ o. rw (→lt_z_no b a (≤ℤ→ a b o)) (sym (larger_second a b o)))
    (λ o. let i : b ≤ℤ a = omega zlin in rw (→lt_z b a (<ℤ→ b a o)) (sym (larger_first a b i)))

pub larger_size : (a b : ℤ) (n : ℕ) → nat_abs a ≤ n → nat_abs b ≤ n → nat_abs (larger a b) ≤ n
larger_size a b n h k =
    cases_z a b (λ o. rw (larger_second a b o) k) (λ o. let i : b ≤ℤ a = omega zlin in rw (larger_first a b i) h)

-- the sum with A, in parts
raised : (a : ℤ) (n : ℕ) → up (a +ℤ pos n) + dn a ≡ dn (a +ℤ pos n) + up a + n
raised a n = omega (arith, parts_add a (pos n), up_pos n, dn_pos n)

pub first_parts : (a b : ℤ) → b ≤ℤ a → up (add_exp a b) + dn a ≡ dn (add_exp a b) + up a + addend (difference a b)
unfolding add_exp
first_parts a b h = rw (larger_first a b h) (raised a (addend (difference a b)))

pub second_parts : (a b : ℤ) → a ≤ℤ b → up (add_exp a b) + dn b ≡ dn (add_exp a b) + up b + addend (difference a b)
unfolding add_exp
second_parts a b h = rw (larger_second a b h) (raised b (addend (difference a b)))

-- ---- symmetric
pub add_swap : (a b : ℤ) → add_exp a b ≡ add_exp b a
add_swap a b =
    let e = ap addend (diff_swap a b) in
    cases_z a b
    (λ h. let x = second_parts a b h in let y = first_parts b a h in omega zlin)
    (λ h. let k : b ≤ℤ a = omega zlin in let x = first_parts a b k in let y = second_parts b a k in omega zlin)

-- ---- at least each one, at most 4096 above the larger
pub add_least : (a b : ℤ) → (a ≤ℤ add_exp a b) × (b ≤ℤ add_exp a b)
add_least a b =
    cases_z a b
    (λ h. let x = second_parts a b h in (omega zlin, omega zlin))
    (λ h. let k : b ≤ℤ a = omega zlin in let x = first_parts a b k in (omega zlin, omega zlin))

-- the same from a bound of both
pub add_below : (a b c : ℤ) → a ≤ℤ c → b ≤ℤ c → add_exp a b ≤ℤ (c +ℤ pos 4096)
add_below a b c h k =
    let m = raised c 4096 in
    let l = at_most (difference a b) in
    cases_z a b
    (λ o. let x = second_parts a b o in omega zlin)
    (λ o. let i : b ≤ℤ a = omega zlin in let x = first_parts a b i in omega zlin)

-- its size is at most 4096 above theirs
pub add_size : (a b : ℤ) (n : ℕ) → nat_abs a ≤ n → nat_abs b ≤ n → nat_abs (add_exp a b) ≤ n + 4096
unfolding add_exp
add_size a b n h k =
    let l = at_most (difference a b) in
    let m = larger_size a b n h k in
    let s = add_abs (larger a b) (pos (addend (difference a b))) in omega arith

-- and with 4,096 taken from both first, at most 8192
pub mix_small : (a b : ℤ) (n : ℕ) → nat_abs a ≤ n → nat_abs b ≤ n → nat_abs (mix_of a b) ≤ n + 8192
unfolding mix_of
mix_small a b n h k =
    let x = minus_abs a (pos 4096) in
    let y = minus_abs b (pos 4096) in
    let s = add_size (a -ℤ pos 4096) (b -ℤ pos 4096) (n + 4096) (omega arith) (omega arith) in omega arith

-- so the code's sum does not wrap
pub sum_small : (a b m : ℤ) (d n : ℕ) → m ≡ larger a b → n ≡ addend d → nat_abs a ≤ 2 ^ 61 → nat_abs b ≤ 2 ^ 61 → nat_abs m + n < 2 ^ 63
sum_small a b m d n e f h k = rw (e, f) (omega (arith, larger_size a b (2 ^ 61) h k, at_most d))

-- ---- monotone
-- in the second one, on either side of the first
mono_under : (a b c : ℤ) → b ≤ℤ c → c ≤ℤ a → add_exp a b ≤ℤ add_exp a c
mono_under a b c h k =
    let i : b ≤ℤ a = omega zlin in
    let x = diff_parts a b i in
    let y = diff_parts a c k in
    let f = falls (difference a c) (difference a b) (omega (zlin, x, y)) in
    let p = first_parts a b i in
    let q = first_parts a c k in omega zlin

mono_over : (a b c : ℤ) → b ≤ℤ c → a ≤ℤ b → add_exp a b ≤ℤ add_exp a c
mono_over a b c h k =
    let i : a ≤ℤ c = omega zlin in
    let x = diff_parts b a k in
    let y = diff_parts c a i in
    let s = diff_swap a b in
    let t = diff_swap a c in
    let f = falls (difference a b) (difference a c) (omega (zlin, x, y)) in
    let p = second_parts a b k in
    let q = second_parts a c i in omega zlin

≤ℤ_same : (a : ℤ) → a ≤ℤ a
≤ℤ_same a = omega zlin

pub mono_second : (a b c : ℤ) → b ≤ℤ c → add_exp a b ≤ℤ add_exp a c
mono_second a b c h =
    cases_z a b (λ k. mono_over a b c h k)
    (λ k. cases_z a c
    (λ m. let i : b ≤ℤ a = omega zlin in let x = mono_under a b a i (≤ℤ_same a) in let y = mono_over a a c m (≤ℤ_same a) in omega zlin)
    (λ m. let i : c ≤ℤ a = omega zlin in mono_under a b c h i))

-- ---- a constant added to both moves it by that constant
diff_shift : (a b c : ℤ) → b ≤ℤ a → difference (a +ℤ c) (b +ℤ c) ≡ difference a b
diff_shift a b c h =
    let x = parts_add a c in
    let y = parts_add b c in
    let k : (b +ℤ c) ≤ℤ (a +ℤ c) = omega zlin in
    let p = diff_parts (a +ℤ c) (b +ℤ c) k in let q = diff_parts a b h in omega arith

shift_first : (a b c : ℤ) → b ≤ℤ a → add_exp (a +ℤ c) (b +ℤ c) ≡ add_exp a b +ℤ c
shift_first a b c h =
    let x = parts_add a c in
    let y = parts_add b c in
    let k : (b +ℤ c) ≤ℤ (a +ℤ c) = omega zlin in
    let p = first_parts (a +ℤ c) (b +ℤ c) k in
    let q = first_parts a b h in
    let e = ap addend (diff_shift a b c h) in
    let z = parts_add (add_exp a b) c in omega zlin

pub add_shift : (a b c : ℤ) → add_exp (a +ℤ c) (b +ℤ c) ≡ add_exp a b +ℤ c
add_shift a b c =
    cases_z b a (shift_first a b c)
    (λ k. let i : a ≤ℤ b = omega zlin in add_swap (a +ℤ c) (b +ℤ c) ∙ shift_first b a c i ∙ ap (λ (z : ℤ). z +ℤ c) (add_swap b a))

-- so only how far the first is above the second counts
pub add_exp_from : (a b : ℤ) → add_exp (b +ℤ a) b ≡ b +ℤ add_exp a (pos 0)
add_exp_from a b =
    let e : b +ℤ a ≡ a +ℤ b = omega (zlin, parts_add a b, parts_add b a) in
    let z : b ≡ pos 0 +ℤ b = omega (zlin, parts_add (pos 0) b, up_pos 0, dn_pos 0) in
    let s = add_exp a (pos 0) in
    let m : s +ℤ b ≡ b +ℤ s = omega (zlin, parts_add s b, parts_add b s) in
    ap (λ (x : ℤ). add_exp x b) e ∙ ap (λ (x : ℤ). add_exp (a +ℤ b) x) z ∙ add_shift a (pos 0) b ∙ m

-- ---- so far apart that A is 0
pub far_above : (d : ℤ) → pos 51328 ≤ℤ d → add_exp d (pos 0) ≡ d
far_above d h =
    let k : pos 0 ≤ℤ d = omega (zlin, up_pos 0, dn_pos 0, up_pos 51328, dn_pos 51328) in
    let q = diff_parts d (pos 0) k in
    let z = far (difference d (pos 0)) (omega (zlin, q, up_pos 0, dn_pos 0, up_pos 51328, dn_pos 51328)) in
    omega (zlin, first_parts d (pos 0) k, z)

pub far_below : (d : ℤ) → d ≤ℤ neg_ℤ (pos 51328) → add_exp d (pos 0) ≡ pos 0
far_below d h =
    let n = neg_up (pos 51328) in
    let m = neg_dn (pos 51328) in
    let k : d ≤ℤ pos 0 = omega (zlin, n, m, up_pos 0, dn_pos 0, up_pos 51328, dn_pos 51328) in
    let q = diff_parts (pos 0) d k in
    let e = diff_swap d (pos 0) in
    let z = far (difference d (pos 0)) (omega (zlin, e, q, n, m, up_pos 0, dn_pos 0, up_pos 51328, dn_pos 51328)) in
    omega (zlin, second_parts d (pos 0) k, z)

-- ---- two halves are one
pub add_halves : add_exp (negsuc 4095) (negsuc 4095) ≡ pos 0
unfolding add_exp larger difference addend T knots
add_halves = refl
