-- Laws of sums from the left: the statement, one more element, a sum of finite ones, a constant added to each, the size.
-- Assumes nothing.
use Rattle.std.proofs.Common.{◌≡◌, ℕ, suc, ◌+◌, ◌*◌, ◌^◌, ◌<◌, ◌≤◌, List, [], ◌∷◌, ◌++◌, map, length, get_or, drop, ℤ, pos, ◌+ℤ◌, nat_abs, sym, refl, ap, ◌∙◌, append_assoc, append-nil, add-one, arith, drop-cons}
use lib.Seq.{drop-length}
use Rattle.steps.specs.Logs.{Log, mark, steps, add_exp, ln_add_exp, AddsFromLeft, ln_sum_from, ln_sum_exp, sum_exp}
use Rattle.steps.specs.Inner.Logs.{log_of, size}
use Rattle.steps.proofs.AddExp.{add_shift, add_size}
use Rattle.steps.proofs.Marks.{of_small, log_size}

-- ---- the statement
-- it adds from the left, starting at the mark
sum_last : (a : Log) (xs : List Log) (x : Log) → ln_sum_from a (xs ++ (x ∷ [])) ≡ ln_add_exp (ln_sum_from a xs) x
unfolding ln_sum_from
sum_last a [] x = refl
sum_last a (y ∷ ys) x = sum_last (ln_add_exp a y) ys x

pub sum_meets : AddsFromLeft ln_sum_exp
unfolding ln_sum_exp ln_sum_from
sum_meets = record { start = refl; next = sum_last mark }

-- and no other function does
sum_on : (f : List Log → Log) → AddsFromLeft f → (xs ys : List Log) → f (xs ++ ys) ≡ ln_sum_from (f xs) ys
unfolding ln_sum_from
sum_on f h xs [] = ap f (append-nil xs)
sum_on f h xs (y ∷ ys) =
    ap f (sym (append_assoc xs (y ∷ []) ys)) ∙ sum_on f h (xs ++ (y ∷ [])) ys ∙ ap (λ (a : Log). ln_sum_from a ys) (h.next xs y)

pub one_sum : (f : List Log → Log) → AddsFromLeft f → (xs : List Log) → f xs ≡ ln_sum_exp xs
unfolding ln_sum_exp
one_sum f h xs = sum_on f h [] xs ∙ ap (λ (a : Log). ln_sum_from a xs) h.start

-- ---- laws
-- one more element, and none left
pub sum_next : (a : Log) (s : List ℤ) (i : ℕ) → i < length s → ln_sum_from a (map log_of (drop i s)) ≡ ln_sum_from (ln_add_exp a (log_of (get_or s i (pos 0)))) (map log_of (drop (i + 1) s))
unfolding ln_sum_from
sum_next a s i h = rw (drop-cons s i (pos 0) h, add-one i)

pub sum_end : (a : Log) (s : List ℤ) → ln_sum_from a (map log_of (drop (length s) s)) ≡ a
unfolding ln_sum_from
sum_end a s = rw (drop-length s)

-- a sum of finite ones is finite, and goes from the first
sum_from_steps : (a : ℤ) (xs : List ℤ) → ln_sum_from (steps a) (map steps xs) ≡ steps (sum_exp a xs)
unfolding ln_sum_from sum_exp ln_add_exp
sum_from_steps a [] = refl
sum_from_steps a (x ∷ xs) = sum_from_steps (add_exp a x) xs

pub sum_steps : (x : ℤ) (xs : List ℤ) → ln_sum_exp (map steps (x ∷ xs)) ≡ steps (sum_exp x xs)
unfolding ln_sum_exp ln_sum_from ln_add_exp
sum_steps x xs = sum_from_steps x xs

-- numbers in range are finite ones
pub log_steps : (xs : List ℤ) → ((k : ℕ) → k < length xs → nat_abs (get_or xs k (pos 0)) < 2 ^ 63) → map log_of xs ≡ map steps xs
log_steps [] g = refl
log_steps (x ∷ xs) g = rw (of_small x (g 0 (omega arith)), log_steps xs (λ k i. g (suc k) (omega arith)))

-- a constant added to each moves a finite sum by that constant
pub sum_shift : (c a : ℤ) (xs : List ℤ) → sum_exp (a +ℤ c) (map (λ (x : ℤ). x +ℤ c) xs) ≡ sum_exp a xs +ℤ c
unfolding sum_exp
sum_shift c a [] = refl
sum_shift c a (x ∷ xs) =
    ap (λ (z : ℤ). sum_exp z (map (λ (y : ℤ). y +ℤ c) xs)) (add_shift a x c) ∙ sum_shift c (add_exp a x) xs

-- a finite sum's size: 4096 for each addition
pub sum_size : (n : ℕ) (a : ℤ) (xs : List ℤ) → nat_abs a ≤ n → ((k : ℕ) → k < length xs → nat_abs (get_or xs k (pos 0)) ≤ n) → nat_abs (sum_exp a xs) ≤ n + 4096 * length xs
unfolding sum_exp
sum_size n a [] h g = omega arith
sum_size n a (x ∷ xs) h g =
    let s = add_size a x n h (g 0 (omega arith)) in
    let r = sum_size (n + 4096) (add_exp a x) xs s (λ k i. let e = g (suc k) (omega arith) in omega arith) in omega arith

-- the same with marks among them
sum_from_size : (n : ℕ) (a : Log) (xs : List ℤ) → size a ≤ n → ((k : ℕ) → k < length xs → size (log_of (get_or xs k (pos 0))) ≤ n) → size (ln_sum_from a (map log_of xs)) ≤ n + 4096 * length xs
unfolding ln_sum_from
sum_from_size n a [] h g = omega arith
sum_from_size n a (x ∷ xs) h g =
    let s = log_size a (log_of x) n h (g 0 (omega arith)) in
    let r = sum_from_size (n + 4096) (ln_add_exp a (log_of x)) xs s (λ k i. let e = g (suc k) (omega arith) in omega arith) in omega arith

pub log_sum_size : (n : ℕ) (xs : List ℤ) → ((k : ℕ) → k < length xs → size (log_of (get_or xs k (pos 0))) ≤ n) → size (ln_sum_exp (map log_of xs)) ≤ n + 4096 * length xs
unfolding ln_sum_exp size
log_sum_size n xs g = sum_from_size n mark xs (omega arith) g
