-- How often a number stands in a list: laws of `times` and `member`. Among numbers below n that stand there once at most, n in all, each
-- stands there once, since the sum of all `times` is the length. Assumes nothing.
use Rattle.std.proofs.Common.{◌≡◌, ℕ, zero, suc, ◌+◌, ◌<◌, ◌≤◌, Bool, true, false, cond, ◌||◌, T, eqb, List, [], ◌∷◌, ◌++◌, length, get_or, set, refl, ap, ◌∙◌, arith, get_or-set_other, get_or-set_same, lt-length-set, eq-eqb, ne_eqb}
use native.Mathlib.Decide.{ℕ_discrete}
use Rattle.variants_and_fragments.specs.Sums.{count_to}
use Rattle.variants_and_fragments.proofs.Sums.{count_to_plus, count_to_zero, count_to_top}
use Rattle.shuffle.specs.Permutation.{member, times}
use Rattle.shuffle.specs.Orders.{ascending, swapped}

-- 1 where w is v
abbrev pub is_one : ℕ → ℕ → ℕ
is_one w v = cond (eqb w v) 1 0

pub is_same : (w v : ℕ) → w ≡ v → is_one w v ≡ 1
is_same w v e = rw (eq-eqb w v e) refl

pub is_other : (w v : ℕ) → (w ≡ v → ⊥) → is_one w v ≡ 0
is_other w v e = rw (ne_eqb w v e) refl

pub is_le : (w v : ℕ) → is_one w v ≤ 1
is_le w v = go (eqb w v)
  where
    go : (b : Bool) → cond b 1 0 ≤ 1
    go true = omega arith
    go false = omega arith

pub times_append : (v : ℕ) (xs ys : List ℕ) → times v (xs ++ ys) ≡ times v xs + times v ys
unfolding times
times_append v [] ys = omega arith
times_append v (x ∷ xs) ys = omega (arith, times_append v xs ys)

-- a store moves the count from the old entry to the new one
pub times_set : (v : ℕ) (l : List ℕ) (i x : ℕ) → i < length l → times v (set l i x) + is_one (get_or l i 0) v ≡ times v l + is_one x v
unfolding times
times_set v [] i x h = absurd (omega arith)
times_set v (w ∷ ws) zero x h = omega arith
times_set v (w ∷ ws) (suc i) x h = omega (arith, times_set v ws i x (omega arith))

set_keeps : (l : List ℕ) (i j : ℕ) → j < length l → get_or (set l i (get_or l j 0)) j 0 ≡ get_or l j 0
set_keeps l i j h = elim (ℕ_discrete j i) [
  | yes e ↦ rw (← e) (get_or-set_same l j (get_or l j 0) 0 h)
  | no e ↦ get_or-set_other l i j (get_or l j 0) 0 e
]

pub times_swapped : (v : ℕ) (l : List ℕ) (i j : ℕ) → i < length l → j < length l → times v (swapped l i j) ≡ times v l
unfolding swapped
times_swapped v l i j hi hj =
    let first = times_set v l i (get_or l j 0) hi in
    let second = times_set v (set l i (get_or l j 0)) j (get_or l i 0) (lt-length-set l i (get_or l j 0) hj) in
    let kept = ap (λ (w : ℕ). is_one w v) (set_keeps l i j hj) in
    omega (arith, first, second, kept)

times_last : (v n : ℕ) → times v (ascending (suc n)) ≡ times v (ascending n) + is_one n v
unfolding ascending times
times_last v n = times_append v (ascending n) (n ∷ []) ∙ omega arith

pub ascending_absent : (v n : ℕ) → n ≤ v → times v (ascending n) ≡ 0
unfolding ascending times
ascending_absent v zero h = refl
ascending_absent v (suc n) h = omega (arith, times_last v n, ascending_absent v n (omega arith), is_other n v (λ e. omega arith))

pub ascending_once : (v n : ℕ) → v < n → times v (ascending n) ≡ 1
ascending_once v zero h = absurd (omega arith)
ascending_once v (suc n) h = elim (ℕ_discrete n v) [
  | yes e ↦ omega (arith, times_last v n, ascending_absent v n (omega arith), is_same n v e)
  | no e ↦ omega (arith, times_last v n, ascending_once v n (omega arith), is_other n v e)
]

pub member_times : (v : ℕ) (l : List ℕ) → T (member v l) → 1 ≤ times v l
unfolding member times
member_times v [] t = absurd t
member_times v (w ∷ ws) t = go (eqb w v) t (member_times v ws)
  where
    go : (b : Bool) → T (b || member v ws) → (T (member v ws) → 1 ≤ times v ws) → 1 ≤ cond b 1 0 + times v ws
    go true u later = omega arith
    go false u later = omega (arith, later u)

pub times_member : (v : ℕ) (l : List ℕ) → 1 ≤ times v l → T (member v l)
unfolding member times
times_member v [] h = absurd (omega arith)
times_member v (w ∷ ws) h = go (eqb w v) h (times_member v ws)
  where
    go : (b : Bool) → 1 ≤ cond b 1 0 + times v ws → (1 ≤ times v ws → T (member v ws)) → T (b || member v ws)
    go true k later = tt
    go false k later = later (omega arith)

pub member_head : (w : ℕ) (ws : List ℕ) → T (member w (w ∷ ws))
unfolding times
member_head w ws = times_member w (w ∷ ws) (omega (arith, is_same w w refl))

pub member_tail : (v w : ℕ) (ws : List ℕ) → T (member v ws) → T (member v (w ∷ ws))
unfolding times
member_tail v w ws t = times_member v (w ∷ ws) (omega (arith, member_times v ws t))

-- ---- sums over the numbers below n
sum_none : (n w : ℕ) → n ≤ w → count_to n (λ v. is_one w v) ≡ 0
unfolding count_to
sum_none zero w h = refl
sum_none (suc n) w h = omega (arith, sum_none n w (omega arith), is_other w n (λ e. omega arith))

sum_one : (n w : ℕ) → w < n → count_to n (λ v. is_one w v) ≡ 1
unfolding count_to
sum_one zero w h = absurd (omega arith)
sum_one (suc n) w h = elim (ℕ_discrete w n) [
  | yes e ↦ omega (arith, sum_none n w (omega arith), is_same w n e)
  | no e ↦ omega (arith, sum_one n w (omega arith), is_other w n e)
]

-- where every entry is below n, the sum of all `times` is the length
sum_times : (n : ℕ) (l : List ℕ) → ((v : ℕ) → T (member v l) → v < n) → count_to n (λ v. times v l) ≡ length l
unfolding times
sum_times n [] h = count_to_zero n
sum_times n (w ∷ ws) h = count_to_plus n (λ v. is_one w v) (λ v. times v ws) ∙ omega (arith, sum_one n w (h w (member_head w ws)), sum_times n ws (λ v t. h v (member_tail v w ws t)))

all_one : (n : ℕ) (f : ℕ → ℕ) → ((v : ℕ) → v < n → f v ≤ 1) → n ≤ count_to n f → (v : ℕ) → v < n → f v ≡ 1
unfolding count_to
all_one zero f h s v k = absurd (omega arith)
all_one (suc n) f h s v k =
    let low = count_to_top n 1 f (λ u l. h u (omega arith)) in
    let top = h n (omega arith) in
    elim (ℕ_discrete v n) [
      | yes e ↦ ap f e ∙ omega (arith, low, top)
      | no e ↦ all_one n f (λ u l. h u (omega arith)) (omega (arith, low, top)) v (omega arith)
    ]

pub each_once : (n : ℕ) (l : List ℕ) → length l ≡ n → ((v : ℕ) → T (member v l) → v < n) → ((v : ℕ) → v < n → times v l ≤ 1) → (v : ℕ) → v < n → times v l ≡ 1
each_once n l long within most = all_one n (λ v. times v l) most (omega (arith, sum_times n l within))
