-- What holds of every element of a list: by index and along the list, of an append, a part and a map, and of a tabulated list.
-- Assumes nothing.
use mathlib.Core.List.{List, [], ◌∷◌, ◌++◌, map}
use Prim.Native.Nat.{ℕ, zero, suc, ◌+◌, ◌≤◌, ◌<◌}
use native.Mathlib.Omega.{arith}
use lib.ListN.{length, get_or, drop}
use Rattle.variants_and_fragments.specs.Inner.Case.{All, end, also}
use Rattle.variants_and_fragments.specs.Decode.{tabulate_from, tabulate}

pub all_at : {X : Type 0} {P : X → Type 0} {xs : List X} → All P xs → (i : ℕ) (d : X) → i < length xs → P (get_or xs i d)
all_at end i d h = absurd (omega arith)
all_at (also p ps) zero d h = p
all_at (also p ps) (suc i) d h = all_at ps i d (omega arith)

pub at_all : {X : Type 0} {P : X → Type 0} (xs : List X) (d : X) → ((i : ℕ) → i < length xs → P (get_or xs i d)) → All P xs
at_all [] d h = end
at_all (x ∷ xs) d h = also (h 0 (omega arith)) (at_all xs d (λ i l. h (suc i) (omega arith)))

pub all_imp : {X : Type 0} {P Q : X → Type 0} {xs : List X} → ((x : X) → P x → Q x) → All P xs → All Q xs
all_imp h end = end
all_imp h (also {x} p ps) = also (h x p) (all_imp h ps)

pub all_map : {X Y : Type 0} {P : Y → Type 0} (g : X → Y) (xs : List X) → All (λ x. P (g x)) xs → All P (map g xs)
all_map g [] end = end
all_map g (x ∷ xs) (also p ps) = also p (all_map g xs ps)

pub all_append : {X : Type 0} {P : X → Type 0} {xs ys : List X} → All P xs → All P ys → All P (xs ++ ys)
all_append end qs = qs
all_append (also p ps) qs = also p (all_append ps qs)

pub all_drop : {X : Type 0} {P : X → Type 0} (n : ℕ) (xs : List X) → All P xs → All P (drop n xs)
all_drop zero xs ps = ps
all_drop (suc n) [] end = end
all_drop (suc n) (x ∷ xs) (also p ps) = all_drop n xs ps

pub all_from : {X : Type 0} {P : X → Type 0} (g : ℕ → X) (i n : ℕ) → ((k : ℕ) → i ≤ k → k < i + n → P (g k)) → All P (tabulate_from g i n)
unfolding tabulate_from
all_from g i zero h = end
all_from g i (suc n) h = also (h i (omega arith) (omega arith)) (all_from g (suc i) n (λ k a b. h k (omega arith) (omega arith)))

pub all_tabulate : {X : Type 0} {P : X → Type 0} (n : ℕ) (g : ℕ → X) → ((k : ℕ) → k < n → P (g k)) → All P (tabulate n g)
all_tabulate n g h = all_from g 0 n (λ k a b. h k (omega arith))
