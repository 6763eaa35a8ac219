-- A slice with elements written from a place on. Assumes nothing.
use Rattle.std.specs.Prelude.{List, ℕ, zero, suc, ◌+◌, set}

-- l with g 0, .., g (n − 1) in the n places from `at` on
unfoldable pub written_from : {A : Type 0} → (ℕ → A) → ℕ → ℕ → List A → List A
written_from g at zero l = l
written_from g at (suc n) l = set (written_from g at n l) (at + n) (g n)
