-- A lent slice of which a part is written, and the rest as it was.
-- Assumes nothing.
use Rattle.std.specs.Prelude.{List, ℕ, zero, suc, set}

-- in its first n places
unfoldable pub written : {A : Type 0} → (ℕ → A) → ℕ → List A → List A
written g zero l = l
written g (suc n) l = set (written g n l) n (g n)
