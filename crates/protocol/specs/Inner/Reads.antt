-- What a type's two readings of a token owe each other. Assumes nothing.
use Rattle.std.specs.Prelude.{◌≡◌, ℕ, List, Option, Some, None}
use Rattle.protocol.specs.Text.{Reading, int_of}
use Rattle.protocol.specs.Inner.State.{start, pushed_all}
use Rattle.protocol.specs.declared.number.Number.{Number}

-- what a token reads as, by the state after its bytes
unfoldable pub read_by : {A : Type 0} → (Number → Option A) → Option Number → Option A
read_by in_state None = None
read_by in_state (Some s) = in_state s

-- the state after the bytes t of a token reads as the integer that t stands for
abbrev pub Reads : {A : Type 0} → (Number → Option A) → (Reading → Option A) → List ℕ → Type 0
Reads in_state of_reading t = read_by in_state (pushed_all (Some start) t) ≡ of_reading (int_of t)
