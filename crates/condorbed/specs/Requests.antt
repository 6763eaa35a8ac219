-- Which request a token names: the protocol's table of requests. Assumes nothing.
use Rattle.std.specs.Prelude.{Bool, true, false, cond, ◌&&◌, List, [], ◌∷◌, ℕ, Option, Some, None, Result, Ok, Err, eqb}
use Rattle.condorbed.specs.declared.requests.Operation.{Operation}
use Rattle.condorbed.specs.declared.requests.Operation.TheVariants.{Check, Filter, Priors, Orders, Phase, Flist, Nohap, Run, Arrive, Depart}
use Rattle.protocol.specs.declared.input.Reason.{Reason}
use Rattle.protocol.specs.declared.input.Reason.TheVariants.{Request}

-- a token, byte by byte, and what it asks for: an operation, or none at the end
pub record Row : Type 0 where
  pub name : List ℕ
  pub asks : Option Operation

abbrev row : List ℕ → Operation → Row
row name operation = record { name = name; asks = Some operation }

-- the requests' words, and no bytes, as which the end of the input reads
unfoldable pub requests : List Row
requests =
    record { name = []; asks = None }
    -- check
    ∷ row (99 ∷ 104 ∷ 101 ∷ 99 ∷ 107 ∷ []) Check
    -- filter
    ∷ row (102 ∷ 105 ∷ 108 ∷ 116 ∷ 101 ∷ 114 ∷ []) Filter
    -- priors
    ∷ row (112 ∷ 114 ∷ 105 ∷ 111 ∷ 114 ∷ 115 ∷ []) Priors
    -- orders
    ∷ row (111 ∷ 114 ∷ 100 ∷ 101 ∷ 114 ∷ 115 ∷ []) Orders
    -- phase
    ∷ row (112 ∷ 104 ∷ 97 ∷ 115 ∷ 101 ∷ []) Phase
    -- flist
    ∷ row (102 ∷ 108 ∷ 105 ∷ 115 ∷ 116 ∷ []) Flist
    -- nohap
    ∷ row (110 ∷ 111 ∷ 104 ∷ 97 ∷ 112 ∷ []) Nohap
    -- run
    ∷ row (114 ∷ 117 ∷ 110 ∷ []) Run
    -- arrive
    ∷ row (97 ∷ 114 ∷ 114 ∷ 105 ∷ 118 ∷ 101 ∷ []) Arrive
    -- depart
    ∷ row (100 ∷ 101 ∷ 112 ∷ 97 ∷ 114 ∷ 116 ∷ []) Depart
    ∷ []

-- what the first of these rows asks for whose name passes the test; where none does, no request
unfoldable pub found : (List ℕ → Bool) → List Row → Result (Option Operation) Reason
found test [] = Err Request
found test (r ∷ rs) = cond (test r.name) (Ok r.asks) (found test rs)

-- whether two tokens have the same bytes
unfoldable pub same_bytes : List ℕ → List ℕ → Bool
same_bytes [] [] = true
same_bytes [] (y ∷ ys) = false
same_bytes (x ∷ xs) [] = false
same_bytes (x ∷ xs) (y ∷ ys) = eqb x y && same_bytes xs ys

-- what a token asks for
unfoldable pub asked_by : List ℕ → Result (Option Operation) Reason
asked_by token = found (same_bytes token) requests
