-- `Reader::token` meets its contract and ends: what is read so far is what some bytes push onto `empty`. The measure is how many
-- bytes may still be read. Assumes nothing.
use Rattle.std.proofs.Common.{◌≡◌, ℕ, List}
use Rattle.std.specs.List.{FoldsTo}
use Rattle.protocol.proofs.input.Reader.token.Given as goal

abbrev pub invariant-loop-next : goal.invariant-loop-next
invariant-loop-next g l =
    (l.self.place.token ≡ l.fn.token) × ((bytes : List ℕ) × FoldsTo (λ x b y. goal.F-post g l.push x b y) l.fn.empty bytes l.read)

abbrev pub decreases-loop-next : goal.decreases-loop-next
decreases-loop-next g l = l.self.input.left
