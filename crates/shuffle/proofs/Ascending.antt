-- Laws of `ascending`: its length, and one entry more, as a loop writes it. Assumes nothing.
use Rattle.std.proofs.Common.{◌≡◌, ℕ, zero, suc, ◌+◌, [], ◌∷◌, ◌++◌, length, refl, ◌∙◌, add-one, arith, length-append}
use Rattle.shuffle.specs.Orders.{ascending}

pub ascending_length : (n : ℕ) → length (ascending n) ≡ n
unfolding ascending
ascending_length zero = refl
ascending_length (suc n) = length-append (ascending n) (n ∷ []) ∙ omega (arith, ascending_length n)

pub ascending_more : (i : ℕ) → ascending (i + 1) ≡ ascending i ++ (i ∷ [])
unfolding ascending
ascending_more i = rw add-one refl
