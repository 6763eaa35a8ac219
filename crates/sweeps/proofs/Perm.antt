-- An order of a run is a permutation: none of its entries is out of range, and none stands there twice. Assumes nothing.
use mathlib.Core.Path.{refl}
use mathlib.Core.Bool.{not}
use mathlib.Core.List.{List, [], ◌∷◌}
use Prim.Native.Nat.{ℕ, ◌≤◌}
use native.Mathlib.Omega.{arith}
use lib.Dec.{T}
use Rattle.variants_and_fragments.proofs.Bools.{not_T, true_is, both}
use Rattle.shuffle.specs.Permutation.{Permutation, member, times, all_below, each_once, permutes}
use Rattle.shuffle.proofs.Permuted.{permutation_permutes}
use Rattle.shuffle.proofs.Times.{is_same, member_times, member_head, member_tail}
use Rattle.sweeps.specs.Inner.Incremental.{distinct}
use Rattle.sweeps.proofs.Basics.{and_in}

pub permutation_below : {n : ℕ} {vs : List ℕ} → Permutation n vs → T (all_below n vs)
unfolding permutes
permutation_below {n} {vs} p = true_is (all_below n vs) (both (all_below n vs) (each_once n vs) (permutation_permutes n vs p)).0

-- what stands once at most stands in no rest of the order again
once_distinct : (vs : List ℕ) → ((v : ℕ) → T (member v vs) → times v vs ≤ 1) → T (distinct vs)
unfolding distinct times
once_distinct [] h = tt
once_distinct (w ∷ ws) h =
    and_in (not (member w ws)) (distinct ws)
    (not_T (member w ws) (λ t. omega (arith, h w (member_head w ws), is_same w w refl, member_times w ws t)))
    (once_distinct ws (λ v t. omega (arith, h v (member_tail v w ws t))))

pub permutation_distinct : {n : ℕ} {vs : List ℕ} → Permutation n vs → T (distinct vs)
permutation_distinct {n} {vs} p = once_distinct vs (λ v t. omega (arith, p.once v (p.within v t)))
