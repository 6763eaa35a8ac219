-- Each allele's turn is −1, 0 or 1: a product with it is small, and two stores make them. Assumes nothing.
use mathlib.Core.Path.{◌≡◌, refl, ap, ◌∙◌}
use mathlib.Core.Bool.{Bool, true, false, cond}
use mathlib.Core.List.{List}
use Prim.Native.Nat.{ℕ, zero, suc, ◌*◌, ◌<◌, ◌≤◌}
use native.Mathlib.Omega.{arith}
use native.Mathlib.Decide.{ℕ_discrete}
use borrow.Author.Tests.{eq-eqb, ne_eqb}
use lib.Dec.{eqb}
use lib.ListN.{length, get_or, set, replicate, length-set}
use lib.Seq.{get_or-set_same, get_or-set_other}
use lib.IntN.{ℤ, pos, negsuc, nat_abs, neg_ℤ, ◌+ℤ◌, ◌-ℤ◌, ◌*ℤ◌, +ℤ_idr, zero-*ℤ, negsuc-*ℤ-pos, negsuc-*ℤ-negsuc}
use mir.Syntax.{w64}
use mir.Val.{to_z, of_z}
use Rattle.steps.proofs.Signed.{zlin, parts_times, neg_abs, read_small, add_abs, minus_abs}
use Rattle.call_genotypes.specs.Inner.Scores.{turn}
use Rattle.call_genotypes.proofs.Tables.{replicate_at}

-- ---- a product with a turn
pub times_one : (g : ℤ) → pos 1 *ℤ g ≡ g
times_one g = omega (zlin, parts_times 1 g)

pub times_minus : (g : ℤ) → negsuc 0 *ℤ g ≡ neg_ℤ g
times_minus (pos n) = let e : 1 * n ≡ n = omega arith in negsuc-*ℤ-pos 0 n ∙ rw e
times_minus (negsuc n) = let e : 1 * suc n ≡ suc n = omega arith in negsuc-*ℤ-negsuc 0 n ∙ rw e

pub times_size : (a g : ℤ) (n : ℕ) → nat_abs a ≤ 1 → nat_abs g ≤ n → nat_abs (a *ℤ g) ≤ n
times_size (pos zero) g n h k = rw (zero-*ℤ g) (omega arith)
times_size (pos (suc zero)) g n h k = rw (times_one g) k
times_size (pos (suc (suc m))) g n h k = absurd (omega arith)
times_size (negsuc zero) g n h k = rw (times_minus g, neg_abs g) k
times_size (negsuc (suc m)) g n h k = absurd (omega arith)

pub turn_small : (phased : Bool) (g0 g1 x : ℕ) → nat_abs (turn phased g0 g1 x) ≤ 1
unfolding turn
turn_small phased g0 g1 x = go phased (eqb x g1) (eqb x g0)
  where
    go : (s t u : Bool) → nat_abs (cond s (cond t (pos 1) (pos 0) -ℤ cond u (pos 1) (pos 0)) (pos 0)) ≤ 1
    go true true true = omega arith
    go true true false = omega arith
    go true false true = omega arith
    go true false false = omega arith
    go false t u = omega arith

-- ---- the turns, from the two stores
raised_at : (l : List ℤ) (i : ℕ) (y : ℤ) → i < length l → (x : ℕ) → get_or (set l i (get_or l i (pos 0) +ℤ y)) x (pos 0) ≡ get_or l x (pos 0) +ℤ cond (eqb x i) y (pos 0)
raised_at l i y h x = elim (ℕ_discrete x i) [
  | yes e ↦ rw (e, eq-eqb i i refl) (get_or-set_same l i (get_or l i (pos 0) +ℤ y) (pos 0) h)
  | no n ↦ rw (ne_eqb x i n, +ℤ_idr) (get_or-set_other l i x (get_or l i (pos 0) +ℤ y) (pos 0) n)
]

pub once_stored : (a0 : List ℤ) (g0 : ℕ) → a0 ≡ replicate 4 (pos 0) → g0 < 3 → (x : ℕ) → nat_abs (get_or (set a0 g0 (get_or a0 g0 (pos 0) -ℤ pos 1)) x (pos 0)) ≤ 1
once_stored a0 g0 e h x =
    let n0 : length a0 ≡ 4 = rw e in
    let z : get_or a0 x (pos 0) ≡ pos 0 = rw e (replicate_at (pos 0) 4 x) in
    rw (raised_at a0 g0 (negsuc 0) (omega arith) x, z) (go (eqb x g0))
  where
    go : (s : Bool) → nat_abs (pos 0 +ℤ cond s (negsuc 0) (pos 0)) ≤ 1
    go true = omega arith
    go false = omega arith

pub turns_made : (a0 a1 a2 : List ℤ) (g0 g1 : ℕ) → a0 ≡ replicate 4 (pos 0) → g0 < 3 → g1 < 3 → a1 ≡ set a0 g0 (get_or a0 g0 (pos 0) -ℤ pos 1) → a2 ≡ set a1 g1 (get_or a1 g1 (pos 0) +ℤ pos 1)
    → (x : ℕ) → get_or a2 x (pos 0) ≡ turn true g0 g1 x
unfolding turn
turns_made a0 a1 a2 g0 g1 e h l e1 e2 x =
    let n0 : length a0 ≡ 4 = rw e in
    let n1 : length a1 ≡ 4 = rw (e1, length-set) n0 in
    let r0 : get_or a1 x (pos 0) ≡ get_or a0 x (pos 0) +ℤ cond (eqb x g0) (negsuc 0) (pos 0) = rw e1 (raised_at a0 g0 (negsuc 0) (omega arith) x) in
    let r1 : get_or a2 x (pos 0) ≡ get_or a1 x (pos 0) +ℤ cond (eqb x g1) (pos 1) (pos 0) = rw e2 (raised_at a1 g1 (pos 1) (omega arith) x) in
    let z : get_or a0 x (pos 0) ≡ pos 0 = rw e (replicate_at (pos 0) 4 x) in
    rw (r1, r0, z) (go (eqb x g0) (eqb x g1))
  where
    go : (s t : Bool) → (pos 0 +ℤ cond s (negsuc 0) (pos 0)) +ℤ cond t (pos 1) (pos 0) ≡ cond t (pos 1) (pos 0) -ℤ cond s (pos 1) (pos 0)
    go true true = refl
    go true false = refl
    go false true = refl
    go false false = refl

pub no_turns : (a0 : List ℤ) (g0 g1 : ℕ) → a0 ≡ replicate 4 (pos 0) → (x : ℕ) → get_or a0 x (pos 0) ≡ turn false g0 g1 x
unfolding turn
no_turns a0 g0 g1 e x = rw e (replicate_at (pos 0) 4 x)

-- ---- the stores of the code, as they are read back
module _ (z : ℤ) (h : nat_abs z ≤ 1) where
  less_read : to_z w64 (of_z w64 (to_z w64 (of_z w64 z) -ℤ pos 1)) ≡ z -ℤ pos 1
  less_read = rw (read_small w64 z (omega arith)) (read_small w64 (z -ℤ pos 1) (omega (arith, minus_abs z (pos 1))))

  more_read : to_z w64 (of_z w64 (to_z w64 (of_z w64 z) +ℤ pos 1)) ≡ z +ℤ pos 1
  more_read = rw (read_small w64 z (omega arith)) (read_small w64 (z +ℤ pos 1) (omega (arith, add_abs z (pos 1))))

module _ (g0 g1 : ℕ) (h : g0 < 3) (k : g1 < 3) where
  abbrev zeros : List ℤ
  zeros = replicate 4 (pos 0)

  abbrev once : List ℤ
  once = set zeros g0 (to_z w64 (of_z w64 (to_z w64 (of_z w64 (get_or zeros g0 (pos 0))) -ℤ pos 1)))

  once_is : once ≡ set zeros g0 (get_or zeros g0 (pos 0) -ℤ pos 1)
  once_is = ap (set zeros g0) (less_read (get_or zeros g0 (pos 0)) (rw (replicate_at (pos 0) 4 g0) (omega arith)))

  pub turns_read : (x : ℕ) → get_or (set once g1 (to_z w64 (of_z w64 (to_z w64 (of_z w64 (get_or once g1 (pos 0))) +ℤ pos 1)))) x (pos 0) ≡ turn true g0 g1 x
  turns_read x =
      let s : nat_abs (get_or once g1 (pos 0)) ≤ 1 = rw once_is (once_stored zeros g0 refl h g1) in
      turns_made zeros once _ g0 g1 refl h k once_is (ap (set once g1) (more_read (get_or once g1 (pos 0)) s)) x
