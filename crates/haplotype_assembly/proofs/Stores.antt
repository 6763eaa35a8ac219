-- Stores one after the other in a slice.
-- Assumes nothing.
use mathlib.Core.Path.{◌≡◌, refl, sym, ap, ◌∙◌}
use mathlib.Core.List.{List, [], ◌∷◌, ◌++◌}
use Prim.Native.Nat.{ℕ, suc, ◌+◌}
use native.Mathlib.Omega.{arith}
use lib.ListN.{length, set, length-append}
use lib.Seq.{sets, length-sets}
use Rattle.haplotype_assembly.specs.Inner.LinesRead.{Put}

-- a list stored after another
pub sets_append : (l : List ℕ) (i : ℕ) (xs ys : List ℕ) → sets l i (xs ++ ys) ≡ sets (sets l i xs) (i + length xs) ys
sets_append l i [] ys = let e : i + 0 ≡ i = omega arith in rw e
sets_append l i (x ∷ xs) ys = let e : i + suc (length xs) ≡ suc i + length xs = omega arith in rw e (sets_append (set l i x) (suc i) xs ys)

-- ---- bytes put one after the other
pub put_none : (l : List ℕ) (at : ℕ) → Put l l at at []
put_none l at = record { stored = refl; end_is = omega arith }

pub put_one : (l : List ℕ) (at x : ℕ) → Put l (set l at x) at (at + 1) (x ∷ [])
put_one l at x = record { stored = refl; end_is = omega arith }

pub put_on : {l m n : List ℕ} {at end last : ℕ} {xs ys : List ℕ} → Put l m at end xs → Put m n end last ys → Put l n at last (xs ++ ys)
put_on {l} {m} {n} {at} {end} {last} {xs} {ys} p q = record {
  stored = q.stored ∙ rw (p.stored, p.end_is) (sym (sets_append l at xs ys));
  end_is = omega (arith, p.end_is, q.end_is, length-append xs ys);
}

pub put_as : {l m : List ℕ} {at end : ℕ} {xs ys : List ℕ} → xs ≡ ys → Put l m at end xs → Put l m at end ys
put_as e p = rw e at p

pub put_length : {l m : List ℕ} {at end : ℕ} {xs : List ℕ} → Put l m at end xs → length m ≡ length l
put_length {l} {m} {at} {end} {xs} p = ap length p.stored ∙ length-sets l at xs

pub put_end : {l m : List ℕ} {at end last : ℕ} {xs : List ℕ} → end ≡ last → Put l m at end xs → Put l m at last xs
put_end e p = rw e at p
