-- A range of a word, said of the number that it is read as.
-- Assumes nothing.
use mathlib.Core.Path.{◌≡◌, refl, sym}
use mathlib.Core.Bool.{true, ◌&&◌, and-false}
use mathlib.Core.List.{List}
use Prim.Native.Nat.{ℕ, zero, suc, ◌+◌, ◌≤◌, ◌<◌}
use borrow.Author.Tests.{le-leb, lt-leb, le-ltb, ne_eqb, leb-true, ltb-true}
use native.Mathlib.Omega.{arith}
use lib.Dec.{leb, ltb, eqb, lit<}
use lib.IntN.{ℤ, pos, negsuc}
use lib.Signed.{le_z}
use Rattle.variants_and_fragments.specs.Words.{within, below, none, nat_of}
use Rattle.variants_and_fragments.specs.Layout.{max_allele_length, length_field, variant_word, allele_count_at, length_at, length_ok}
use Rattle.variants_and_fragments.specs.Inner.Layout.{length_test}
use Rattle.variants_and_fragments.proofs.Bools.{both, true_false}

pub within_nat : (lo hi : ℕ) (z : ℤ) → hi < none → within (pos lo) (pos hi) z ≡ (leb lo (nat_of z) && leb (nat_of z) hi)
unfolding within
within_nat lo hi (pos n) h = refl
within_nat lo hi (negsuc n) h = rw (lt-leb none hi h, and-false (leb lo none))

pub upto_nat : (hi : ℕ) (z : ℤ) → hi < none → within (pos 0) (pos hi) z ≡ leb (nat_of z) hi
upto_nat hi z h = rw (within_nat 0 hi z h, le-leb 0 (nat_of z) (omega arith))

pub below_nat : (k : ℕ) (z : ℤ) → k ≤ none → below k z ≡ ltb (nat_of z) k
unfolding below
below_nat k (pos n) h = rw (le-leb 0 n (omega arith))
below_nat k (negsuc n) h = sym (le-ltb none k h)

-- what a range that holds says
pub within_low : (lo : ℕ) (hi z : ℤ) → within (pos lo) hi z ≡ true → lo ≤ nat_of z
unfolding within
within_low lo hi (pos n) h = leb-true lo n (both (leb lo n) (le_z (pos n) hi) h).0
within_low lo hi (negsuc n) h = true_false h refl

pub within_top : (lo hi : ℕ) (z : ℤ) → within (pos lo) (pos hi) z ≡ true → nat_of z ≤ hi
unfolding within
within_top lo hi (pos n) h = leb-true n hi (both (leb lo n) (leb n hi) h).1
within_top lo hi (negsuc n) h = true_false h refl

pub below_less : (k : ℕ) (z : ℤ) → below k z ≡ true → nat_of z < k
unfolding below
below_less k (pos n) h = ltb-true n k (both (leb 0 n) (ltb n k) h).1
below_less k (negsuc n) h = true_false h refl

zero_nat : (z : ℤ) → within (pos 0) (pos 0) z ≡ eqb (nat_of z) 0
unfolding within
zero_nat (pos zero) = refl
zero_nat (pos (suc n)) = rw (lt-leb (suc n) 0 (omega arith), ne_eqb (suc n) 0 (λ e. omega arith), and-false (leb 0 (suc n)))
zero_nat (negsuc n) = refl

-- the length of an allele
pub length_nat : (w : List ℤ) (v j : ℕ) → length_ok w v j ≡ length_test j (allele_count_at w v) (length_at w v j)
length_nat w v j = rw (within_nat 1 max_allele_length (variant_word w v (length_field + j)) (lit< tt), zero_nat (variant_word w v (length_field + j)))
