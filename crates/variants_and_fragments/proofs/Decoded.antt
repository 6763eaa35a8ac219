-- The decoded case, item by item: each variant, allele byte, fragment and call is what the words and bytes of an accepted case hold.
-- Assumes nothing.
use mathlib.Core.Path.{◌≡◌, refl, sym, ap, ◌∙◌, subst}
use mathlib.Core.List.{List, []}
use Prim.Native.Nat.{ℕ, zero, suc, ◌+◌, ◌≤◌, ◌<◌}
use native.Mathlib.Omega.{arith}
use native.Mathlib.Nat.{add-zero, add-suc, suc-add}
use lib.IntN.{ℤ, pos, negsuc, neg_ℤ}
use lib.ListN.{length, get_or, length-drop}
use lib.Seq.{length-take-le, get_or-take, get_or-drop}
use Rattle.variants_and_fragments.specs.declared.Sizes.{Sizes}
use Rattle.variants_and_fragments.specs.Case.{Variant, Fragment, allele_count, allele_of, variant_of, fragment_of, no_variant, no_fragment}
use Rattle.variants_and_fragments.specs.Words.{none}
use Rattle.variants_and_fragments.specs.Inner.Words.{debt_of}
use Rattle.variants_and_fragments.specs.Layout.{sizes_of, pos0_at, depth_at, genotype_at, allele_count_at, length_at, cutoff_at}
use Rattle.variants_and_fragments.specs.Chain.{strand_at}
use Rattle.variants_and_fragments.specs.Alleles.{alleles_length, alleles_start}
use Rattle.variants_and_fragments.proofs.AlleleBytes.{off_on, off_le}
use Rattle.variants_and_fragments.proofs.Tabulated.{table_length}
use Rattle.variants_and_fragments.specs.Inner.Accepted.{CaseIn, BasesIn}
use Rattle.variants_and_fragments.specs.Decode.{tabulate_from, tabulate, allele_start, allele_at, variant_from, fragment_from, decode}

from_at : {X : Type 0} (g : ℕ → X) (i n k : ℕ) (d : X) → k < n → get_or (tabulate_from g i n) k d ≡ g (i + k)
unfolding tabulate_from
from_at g i zero k d h = absurd (omega arith)
from_at g i (suc n) zero d h = ap g (sym (add-zero i))
from_at g i (suc n) (suc k) d h = from_at g (suc i) n k d (omega arith) ∙ ap g (suc-add i k ∙ sym (add-suc i k))

pub tabulate_length : {X : Type 0} (n : ℕ) (g : ℕ → X) → length (tabulate n g) ≡ n
tabulate_length n g = table_length g 0 n

pub tabulate_at : {X : Type 0} (n : ℕ) (g : ℕ → X) (k : ℕ) (d : X) → k < n → get_or (tabulate n g) k d ≡ g k
tabulate_at n g k d h = let e : 0 + k ≡ k = omega arith in from_at g 0 n k d h ∙ ap g e

pub variant_count : (w : List ℤ) (b : List ℕ) → length (decode w b).variants ≡ (sizes_of w).n
unfolding decode
variant_count w b = tabulate_length _ _

pub fragment_count : (w : List ℤ) (b : List ℕ) → length (decode w b).fragments ≡ (sizes_of w).f
unfolding decode
fragment_count w b = tabulate_length _ _

pub variant_is : (w : List ℤ) (b : List ℕ) (v : ℕ) → v < (sizes_of w).n → variant_of (decode w b) v ≡ variant_from w b v
unfolding decode
variant_is w b v h = tabulate_at _ _ v no_variant h

pub fragment_is : (w : List ℤ) (b : List ℕ) (f : ℕ) → f < (sizes_of w).f → fragment_of (decode w b) f ≡ fragment_from w (sizes_of w) f
unfolding decode
fragment_is w b f h = tabulate_at _ _ f no_fragment h

-- ---- a word that is not above 0 is 0 less how far it lies below 0
pub debt_is : (x : ℤ) → debt_of x < none → x ≡ neg_ℤ (pos (debt_of x))
debt_is (pos zero) h = refl
debt_is (pos (suc n)) h = absurd (omega arith)
debt_is (negsuc n) h = refl

-- ---- the items of an accepted case
pub cutoff_is : (w : List ℤ) (b : List ℕ) → (decode w b).cutoff ≡ cutoff_at w
unfolding decode
cutoff_is w b = refl

-- an allele's bytes are among its variant's
allele_within : (w : List ℤ) (v j : ℕ) → j < 3 → allele_start w v j + length_at w v j ≤ alleles_start w v + alleles_length w v
unfolding allele_start
allele_within w v zero h = omega arith
allele_within w v (suc zero) h = omega arith
allele_within w v (suc (suc zero)) h = omega arith
allele_within w v (suc (suc (suc j))) h = absurd (omega arith)

module _ {w : List ℤ} {s : Sizes} (k : CaseIn w s) where
  pub sizes_are : sizes_of w ≡ s
  sizes_are = sym k.shape

module _ {w : List ℤ} {s : Sizes} (k : CaseIn w s) (b : List ℕ) where
  pub variants_are : length (decode w b).variants ≡ s.n
  variants_are = variant_count w b ∙ ap (λ (t : Sizes). t.n) (sizes_are k)

  pub fragments_are : length (decode w b).fragments ≡ s.f
  fragments_are = fragment_count w b ∙ ap (λ (t : Sizes). t.f) (sizes_are k)

  pub variant_here : (v : ℕ) → v < s.n → variant_of (decode w b) v ≡ variant_from w b v
  variant_here v h = variant_is w b v (subst (λ (t : Sizes). v < t.n) k.shape h)

  pub fragment_here : (f : ℕ) → f < s.f → fragment_of (decode w b) f ≡ fragment_from w s f
  fragment_here f h = fragment_is w b f (subst (λ (t : Sizes). f < t.f) k.shape h) ∙ ap (λ (t : Sizes). fragment_from w t f) (sizes_are k)

  pub fragments_list : (decode w b).fragments ≡ tabulate s.f (fragment_from w s)
  unfolding decode
  fragments_list = ap (λ (t : Sizes). tabulate t.f (fragment_from w t)) (sizes_are k)

  pub pos0_is : (v : ℕ) → v < s.n → (variant_of (decode w b) v).pos0 ≡ pos0_at w v
  unfolding variant_from
  pos0_is v h = ap (λ (x : Variant). x.pos0) (variant_here v h)

  pub dp_is : (v : ℕ) → v < s.n → (variant_of (decode w b) v).dp ≡ depth_at w v
  unfolding variant_from
  dp_is v h = ap (λ (x : Variant). x.dp) (variant_here v h)

  pub genotype0_is : (v : ℕ) → v < s.n → (variant_of (decode w b) v).genotype0 ≡ genotype_at w v 0
  unfolding variant_from
  genotype0_is v h = ap (λ (x : Variant). x.genotype0) (variant_here v h)

  pub genotype1_is : (v : ℕ) → v < s.n → (variant_of (decode w b) v).genotype1 ≡ genotype_at w v 1
  unfolding variant_from
  genotype1_is v h = ap (λ (x : Variant). x.genotype1) (variant_here v h)

  pub strand_is : (f : ℕ) → f < s.f → (fragment_of (decode w b) f).strand ≡ strand_at w s f
  unfolding fragment_from
  strand_is f h = ap (λ (x : Fragment). x.strand) (fragment_here f h)

  pub allele_count_is : (v : ℕ) → v < s.n → allele_count (variant_of (decode w b) v) ≡ allele_count_at w v
  unfolding variant_from
  allele_count_is v h = ap allele_count (variant_here v h) ∙ tabulate_length _ _

  pub allele_is : (v j : ℕ) → v < s.n → j < allele_count_at w v → allele_of (variant_of (decode w b) v) j ≡ allele_at w b v j
  unfolding variant_from
  allele_is v j h l = ap (λ (x : Variant). allele_of x j) (variant_here v h) ∙ tabulate_at _ _ j [] l

  -- the bytes of an allele lie within the slice
  module _ (i : BasesIn w s b) (v j : ℕ) (h : v < s.n) (l : j < allele_count_at w v) where
    allele_three : j < 3
    allele_three = omega (arith, (k.variants.each v h).k_high)

    pub allele_end : allele_start w v j + length_at w v j ≤ length b
    allele_end = omega (arith, allele_within w v j allele_three, off_on w v, off_le w (v + 1) s.n (omega arith), i.size)

    pub allele_length : length (allele_of (variant_of (decode w b) v) j) ≡ length_at w v j
    unfolding allele_at
    allele_length = ap length (allele_is v j h l) ∙ length-take-le (length_at w v j) _ (rw (length-drop (allele_start w v j) b) (omega (arith, allele_end)))

    pub allele_byte : (m : ℕ) → m < length_at w v j → get_or (allele_of (variant_of (decode w b) v) j) m 0 ≡ get_or b (allele_start w v j + m) 0
    unfolding allele_at
    allele_byte m q = ap (λ (x : List ℕ). get_or x m 0) (allele_is v j h l) ∙ get_or-take (length_at w v j) _ m 0 q ∙ get_or-drop (allele_start w v j) b m 0
