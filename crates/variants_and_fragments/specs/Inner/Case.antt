-- What an accepted case has: each allele, variant, call and fragment in its ranges, and rising calls. Assumes nothing.
use Rattle.std.specs.Prelude.{◌≡◌, Bool, true, false, ◌&&◌, List, [], ◌∷◌, ℕ, suc, ◌≤◌, ◌<◌, leb, length, get_or}
use Rattle.variants_and_fragments.specs.Alleles.{is_base}
use Rattle.variants_and_fragments.specs.Inner.Sums.{DownTo}
use Rattle.variants_and_fragments.specs.Case.{Variant, Call, Fragment, Case, allele_count, no_variant, variant_of, allele_of, call_count}

-- variants rise strictly along calls, from b on
unfoldable pub rising_from : ℕ → List Call → Bool
rising_from b [] = true
rising_from b (call ∷ calls) = leb b call.variant && rising_from (suc call.variant) calls

abbrev pub rising : List Call → Bool
rising calls = rising_from 0 calls

-- P holds of every element of a list
pub data All {X : Type 0} (P : X → Type 0) : List X → Type 0 where
  end : All P []
  also : {x : X} {xs : List X} → P x → All P xs → All P (x ∷ xs)

-- an allele: 1..64 bases, each A, C, G or T
pub record GoodAllele (allele : List ℕ) : Type 0 where
  pub some_base : 1 ≤ length allele
  pub bases_top : length allele ≤ 64
  pub acgt : (i : ℕ) → i < length allele → is_base (get_or allele i 0) ≡ true

pub record GoodVariant (variant : Variant) : Type 0 where
  -- allele count k (1..3)
  pub some_allele : 1 ≤ allele_count variant
  pub three_alleles : allele_count variant ≤ 3
  -- genotype a, b, each in 0..k−1
  pub genotype0_in : variant.genotype0 < allele_count variant
  pub genotype1_in : variant.genotype1 < allele_count variant
  pub alleles_in : (j : ℕ) → j < allele_count variant → GoodAllele (allele_of variant j)

-- a call, among these variants
pub record GoodCall (variants : List Variant) (call : Call) : Type 0 where
  pub variant_in : call.variant < length variants
  -- an allele below its variant's k
  pub allele_in : call.allele < allele_count (get_or variants call.variant no_variant)
  -- both qualities are in −262144..0
  pub qual_in : DownTo 262144 call.qual
  pub one_minus_qual_in : DownTo 262144 call.one_minus_qual

-- a fragment, among these variants
pub record GoodFragment (variants : List Variant) (fragment : Fragment) : Type 0 where
  -- an absent one has no calls
  pub absent : fragment.present ≡ false → fragment.calls ≡ []
  -- strand (0..3)
  pub strand_in : fragment.strand ≤ 3
  pub calls_in : All (GoodCall variants) fragment.calls
  -- variants rise strictly along a chain
  pub rises : rising fragment.calls ≡ true

-- what every accepted case is, in these terms
pub record GoodCase (case : Case) : Type 0 where
  -- N (0..1024), F (0..4096), and each call is one of C records (0..16384)
  pub variants_top : length case.variants ≤ 1024
  pub fragments_top : length case.fragments ≤ 4096
  pub calls_top : call_count case ≤ 16384
  -- cutoff (−262144..0)
  pub cutoff_in : DownTo 262144 case.cutoff
  pub variants_in : (v : ℕ) → v < length case.variants → GoodVariant (variant_of case v)
  -- pos0 not falling
  pub pos0_rises : (v : ℕ) → suc v < length case.variants → (variant_of case v).pos0 ≤ (variant_of case (suc v)).pos0
  pub fragments_in : All (GoodFragment case.variants) case.fragments
