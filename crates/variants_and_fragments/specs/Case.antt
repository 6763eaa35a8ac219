-- 01, section 2, as amended by requests 1 and 5: a case, free of its layout. Sections 3 to 7 are definitions over this record.
-- Assumes nothing.
use Rattle.std.specs.Prelude.{Bool, false, ◌&&◌, List, [], ℕ, ◌%◌, ltb, ℤ, length, get_or}
use Rattle.std.specs.Int.Signed.{lt_z}
use Rattle.variants_and_fragments.specs.Sums.{count_over}

-- a variant: its position, its depth, its genotype and the bases of each allele, the reference first
pub record Variant : Type 0 where
  pub pos0 : ℕ
  pub dp : ℕ
  pub genotype0 : ℕ
  pub genotype1 : ℕ
  pub alleles : List (List ℕ)

-- a call of a fragment at a variant: the allele it shows, and the log probabilities that this is wrong and right
pub record Call : Type 0 where
  pub variant : ℕ
  pub allele : ℕ
  pub qual : ℤ
  pub one_minus_qual : ℤ

-- a fragment: whether it is present, its strand (0 forward, 1 reverse, 2 muted forward, 3 muted reverse) and its calls by rising variant; an
-- absent one has no calls
pub record Fragment : Type 0 where
  pub present : Bool
  pub strand : ℕ
  pub calls : List Call

pub record Case : Type 0 where
  pub variants : List Variant
  pub fragments : List Fragment
  pub cutoff : ℤ

-- the number k of a variant's alleles
abbrev pub allele_count : Variant → ℕ
allele_count variant = length variant.alleles

-- request 5: a fragment of this strand votes; a muted one stays on file and does not
abbrev pub votes : ℕ → Bool
votes strand = ltb strand 2

-- its direction, 0 forward or 1 reverse, muted or not: the strand's parity
abbrev pub direction : ℕ → ℕ
direction strand = strand % 2

-- a call is usable when its quality is below the cutoff and its fragment votes; equality is ambiguous, and so is every call of a muted fragment
unfoldable pub usable : ℤ → Fragment → Call → Bool
usable cutoff fragment call = lt_z call.qual cutoff && votes fragment.strand

-- what stands past the end of a list of variants or fragments; nothing reads it
abbrev pub no_variant : Variant
no_variant = record { pos0 = 0; dp = 0; genotype0 = 0; genotype1 = 0; alleles = [] }

abbrev pub no_fragment : Fragment
no_fragment = record { present = false; strand = 0; calls = [] }

abbrev pub variant_of : Case → ℕ → Variant
variant_of case v = get_or case.variants v no_variant

abbrev pub fragment_of : Case → ℕ → Fragment
fragment_of case f = get_or case.fragments f no_fragment

-- the bases of allele j
abbrev pub allele_of : Variant → ℕ → List ℕ
allele_of variant j = get_or variant.alleles j []

-- the number of calls of all fragments together
abbrev pub call_count : Case → ℕ
call_count case = count_over case.fragments (λ fragment. length fragment.calls)
