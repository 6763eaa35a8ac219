-- The given phase of a small case, computed on the definitions: the byte orders every variant, also a homozygous one and an indel; a set's
-- name is read over all its variants, also those whose own byte is neither '0' nor '1'.
-- Assumes nothing.
use mathlib.Core.Path.{◌≡◌, refl}
use mathlib.Core.Bool.{true, false}
use mathlib.Core.List.{List, [], ◌∷◌, map}
use Prim.Native.Nat.{ℕ}
use lib.IntN.{ℤ, pos, negsuc}
use Rattle.variants_and_fragments.specs.Case.{Case, Variant}
use Rattle.variants_and_fragments.specs.Decode.{tabulate_from}
use Rattle.variants_and_fragments.specs.Refusals.{earlier}
use Rattle.haplotype_assembly.specs.Phase.{ordered_first, ordered_second, phased_test, phased_rule, phased, phased_flags, pair_place, start_allele, start_haplotypes, name_below, set_name, name_of_set, phase_name}

abbrev variant : ℕ → ℕ → ℕ → List ℕ → Variant
variant p a b other = record { pos0 = p; dp = 0; genotype0 = a; genotype1 = b; alleles = (65 ∷ []) ∷ other ∷ [] }

-- two SNVs, an indel, a homozygous SNV
abbrev small : Case
small = record {
  variants = variant 5 1 0 (71 ∷ []) ∷ variant 7 1 0 (71 ∷ []) ∷ variant 9 0 1 (71 ∷ 67 ∷ []) ∷ variant 11 1 1 (71 ∷ []) ∷ [];
  fragments = [];
  cutoff = pos 0;
}

-- 'x', '0', '1', '1'
abbrev bytes : List ℕ
bytes = 120 ∷ 48 ∷ 49 ∷ 49 ∷ []

-- 0, 0, none, 0
abbrev sets : List ℤ
sets = pos 0 ∷ pos 0 ∷ negsuc 0 ∷ pos 0 ∷ []

pub record Samples : Type 0 where
  pub haplotypes : start_haplotypes small bytes ≡ 1 ∷ 0 ∷ 0 ∷ 1 ∷ 1 ∷ 0 ∷ 1 ∷ 1 ∷ []
  pub flags : map (phased_flags small bytes) (0 ∷ 1 ∷ 2 ∷ 3 ∷ []) ≡ false ∷ true ∷ false ∷ false ∷ []
  pub names : map (phase_name small bytes sets) (0 ∷ 1 ∷ 2 ∷ 3 ∷ []) ≡ 0 ∷ 6 ∷ 0 ∷ 6 ∷ []

pub samples : Samples
unfolding start_haplotypes tabulate_from start_allele pair_place ordered_first ordered_second phased_flags phased phased_rule phased_test phase_name name_of_set set_name name_below earlier
samples = record { haplotypes = refl; flags = refl; names = refl }
