-- Section 5 read off the words of an accepted case: what the functions below the operation give. `proofs/Decodes.antt` ties each to the
-- definition over the decoded case.
-- Assumes nothing.
use Rattle.std.specs.Prelude.{◌≡◌, Bool, true, cond, ◌&&◌, List, ℕ, ◌<◌, ◌≤◌, ℤ, pos, negsuc, length, get_or, Option, None, Some}
use Rattle.std.specs.Option.{unwrap_or}
use Rattle.variants_and_fragments.specs.Layout.{pos0_at, genotype_at, allele_count_at, length_at}
use Rattle.haplotype_assembly.specs.GivenPhase.{sets_ok}
use Rattle.haplotype_assembly.specs.Phase.{flag_of, ordered_first, ordered_second, phased_test, is_phase, byte_of, pair_place, name_below, name_of_set}

unfoldable pub start_at : List ℤ → List ℕ → ℕ → ℕ
start_at w bytes =
    pair_place (λ v. ordered_first (byte_of bytes v) (genotype_at w v 0) (genotype_at w v 1))
    (λ v. ordered_second (byte_of bytes v) (genotype_at w v 0) (genotype_at w v 1))

unfoldable pub rule_at : List ℤ → ℕ → Bool
rule_at w v = phased_test (allele_count_at w v) (genotype_at w v 0) (genotype_at w v 1) (length_at w v 0) (length_at w v 1)

unfoldable pub phased_at : List ℤ → List ℕ → ℕ → Bool
phased_at w bytes v = rule_at w v && is_phase (byte_of bytes v)

unfoldable pub flags_at : List ℤ → List ℕ → ℕ → ℕ
flags_at w bytes v = flag_of (phased_at w bytes v)

unfoldable pub set_name_at : List ℤ → List ℤ → ℕ → ℕ → ℕ
set_name_at w sets n s = name_below (pos0_at w) sets s n

unfoldable pub phase_name_at : List ℤ → List ℕ → List ℤ → ℕ → ℕ → ℕ
phase_name_at w bytes sets n v = cond (is_phase (byte_of bytes v)) (name_of_set (set_name_at w sets n) (get_or sets v (pos 0))) 0

-- a set as a number, where it is one
abbrev pub set_of : ℤ → Option ℕ
set_of (pos t) = Some t
set_of (negsuc t) = None

-- what number 7 lets pass, of n variants
pub record Faultless (n : ℕ) (bytes : List ℕ) (sets : List ℤ) : Type 0 where
  pub bytes_long : length bytes ≡ n
  pub sets_long : length sets ≡ n
  pub all_sets_ok : (v : ℕ) → v < n → sets_ok n sets v ≡ true

-- the first n of these are the names of the sets 0..n−1, read over the variants below v
pub record NamedTo (w sets : List ℤ) (n v : ℕ) (least : List (Option ℕ)) : Type 0 where
  pub room : n ≤ length least
  pub names : (t : ℕ) → t < n → unwrap_or (get_or least t None) 0 ≡ set_name_at w sets v t
  pub some : (t name : ℕ) → t < n → get_or least t None ≡ Some name → 1 ≤ name
