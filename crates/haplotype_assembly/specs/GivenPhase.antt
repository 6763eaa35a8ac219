-- 01, section 5 and the table of refusals: what the operation `given_phase` answers and writes.
-- Assumes nothing.
use Rattle.std.specs.Prelude.{Bool, true, ◌&&◌, List, [], ◌∷◌, ℕ, ◌*◌, ltb, eqb, ℤ, pos, negsuc, length, get_or}
use Rattle.variants_and_fragments.specs.Written.{written}
use Rattle.variants_and_fragments.specs.Refusals.{Outcome, done, unless, each, and_then, long_enough, Promise}
use Rattle.variants_and_fragments.specs.Check.{check_case_outcome}
use Rattle.variants_and_fragments.specs.Case.{Case}
use Rattle.variants_and_fragments.specs.Decode.{decode}
use Rattle.haplotype_assembly.specs.Phase.{flag_of, phased_flags, start_allele, phase_name}

-- ---- 7: a set ≥ N; phase bytes or sets not N long

-- below n, or negative
abbrev pub set_ok : ℕ → ℤ → Bool
set_ok n (pos s) = ltb s n
set_ok n (negsuc s) = true

unfoldable pub sets_ok : ℕ → List ℤ → ℕ → Bool
sets_ok n sets v = set_ok n (get_or sets v (pos 0))

-- refused at N for a wrong length, else at the first variant whose set is N or more; else what follows
unfoldable pub phase_tests : {X : Type 0} → ℕ → List ℕ → List ℤ → Outcome X → Outcome X
phase_tests n bytes sets rest =
    unless (eqb (length bytes) n && eqb (length sets) n) 7 n
    (each 7 (sets_ok n sets) 0 n
    rest)

-- ---- the operation

-- the lent slices
pub record PhaseSlices : Type 0 where
  pub haplotypes : List ℕ
  pub phased : List ℕ
  pub names : List ℕ

abbrev pub phase_slices : List ℕ → List ℕ → List ℕ → PhaseSlices
phase_slices haplotypes phased names = record { haplotypes = haplotypes; phased = phased; names = names }

-- 1 to 5, 7, and 10: haplotypes 2 N, phased N, names N
unfoldable pub given_phase_outcome : List ℤ → List ℕ → List ℕ → List ℤ → PhaseSlices → Outcome Unit
given_phase_outcome w b bytes sets before =
    and_then (check_case_outcome w b) (λ s.
    phase_tests s.n bytes sets
    (long_enough ((2 * s.n, length before.haplotypes) ∷ (s.n, length before.phased) ∷ (s.n, length before.names) ∷ [])
    (done tt)))

-- section 5: the start haplotypes, the phased flags and the set names of the case
unfoldable pub given_phase_written : Case → List ℕ → List ℤ → PhaseSlices → PhaseSlices
given_phase_written case bytes sets before =
    let n = length case.variants in
    phase_slices
    (written (start_allele case bytes) (2 * n) before.haplotypes)
    (written (λ v. flag_of (phased_flags case bytes v)) n before.phased)
    (written (phase_name case bytes sets) n before.names)

abbrev pub GivenPhase : List ℤ → List ℕ → List ℕ → List ℤ → PhaseSlices → Outcome Unit → PhaseSlices → Type 0
GivenPhase w b bytes sets before answer after =
    Promise (given_phase_outcome w b bytes sets before) (given_phase_written (decode w b) bytes sets before) before answer after
