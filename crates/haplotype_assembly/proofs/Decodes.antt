-- What is read off the words of an accepted case is what section 5 says of the decoded case.
-- Assumes nothing.
use mathlib.Core.Path.{◌≡◌, refl, sym, ap, ◌∙◌}
use mathlib.Core.Bool.{false, cond}
use mathlib.Core.List.{List}
use Prim.Native.Nat.{ℕ, zero, suc, ◌*◌, ◌/◌, ◌<◌}
use native.Mathlib.Omega.{arith}
use native.Mathlib.Decide.{dec_lt}
use borrow.Author.Tests.{lt-leb}
use lib.IntN.{ℤ, pos, negsuc}
use lib.ListN.{length, get_or}
use Rattle.variants_and_fragments.specs.declared.Sizes.{Sizes}
use Rattle.variants_and_fragments.specs.Written.{written}
use Rattle.variants_and_fragments.specs.Refusals.{done}
use Rattle.variants_and_fragments.specs.Check.{check_case_outcome}
use Rattle.variants_and_fragments.specs.Layout.{allele_count_at}
use Rattle.variants_and_fragments.specs.Inner.Accepted.{CaseIn}
use Rattle.variants_and_fragments.specs.Case.{allele_count, allele_of, variant_of}
use Rattle.variants_and_fragments.specs.Decode.{decode}
use Rattle.variants_and_fragments.proofs.Written.{written_same}
use Rattle.haplotype_assembly.specs.Phase.{flag_of, phased_test, phased_rule, phased, phased_flags, byte_of, is_phase, pair_place, start_allele, name_below, set_name, name_of_set, phase_name}
use Rattle.haplotype_assembly.specs.Inner.PhaseRead.{start_at, rule_at, phased_at, flags_at, set_name_at, phase_name_at}
use Rattle.haplotype_assembly.proofs.Cited.{case_in, bases_in, variants_are, pos0_is, genotype0_is, genotype1_is, allele_count_is, allele_length}

-- ---- definitions over equal parts are equal
names_same : (p q : ℕ → ℕ) (sets : List ℤ) (s n : ℕ) → ((v : ℕ) → v < n → p v ≡ q v) → name_below p sets s n ≡ name_below q sets s n
unfolding name_below
names_same p q sets s zero h = refl
names_same p q sets s (suc n) h = rw (h n (omega arith), names_same p q sets s n (λ v k. h v (omega arith)))

name_same : (f g : ℕ → ℕ) (z : ℤ) → ((s : ℕ) → f s ≡ g s) → name_of_set f z ≡ name_of_set g z
unfolding name_of_set
name_same f g (pos s) h = h s
name_same f g (negsuc s) h = refl

few_alleles : (k a b l m : ℕ) → k < 2 → phased_test k a b l m ≡ false
unfolding phased_test
few_alleles k a b l m h = rw (lt-leb 2 k h)

module _ (w : List ℤ) (b : List ℕ) (s : Sizes) (h : check_case_outcome w b ≡ done s) where
  pub accepted_in : CaseIn w s
  accepted_in = case_in w b s h

  pub count_is : length (decode w b).variants ≡ s.n
  count_is = variants_are accepted_in b

  -- the phased rule without the byte
  pub rule_is : (v : ℕ) → v < s.n → rule_at w v ≡ phased_rule (variant_of (decode w b) v)
  unfolding rule_at phased_rule
  rule_is v l =
      let k = accepted_in in
      let e = allele_count_is k b v l in
      let x = variant_of (decode w b) v in
      elim (dec_lt (allele_count_at w v) 2) [
        | yes few ↦ few_alleles _ _ _ _ _ few ∙ sym (few_alleles (allele_count x) x.genotype0 x.genotype1 (length (allele_of x 0)) (length (allele_of x 1)) (omega arith))
        | no some ↦ rw (e, genotype0_is k b v l, genotype1_is k b v l, allele_length k b (bases_in w b s h) v 0 l (omega arith), allele_length k b (bases_in w b s h) v 1 l (omega arith))
      ]

  module _ (bytes : List ℕ) where
    pub start_is : (l : List ℕ) → written (start_at w bytes) (2 * s.n) l ≡ written (start_allele (decode w b) bytes) (2 * length (decode w b).variants) l
    unfolding start_at start_allele pair_place
    start_is l =
        let k = accepted_in in
        rw count_is (written_same _ _ (2 * s.n) l (λ i j. let m : i / 2 < s.n = omega arith in rw (genotype0_is k b (i / 2) m, genotype1_is k b (i / 2) m)))

    -- a variant is phased
    pub flag_is : (v : ℕ) → v < s.n → phased_at w bytes v ≡ phased_flags (decode w b) bytes v
    unfolding phased_at phased_flags phased
    flag_is v l = rw (rule_is v l)

    pub flags_are : (l : List ℕ) → written (flags_at w bytes) s.n l ≡ written (λ v. flag_of (phased_flags (decode w b) bytes v)) (length (decode w b).variants) l
    unfolding flags_at phased_at phased_flags phased
    flags_are l = rw count_is (written_same _ _ s.n l (λ v j. rw (rule_is v j)))

    module _ (sets : List ℤ) where
      set_name_is : (t : ℕ) → set_name_at w sets s.n t ≡ set_name (decode w b) sets t
      unfolding set_name_at set_name
      set_name_is t = rw count_is (names_same _ _ sets t s.n (λ v j. sym (pos0_is accepted_in b v j)))

      pub names_are : (l : List ℕ) → written (phase_name_at w bytes sets s.n) s.n l ≡ written (phase_name (decode w b) bytes sets) (length (decode w b).variants) l
      unfolding phase_name_at phase_name
      names_are l = rw count_is (written_same _ _ s.n l (λ v j. ap (λ (x : ℕ). cond (is_phase (byte_of bytes v)) x 0) (name_same _ _ (get_or sets v (pos 0)) set_name_is)))
