-- Number 7: what is asked after it, what holds past it, and its ways out. Then what `given_phase` writes.
-- Assumes nothing.
use mathlib.Core.Path.{◌≡◌, refl, sym, ap, ◌∙◌}
use mathlib.Core.Bool.{Bool, true, false, ◌&&◌}
use mathlib.Core.Logic.{◌⊎◌, inl, inr}
use mathlib.Core.List.{List}
use Prim.Native.Nat.{ℕ, ◌*◌, ◌<◌}
use native.Mathlib.Omega.{arith}
use borrow.Author.Tests.{eq-eqb, ne_eqb, eqb-true}
use lib.Dec.{eqb}
use lib.IntN.{ℤ}
use lib.ListN.{length}
use Rattle.variants_and_fragments.specs.declared.Sizes.{Sizes}
use Rattle.variants_and_fragments.specs.declared.Refusal.{Refusal}
use Rattle.variants_and_fragments.specs.First.{first_fail}
use Rattle.variants_and_fragments.specs.Written.{written}
use Rattle.variants_and_fragments.specs.Refusals.{Outcome, refused, done, refusal, number, place, unless, each}
use Rattle.variants_and_fragments.specs.Check.{check_case_outcome}
use Rattle.variants_and_fragments.specs.Decode.{decode}
use Rattle.variants_and_fragments.proofs.Bools.{both}
use Rattle.variants_and_fragments.proofs.Outcomes.{unless_on, unless_at, unless_past, not_done, each_on, each_at, each_past, each_stops, each_passes}
use Rattle.haplotype_assembly.specs.GivenPhase.{sets_ok, phase_tests, PhaseSlices, phase_slices, given_phase_written}
use Rattle.haplotype_assembly.specs.Inner.PhaseRead.{start_at, flags_at, phase_name_at, Faultless}
use Rattle.haplotype_assembly.proofs.Cited.{first_at, first_end, first_all}
use Rattle.haplotype_assembly.proofs.Decodes.{start_is, flags_are, names_are}

-- ---- what is asked after number 7 matters only where it passes
module _ {X : Type 0} (n : ℕ) (bytes : List ℕ) (sets : List ℤ) (rest : Outcome X) where
  pub phase_stops : (x : Refusal) → refusal x ≡ phase_tests {X = Unit {0}} n bytes sets (done tt) → refusal x ≡ phase_tests n bytes sets rest
  unfolding phase_tests unless
  phase_stops x e = go (eqb (length bytes) n && eqb (length sets) n) e
    where
      go : (long : Bool) → ◌≡◌ {A = Outcome Unit} (refusal x) (unless long 7 n (each 7 (sets_ok n sets) 0 n (done tt))) → ◌≡◌ {A = Outcome X} (refusal x) (unless long 7 n (each 7 (sets_ok n sets) 0 n rest))
      go true e = each_stops 7 (sets_ok n sets) 0 n rest x e
      go false e = let k : number x ≡ 7 = cc in let p : place x ≡ n = cc in rw (k, p) refl

  pub phase_passes : ◌≡◌ {A = Outcome Unit} (done tt) (phase_tests n bytes sets (done tt)) → rest ≡ phase_tests n bytes sets rest
  unfolding phase_tests unless
  phase_passes e = go (eqb (length bytes) n && eqb (length sets) n) e
    where
      go : (long : Bool) → ◌≡◌ {A = Outcome Unit} (done tt) (unless long 7 n (each 7 (sets_ok n sets) 0 n (done tt))) → ◌≡◌ {A = Outcome X} rest (unless long 7 n (each 7 (sets_ok n sets) 0 n rest))
      go true e = each_passes 7 (sets_ok n sets) 0 n rest e
      go false e = absurd (not_done (sym e))

  pub phase_past : (x : X) → phase_tests n bytes sets rest ≡ done x → Faultless n bytes sets × (rest ≡ done x)
  unfolding phase_tests first_fail
  phase_past x h =
      let p = unless_past _ 7 n _ x h in
      let q = both (eqb (length bytes) n) (eqb (length sets) n) p.0 in
      let k = each_past 7 (sets_ok n sets) 0 n rest x p.1 in
      (record { bytes_long = eqb-true _ _ q.0; sets_long = eqb-true _ _ q.1; all_sets_ok = first_all (sets_ok n sets) n (omega (arith, k.0)) }, k.1)

pub faultless : (n : ℕ) (bytes : List ℕ) (sets : List ℤ) → ◌≡◌ {A = Outcome Unit} (done tt) (phase_tests n bytes sets (done tt)) → Faultless n bytes sets
faultless n bytes sets e = (phase_past n bytes sets (done tt) tt (sym e)).0

-- ---- the ways out of number 7
module _ (n : ℕ) (bytes : List ℕ) (sets : List ℤ) where
  pub phase_length : (length bytes ≡ n → ⊥) ⊎ (length bytes ≡ n × (length sets ≡ n → ⊥)) → refused 7 n ≡ phase_tests {X = Unit {0}} n bytes sets (done tt)
  unfolding phase_tests
  phase_length (inl d) = unless_at _ 7 n _ (simp (ne_eqb (length bytes) n d))
  phase_length (inr d) = unless_at _ 7 n _ (simp (eq-eqb (length bytes) n d.0, ne_eqb (length sets) n d.1))

  module _ (b : length bytes ≡ n) (s : length sets ≡ n) where
    -- the first set that is not right
    pub phase_first : (v : ℕ) → v < n → v ≡ first_fail (sets_ok n sets) n → refused 7 v ≡ phase_tests {X = Unit {0}} n bytes sets (done tt)
    unfolding phase_tests first_fail
    phase_first v l e = ap (refused 7) e ∙ each_at 7 (sets_ok n sets) 0 n (done tt) (omega arith) ∙ unless_on _ 7 n _ (simp (eq-eqb _ _ b, eq-eqb _ _ s))

    pub phase_at : (v : ℕ) → v < n → ((j : ℕ) → j < v → sets_ok n sets j ≡ true) → sets_ok n sets v ≡ false → refused 7 v ≡ phase_tests {X = Unit {0}} n bytes sets (done tt)
    phase_at v l good bad = phase_first v l (first_at (sets_ok n sets) n v good l bad)

    -- where each is right
    pub phase_none : first_fail (sets_ok n sets) n ≡ n → ◌≡◌ {A = Outcome Unit} (done tt) (phase_tests n bytes sets (done tt))
    unfolding phase_tests first_fail
    phase_none e = each_on 7 (sets_ok n sets) 0 n (done tt) (omega arith) ∙ unless_on _ 7 n _ (simp (eq-eqb _ _ b, eq-eqb _ _ s))

    pub phase_end : ((j : ℕ) → j < n → sets_ok n sets j ≡ true) → ◌≡◌ {A = Outcome Unit} (done tt) (phase_tests n bytes sets (done tt))
    phase_end good = phase_none (sym (first_end (sets_ok n sets) n n good refl))

-- ---- what is written, of an accepted case
pub phase_written : (w : List ℤ) (b : List ℕ) (s : Sizes) → check_case_outcome w b ≡ done s → (bytes : List ℕ) (sets : List ℤ) (before : PhaseSlices) (haplotypes phased names : List ℕ)
    → haplotypes ≡ written (start_at w bytes) (2 * s.n) before.haplotypes → phased ≡ written (flags_at w bytes) s.n before.phased → names ≡ written (phase_name_at w bytes sets s.n) s.n before.names
    → phase_slices haplotypes phased names ≡ given_phase_written (decode w b) bytes sets before
unfolding given_phase_written
phase_written w b s e bytes sets before haplotypes phased names x y z =
    rw (x ∙ start_is w b s e bytes before.haplotypes, y ∙ flags_are w b s e bytes before.phased, z ∙ names_are w b s e bytes sets before.names)
