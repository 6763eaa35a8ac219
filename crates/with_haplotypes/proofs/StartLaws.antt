-- The given phase of an accepted input, as it is written: section 5's haplotypes and phased variants, from which its run starts.
-- Assumes nothing.
use mathlib.Core.Path.{◌≡◌, sym, ap, ◌∙◌, subst}
use mathlib.Core.Bool.{cond}
use mathlib.Core.List.{List}
use Prim.Native.Nat.{ℕ, ◌*◌, ◌<◌, ◌≤◌}
use native.Mathlib.Omega.{arith}
use native.Mathlib.Decide.{dec_lt}
use lib.IntN.{ℤ}
use lib.ListN.{length, get_or, take}
use lib.Seq.{ext_get_or}
use Rattle.variants_and_fragments.specs.Written.{written}
use Rattle.variants_and_fragments.proofs.GoodCases.{good_case}
use Rattle.variants_and_fragments.proofs.Written.{written_at, written_length, written_past}
use Rattle.haplotype_assembly.specs.Phase.{flag_of}
use Rattle.haplotype_assembly.specs.Inner.PhaseRead.{start_at, flags_at}
use Rattle.haplotype_assembly.proofs.Decodes.{count_is, start_is, flag_is}
use Rattle.haplotype_assembly.proofs.Start.{start_length, start_written, start_first_below, start_second_below}
use Rattle.sweeps.specs.Inner.Sweeps.{GoodHaps}
use Rattle.likelihoods.specs.SweepCaseOf.{sweep_case_of}
use Rattle.call_genotypes.specs.Inner.Runs.{Plan}
use Rattle.call_genotypes.specs.Inner.Scores.{SweepState, sweep_state}
use Rattle.with_haplotypes.specs.declared.RoundAnswer.{RoundAnswer}
use Rattle.variants_and_fragments.specs.declared.Sizes.{Sizes}
use Rattle.with_haplotypes.specs.Round.{run_input, RoundInput, case_of_round, run_of, sweep_case}
use Rattle.with_haplotypes.specs.Inner.Steps.{Admitted, StateGiven, PhasedGiven, RunMade}

-- a written slice is as long as it was
pub as_long : {X : Type 0} (g : ℕ → X) (n : ℕ) (l l' : List X) → l' ≡ written g n l → length l' ≡ length l
as_long g n l l' e = ap length e ∙ written_length g n l

pub still_long : {X : Type 0} (g : ℕ → X) (n : ℕ) (l l' : List X) (m : ℕ) → l' ≡ written g n l → m ≤ length l → m ≤ length l'
still_long g n l l' m e h = omega (arith, as_long g n l l' e)

module _ {input : RoundInput} {s : Sizes} {plan : Plan} (A : Admitted input s plan) where
  -- the front of the haplotypes, as they are written, are section 5's
  pub start_here : (hap₀ hap : List ℕ) (a : ℕ) → a ≡ 2 * s.n → 2 * s.n ≤ length hap₀ → hap ≡ written (start_at input.words input.phase) (2 * s.n) hap₀ → take a hap ≡ (run_of input).start
  start_here hap₀ hap a q l e =
      let D = case_of_round input in
      let n = count_is input.words input.bases s A.given.accepted in
      let m : a ≡ 2 * length D.variants = omega arith in
      rw m (ap (take (2 * length D.variants)) (e ∙ start_is input.words input.bases s A.given.accepted input.phase hap₀) ∙ start_written D input.phase hap₀ (omega arith))

  pub flags_here : (ph₀ ph : List ℕ) → s.n ≤ length ph₀ → ph ≡ written (flags_at input.words input.phase) s.n ph₀
      → (v : ℕ) → v < s.n → get_or ph v 0 ≡ cond ((run_of input).phased v) 1 0
  unfolding flags_at
  flags_here ph₀ ph l e v h =
      ap (λ (x : List ℕ). get_or x v 0) e
      ∙ written_at (flags_at input.words input.phase) s.n ph₀ 0 l v h
      ∙ ap flag_of (flag_is input.words input.bases s A.given.accepted input.phase v h)

  pub start_good : GoodHaps (sweep_case (run_of input)) (run_of input).start
  unfolding sweep_case sweep_case_of
  start_good =
      let D = case_of_round input in
      let g = good_case input.words input.bases s A.given.accepted in
      record {
        len = start_length D input.phase;
        low = λ v h. start_first_below D input.phase v h g;
        high = λ v h. start_second_below D input.phase v h g;
      }

  -- what the run changes
  pub state_here : {hap : List ℕ} {lik post : List ℤ} → hap ≡ (run_of input).start → length lik ≡ 2 * s.f → 9 * s.n ≤ length post
      → StateGiven (sweep_case (run_input input.words input.bases input.rates (run_of input).phased hap input.orders plan.limit)) s (sweep_state hap lik post)
  unfolding sweep_case
  state_here e q r = record { good_start = rw e start_good; liks_long = q; post_long = r }

  -- what it starts from: these flags say section 5's phased variants
  pub phased_here : {ph hap : List ℕ} {lik post : List ℤ} → ((v : ℕ) → v < s.n → get_or ph v 0 ≡ cond ((run_of input).phased v) 1 0)
      → hap ≡ (run_of input).start → length lik ≡ 2 * s.f → 9 * s.n ≤ length post
      → PhasedGiven input.words input.bases input.rates s plan ph input.orders (sweep_state hap lik post) (run_of input).phased
  phased_here f e q r = record { ph_are = f; state_given = state_here e q r }

  -- the run from the haplotypes that stand is the round's
  pub run_here : {before after : SweepState} {r : RoundAnswer} → before.hap ≡ (run_of input).start
      → RunMade (run_input input.words input.bases input.rates (run_of input).phased before.hap input.orders plan.limit) before after r
      → RunMade (run_input input.words input.bases input.rates (run_of input).phased (run_of input).start input.orders plan.limit) before after r
  run_here {before} {after} {r} e R =
      subst (λ (h : List ℕ). RunMade (run_input input.words input.bases input.rates (run_of input).phased h input.orders plan.limit) before after r) e R

-- what is written over what was written there before
written_over : {X : Type 0} (d : X) (g h : ℕ → X) (n : ℕ) (l : List X) → n ≤ length l → written g n (written h n l) ≡ written g n l
written_over d g h n l room =
    let long = written_length h n l in
    ext_get_or d (written g n (written h n l)) (written g n l) (written_length g n (written h n l) ∙ long ∙ sym (written_length g n l)) (λ i k.
    elim (dec_lt i n) [
      | yes q ↦ written_at g n (written h n l) d (omega arith) i q ∙ sym (written_at g n l d room i q)
      | no q ↦ written_past g n (written h n l) d i (omega arith) ∙ written_past h n l d i (omega arith) ∙ sym (written_past g n l d i (omega arith))
    ])

pub over : {X : Type 0} (g h : ℕ → X) (n : ℕ) (l l' : List X) (d : X) → l' ≡ written h n l → n ≤ length l → written g n l' ≡ written g n l
over g h n l l' d e room = ap (written g n) e ∙ written_over d g h n l room

-- what is written stands
pub stands : {X : Type 0} (g : ℕ → X) (n : ℕ) (l l' : List X) (d : X) → l' ≡ written g n l → n ≤ length l → l' ≡ written g n l'
stands g n l l' d e room = e ∙ sym (over g g n l l' d e room)
