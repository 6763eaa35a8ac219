-- The values in terms of the words are those of the decoded case: the cutoff, the number of variants and the fragment are the same, and the phased
-- rule is asked only at variants of the case.
-- Assumes nothing.
use mathlib.Core.Path.{◌≡◌, refl, sym}
use mathlib.Core.Bool.{Bool, true}
use mathlib.Core.List.{List, [], ◌∷◌}
use Prim.Native.Nat.{ℕ, ◌+◌, ◌*◌, ◌<◌}
use lib.IntN.{ℤ}
use lib.ListN.{get_or}
use Rattle.variants_and_fragments.specs.declared.Sizes.{Sizes}
use Rattle.variants_and_fragments.specs.Case.{Fragment, Call, usable}
use Rattle.variants_and_fragments.specs.Decode.{decode}
use Rattle.variants_and_fragments.specs.Layout.{cutoff_at}
use Rattle.variants_and_fragments.specs.Pileup.{usable_calls}
use Rattle.variants_and_fragments.specs.Refusals.{done}
use Rattle.variants_and_fragments.specs.Inner.Case.{All, end, also}
use Rattle.variants_and_fragments.proofs.Accepted.{checked_case}
use Rattle.variants_and_fragments.proofs.Alls.{all_tabulate}
use Rattle.variants_and_fragments.proofs.Bools.{both}
use Rattle.variants_and_fragments.proofs.Decoded.{cutoff_is, variants_are, fragment_here}
use Rattle.variants_and_fragments.proofs.Only.{only_all}
use Rattle.variants_and_fragments.proofs.Ranges.{below_less}
use Rattle.haplotype_assembly.specs.Phase.{phased_flags}
use Rattle.haplotype_assembly.specs.Inner.PhaseRead.{phased_at}
use Rattle.haplotype_assembly.proofs.Decodes.{flag_is}
use Rattle.sweeps.specs.Sweeps.{likelihood}
use Rattle.late_reads.specs.Values.{Values, Fixed, likelihood_on, arrived}
use Rattle.late_reads.specs.Arriving.{whole_calls, arriving_call, arriving_read, arriving_ok}
use Rattle.late_reads.specs.LateReads.{LateInput, case_of, fixed_of, kept_outcome, arrived_values, departed_values}
use Rattle.late_reads.specs.Inner.Ready.{Arriving, fixed_at, arrived_at, departed_at}
use Rattle.late_reads.proofs.KeptCase.{kept_checked, kept_case}

-- ---- the likelihood of calls at the first n variants goes by these
likelihood_same : (m m' : ℕ → Bool) (n : ℕ) (a : ℕ → ℕ) → ((v : ℕ) → v < n → m v ≡ m' v) → (calls : List Call) → All (λ call. call.variant < n) calls → likelihood m a calls ≡ likelihood m' a calls
unfolding likelihood
likelihood_same m m' n a same [] end = refl
likelihood_same m m' n a same (call ∷ calls) (also h hs) = rw (same call.variant h, likelihood_same m m' n a same calls hs)

-- ---- the variants of arriving calls are of the case
call_in : (w : List ℤ) (s : Sizes) (calls : List ℤ) (i : ℕ) → arriving_ok w s calls i ≡ true → (arriving_call calls i).variant < s.n
unfolding arriving_ok arriving_call
call_in w s calls i h = below_less s.n _ (both _ _ h).0

module _ {w : List ℤ} {s : Sizes} {f : ℕ} {strand : ℤ} {calls : List ℤ} (here : Arriving w s f strand calls) where
  calls_in : All (λ call. call.variant < s.n) (arriving_read strand calls).calls
  unfolding arriving_read
  calls_in = all_tabulate (whole_calls calls) (arriving_call calls) (λ i l. call_in w s calls i (here.each_in i l))

  usable_in : (cutoff : ℤ) → All (λ call. call.variant < s.n) (usable_calls cutoff (arriving_read strand calls))
  unfolding usable_calls
  usable_in cutoff = only_all (usable cutoff (arriving_read strand calls)) _ calls_in

-- ---- an arrival
arrived_same : (at of : Fixed) (n m f : ℕ) (x : Fragment) (kept : Values) → at.cutoff ≡ of.cutoff → n ≡ m → likelihood_on at x 0 ≡ likelihood_on of x 0 → likelihood_on at x 1 ≡ likelihood_on of x 1 → arrived at n f x kept ≡ arrived of m f x kept
unfolding arrived
arrived_same at of n m f x kept c e a b = rw (a, b, c, e)

module _ (input : LateInput) (s : Sizes) (ok : kept_outcome input ≡ done s) where
  phased_same : (v : ℕ) → v < s.n → phased_at input.words input.phase v ≡ phased_flags (case_of input) input.phase v
  phased_same v l = flag_is _ _ s (checked_case _ _ _ s (kept_checked input s ok)) input.phase v l

  module _ (f : ℕ) (strand : ℤ) (calls : List ℤ) (here : Arriving input.words s f strand calls) where
    on_same : (i : ℕ) → likelihood_on (fixed_at input.words input.phase input.haplotypes) (arriving_read strand calls) i ≡ likelihood_on (fixed_of input) (arriving_read strand calls) i
    unfolding likelihood_on decode
    on_same i =
        likelihood_same (phased_at input.words input.phase) (phased_flags (case_of input) input.phase) s.n (λ v. get_or input.haplotypes (2 * v + i) 0)
        phased_same
        (usable_calls (cutoff_at input.words) (arriving_read strand calls))
        (usable_in here (cutoff_at input.words))

    pub arrived_is : arrived_at input.words s input.phase input.haplotypes input.kept f strand calls ≡ arrived_values input f strand calls
    unfolding arrived_values
    arrived_is = arrived_same _ _ _ _ f (arriving_read strand calls) input.kept (sym (cutoff_is _ _)) (sym (variants_are (kept_case input s ok) input.bases)) (on_same 0) (on_same 1)

  -- ---- a departure
  pub departed_is : (f : ℕ) → f < s.f → departed_at input.words s input.kept f ≡ departed_values input f
  unfolding departed_values
  departed_is f l = rw (cutoff_is input.words input.bases, variants_are (kept_case input s ok) input.bases, fragment_here (kept_case input s ok) input.bases f l)
