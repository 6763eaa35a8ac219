-- A muted read does not vote, and each of its calls is ambiguous. So a run writes 0 and 0 as its likelihoods.
-- Assumes nothing.
use mathlib.Core.Path.{◌≡◌, refl, ap, ◌∙◌}
use mathlib.Core.Bool.{Bool, false, cond, not, ◌&&◌, ◌||◌, and-true, and-false}
use mathlib.Core.List.{List, [], ◌∷◌, map}
use Prim.Native.Nat.{ℕ, ◌+◌, ◌*◌, ◌/◌, ◌%◌}
use native.Mathlib.Omega.{arith}
use lib.Dec.{eqb, ltb}
use lib.IntN.{ℤ, pos}
use lib.ListN.{length, get_or, get_or-map}
use Rattle.steps.specs.Logs.{mix_of}
use Rattle.steps.proofs.AddExp.{add_halves}
use Rattle.steps.proofs.Signed.{by_test}
use Rattle.variants_and_fragments.specs.Case.{Case, Fragment, Call, votes, direction, usable, variant_of, fragment_of, no_fragment}
use Rattle.variants_and_fragments.specs.Pileup.{only, usable_calls, ambiguous_in}
use Rattle.variants_and_fragments.specs.Inner.Case.{All, end, also}
use Rattle.variants_and_fragments.proofs.Alls.{all_imp}
use Rattle.variants_and_fragments.proofs.Only.{only_no}
use Rattle.haplotype_assembly.specs.Lines.{line_calls, has_line}
use Rattle.haplotype_assembly.specs.Phase.{phased_rule}
use Rattle.no_haplotypes.proofs.CountLaws.{only_same}
use Rattle.sweeps.specs.Sweeps.{likelihood}
use Rattle.likelihoods.specs.SweepCaseOf.{sweep_case_of}
use Rattle.with_haplotypes.specs.Round.{RunInput, sweep_case, likelihood_at}
use Rattle.late_reads.specs.Values.{counted, read_count}
use Rattle.muted.specs.MutedRead.{MutedRead, MutedWritten}

-- a test that fails for each
only_never : {X : Type 0} {p : X → Bool} {xs : List X} → All (λ x. p x ≡ false) xs → only p xs ≡ []
only_never {xs = xs} never = only_same never ∙ only_no xs

pub all_each : {X : Type 0} {P : X → Type 0} → ((x : X) → P x) → (xs : List X) → All P xs
all_each each [] = end
all_each each (x ∷ xs) = also (each x) (all_each each xs)

-- ---- a read of which no call is usable, as every muted one is
module _ (x : Fragment) (cutoff : ℤ) (never : All (λ call. usable cutoff x call ≡ false) x.calls) where
  pub none_usable : usable_calls cutoff x ≡ []
  unfolding usable_calls
  none_usable = only_never never

  pub all_ambiguous : (v : ℕ) → ambiguous_in cutoff v x ≡ length (only (λ (call : Call). eqb call.variant v) x.calls)
  unfolding ambiguous_in
  all_ambiguous v = ap length (only_same (all_imp (λ call n. ap (λ (t : Bool). eqb call.variant v && not t) n ∙ and-true _) never))

  pub counted_last : (e : ℕ) → read_count cutoff x e ≡ cond (eqb (e % 10) 9) (length (only (λ (call : Call). eqb call.variant (e / 10)) x.calls)) 0
  unfolding read_count counted
  counted_last e =
      by_test (eqb (e % 10) 9)
      (λ t. rw t (ap length (only_same (all_imp (λ call n. ap (λ (u : Bool). eqb call.variant (e / 10) && not u) n ∙ and-true _) never))))
      (λ t. rw t (ap length (only_never (all_imp (λ call n.
      let here = eqb call.variant (e / 10) in
      let shown = eqb call.allele (e % 10 % 3) && (ltb (e % 10) 3 || eqb (e % 10 / 3) (1 + direction x.strand)) in
      ap (λ (u : Bool). here && (u && shown)) n ∙ and-false here) never))))

  pub no_line : (case : Case) → case.cutoff ≡ cutoff → line_calls case x ≡ []
  unfolding line_calls
  no_line case e = only_never (all_imp (λ call n. ap (λ (t : Bool). phased_rule (variant_of case call.variant) && t) (ap (λ (c : ℤ). usable c x call) e ∙ n) ∙ and-false (phased_rule (variant_of case call.variant))) never)

-- ---- a muted one
module _ (x : Fragment) (muted : votes x.strand ≡ false) where
  no_vote : (cutoff : ℤ) (call : Call) → usable cutoff x call ≡ false
  unfolding usable
  no_vote cutoff call = rw (muted, and-false)

  pub never_usable : (cutoff : ℤ) → All (λ call. usable cutoff x call ≡ false) x.calls
  never_usable cutoff = all_each (no_vote cutoff) x.calls

  pub no_likelihood : (cutoff : ℤ) (counts : ℕ → Bool) (a : ℕ → ℕ) → likelihood counts a (usable_calls cutoff x) ≡ pos 0
  unfolding likelihood
  no_likelihood cutoff counts a = rw (none_usable x cutoff (never_usable cutoff))

  no_share : (cutoff : ℤ) (counts : ℕ → Bool) (a b : ℕ → ℕ) → mix_of (likelihood counts a (usable_calls cutoff x)) (likelihood counts b (usable_calls cutoff x)) ≡ pos 0
  unfolding mix_of
  no_share cutoff counts a b = rw (no_likelihood cutoff counts a, no_likelihood cutoff counts b) add_halves

  pub muted_read : MutedRead x
  unfolding has_line
  muted_read = record {
    no_vote = no_vote;
    none_usable = λ cutoff. none_usable x cutoff (never_usable cutoff);
    all_ambiguous = λ cutoff. all_ambiguous x cutoff (never_usable cutoff);
    counted_last = λ cutoff. counted_last x cutoff (never_usable cutoff);
    no_likelihood = no_likelihood;
    no_share = no_share;
    no_line = λ case single. rw (no_line x case.cutoff (never_usable case.cutoff) case refl) (by_test single (λ t. rw t refl) (λ t. rw t refl));
  }

-- ---- what a run writes for it
pub muted_written : (input : RunInput) → MutedWritten input
unfolding likelihood_at sweep_case sweep_case_of usable_calls only
muted_written input = record {
  zero_likelihoods = λ f i l muted.
      let q : (2 * f + i) / 2 ≡ f = omega arith in
      let case = input.case in
      let own : get_or (map (usable_calls case.cutoff) case.fragments) f [] ≡ usable_calls case.cutoff (fragment_of case f) = get_or-map (usable_calls case.cutoff) case.fragments f no_fragment in
      rw (q, own) (no_likelihood (fragment_of case f) muted case.cutoff _ _);
}
