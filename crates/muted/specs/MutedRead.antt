-- Request 5: "A chimeric read should stay on file without voting." What holds of a muted read, whatever the cutoff, and of what a run writes for it.
-- Assumes nothing.
use Rattle.std.specs.Prelude.{◌≡◌, Bool, false, cond, [], ℕ, ◌+◌, ◌*◌, ◌/◌, ◌%◌, ◌<◌, eqb, ℤ, pos, length}
use Rattle.steps.specs.Logs.{mix_of}
use Rattle.variants_and_fragments.specs.Case.{Case, Fragment, Call, votes, usable, fragment_of}
use Rattle.variants_and_fragments.specs.Pileup.{only, usable_calls, ambiguous_in}
use Rattle.haplotype_assembly.specs.Lines.{line_calls, has_line}
use Rattle.sweeps.specs.Sweeps.{likelihood}
use Rattle.with_haplotypes.specs.Round.{RunInput, likelihood_at}
use Rattle.late_reads.specs.Values.{read_count}

-- of every fragment that does not vote: `muted_read` of proofs/MutedRead.antt
pub record MutedRead (x : Fragment) : Type 0 where
  -- it does not vote: none of its calls is usable, so that none is in a likelihood, a score or a pile
  pub no_vote : (cutoff : ℤ) (call : Call) → usable cutoff x call ≡ false
  pub none_usable : (cutoff : ℤ) → usable_calls cutoff x ≡ []
  -- "Muted calls count as ambiguous": all of them at each variant
  pub all_ambiguous : (cutoff : ℤ) (v : ℕ) → ambiguous_in cutoff v x ≡ length (only (λ (call : Call). eqb call.variant v) x.calls)
  -- and so where it arrives or departs: of a variant's ten counts only the last one has its calls there
  pub counted_last : (cutoff : ℤ) (e : ℕ) → read_count cutoff x e ≡ cond (eqb (e % 10) 9) (length (only (λ (call : Call). eqb call.variant (e / 10)) x.calls)) 0
  -- its likelihood on every haplotype a is 0, whatever variants count, and so is its share of a total (section 6)
  pub no_likelihood : (cutoff : ℤ) (counts : ℕ → Bool) (a : ℕ → ℕ) → likelihood counts a (usable_calls cutoff x) ≡ pos 0
  pub no_share : (cutoff : ℤ) (counts : ℕ → Bool) (a b : ℕ → ℕ) → mix_of (likelihood counts a (usable_calls cutoff x)) (likelihood counts b (usable_calls cutoff x)) ≡ pos 0
  -- it has no line
  pub no_line : (case : Case) (single : Bool) → has_line single (length (line_calls case x)) ≡ false

-- the two likelihoods that a run writes for a muted fragment are 0: `muted_written` of proofs/MutedRead.antt
pub record MutedWritten (input : RunInput) : Type 0 where
  pub zero_likelihoods : (f i : ℕ) → i < 2 → votes (fragment_of input.case f).strand ≡ false → likelihood_at input (2 * f + i) ≡ pos 0
