-- Final answers as the code writes them, from the posteriors' slice. Assumes nothing.
use Rattle.std.specs.Prelude.{◌≡◌, List, ℕ, ◌*◌, ◌<◌, ℤ, Float, drop}
use Rattle.variants_and_fragments.specs.Layout.{allele_count_at}
use Rattle.variants_and_fragments.specs.Written.{written}
use Rattle.genotype_probs.specs.Inner.Posteriors.{TableAt}
use Rattle.with_haplotypes.specs.declared.finals.FinalAnswer.{FinalAnswer}
use Rattle.with_haplotypes.specs.Finals.{final_of}

-- the final answer of variant v, whose posteriors stand at nine places
unfoldable pub final_at : List ℤ → List ℤ → ℕ → FinalAnswer
final_at w post v = final_of (drop (9 * v) post) (allele_count_at w v)

-- each of n variants has a table there
abbrev pub TablesIn : List ℤ → List ℤ → ℕ → Type 0
TablesIn w post n = (v : ℕ) → v < n → TableAt post (9 * v) (allele_count_at w v)

-- the run writes qual and gq as f64, N each
pub record FinalsWritten (w post : List ℤ) (n : ℕ) (quals gqs quals-after gqs-after : List Float) : Type 0 where
  pub quals_are : quals-after ≡ written (λ v. (final_at w post v).qual.0) n quals
  pub gqs_are : gqs-after ≡ written (λ v. (final_at w post v).gq.0) n gqs
