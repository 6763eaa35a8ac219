-- The genotypes before (i, 0), and then those before (i, j), are written.
use Rattle.std.proofs.Common.{◌≡◌, ℕ, ◌+◌, ◌*◌, ◌<◌, get_or, pos}
use Rattle.variants_and_fragments.specs.Decode.{variant_from}
use Rattle.genotype_probs.specs.Inner.PriorTable.{table_priors}
use Rattle.genotype_probs.proofs.priors.get_all_priors.Given as goal

abbrev pub invariant-loop-i : goal.invariant-loop-i
invariant-loop-i l =
    (p : ℕ) → p < l.i * l.k → get_or l.priors p (pos 0) ≡ table_priors l.table.bases (variant_from l.variant.alleles.now.known.laid.words.now l.variant.alleles.now.bases.now l.variant.v) p

abbrev pub invariant-loop-j : goal.invariant-loop-j
invariant-loop-j l =
    (p : ℕ) → p < l.i * l.k + l.j → get_or l.priors p (pos 0) ≡ table_priors l.table.bases (variant_from l.variant.alleles.now.known.laid.words.now l.variant.alleles.now.bases.now l.variant.v) p
