-- The counts of the first v variants are written. Assumes nothing.
use Rattle.std.proofs.Common.{◌≡◌}
use Rattle.variants_and_fragments.specs.Layout.{allele_count_at}
use Rattle.variants_and_fragments.specs.Written.{written}
use Rattle.likelihoods.proofs.sweep_case.write_allele_counts.Given as goal

abbrev pub invariant-loop-v : goal.invariant-loop-v
invariant-loop-v l = l.ks ≡ written (allele_count_at l.case.laid.words.now) l.v l.fn.ks
