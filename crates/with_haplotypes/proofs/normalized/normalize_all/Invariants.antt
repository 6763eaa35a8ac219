-- The tables of the first v variants are normalised. Assumes nothing.
use Rattle.std.proofs.Common.{◌≡◌, ◌*◌}
use Rattle.variants_and_fragments.specs.Written.{written}
use Rattle.with_haplotypes.specs.Inner.NormalizedPosteriors.{normalized_at}
use Rattle.with_haplotypes.proofs.normalized.normalize_all.Given as goal

abbrev pub invariant-loop-v : goal.invariant-loop-v
invariant-loop-v l = l.post ≡ written (normalized_at l.ks l.fn.post) (9 * l.v) l.fn.post
