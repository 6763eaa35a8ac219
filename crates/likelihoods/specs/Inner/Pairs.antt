-- A variant's pair as the haplotypes have it. Assumes nothing.
use Rattle.std.specs.Prelude.{List, ℕ}
use Rattle.sweeps.specs.Sweeps.{allele0, allele1}
use Rattle.likelihoods.specs.declared.pair.Pair.{Pair}

-- the pair that stands at v
abbrev pub pair_at : List ℕ → ℕ → Pair
pair_at h v = record { first = allele0 h v; second = allele1 h v }
