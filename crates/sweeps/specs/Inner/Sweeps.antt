-- What a case and haplotypes have for the laws of sweeps, and whether a fragment has a call at a variant. Assumes nothing.
use Rattle.std.specs.Prelude.{◌≡◌, Bool, false, ◌||◌, List, [], ◌∷◌, ℕ, ◌*◌, ◌<◌, ◌≤◌, T, eqb, length}
use Rattle.variants_and_fragments.specs.Case.{Call}
use Rattle.variants_and_fragments.specs.Inner.Case.{rising}
use Rattle.variants_and_fragments.specs.Inner.Accepted.{allb}
use Rattle.sweeps.specs.Sweeps.{SweepCase, allele0, allele1}

-- whether a fragment has a call at v
unfoldable pub has_call : ℕ → List Call → Bool
has_call v [] = false
has_call v (c ∷ cs) = eqb c.variant v || has_call v cs

-- what the case of an accepted run has, and its haplotypes; each of its orders is a `Permutation` (shuffle)
pub record GoodSweepCase (C : SweepCase) : Type 0 where
  pub some_allele : (v : ℕ) → v < C.n → 1 ≤ C.k v
  pub three_alleles : (v : ℕ) → v < C.n → C.k v ≤ 3
  pub rise : T (allb rising C.frags)

pub record GoodHaps (C : SweepCase) (h : List ℕ) : Type 0 where
  pub len : length h ≡ 2 * C.n
  pub low : (v : ℕ) → v < C.n → allele0 h v < C.k v
  pub high : (v : ℕ) → v < C.n → allele1 h v < C.k v
