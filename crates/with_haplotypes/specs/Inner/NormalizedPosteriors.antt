-- 01, sections 4 and 6: each variant's scores become its latest posteriors. Assumes nothing.
use Rattle.std.specs.Prelude.{List, ℕ, ◌*◌, ◌/◌, ◌%◌, ◌≤◌, ◌<◌, ℤ, length, get_or, drop}
use Rattle.genotype_probs.specs.Posteriors.{normalized}
use Rattle.genotype_probs.specs.Inner.Posteriors.{TableAt}

-- element e of the posteriors, nine places a variant: of a variant's k × k scores, normalised, then zeros
unfoldable pub normalized_at : List ℕ → List ℤ → ℕ → ℤ
normalized_at ks post e = normalized (drop (9 * (e / 9)) post) (get_or ks (e / 9) 0) (e % 9)

-- a table of scores for each of n variants
pub record TablesAt (ks : List ℕ) (post : List ℤ) (n : ℕ) : Type 0 where
  pub ks_long : n ≤ length ks
  pub long : 9 * n ≤ length post
  pub each : (v : ℕ) → v < n → TableAt post (9 * v) (get_or ks v 0)
