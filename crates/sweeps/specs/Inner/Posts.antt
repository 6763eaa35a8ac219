-- Each variant's latest posteriors, nine entries a variant in one list, as the lent slice has them. `norm k s` stands for the
-- normalised table of the scores s of the k × k pairs, with zeros to nine. Assumes nothing.
use Rattle.std.specs.Prelude.{List, [], ◌∷◌, ℕ, zero, suc, ◌*◌, ℤ}
use Rattle.std.proofs.lemmas.List.Edits.{sets}
use Rattle.sweeps.specs.Sweeps.{SweepCase, score, visit}
use Rattle.sweeps.specs.Demand3.{after}

module _ (norm : ℕ → (ℕ → ℤ) → List ℤ) (C : SweepCase) where
  abbrev pub table : ℕ → List ℕ → List ℤ
  table v h = norm (C.k v) (score C v h)

  -- a sweep's records: each visit puts its variant's table, as it was at the visit
  unfoldable pub recorded : List ℕ → List ℕ → List ℤ → List ℤ
  recorded [] h ps = ps
  recorded (v ∷ vs) h ps = recorded vs (visit C v h) (sets ps (9 * v) (table v h))

  -- the posteriors after s sweeps
  unfoldable pub posts : (ℕ → List ℕ) → List ℕ → List ℤ → ℕ → List ℤ
  posts o h ps zero = ps
  posts o h ps (suc s) = recorded (o s) (after C o h s) (posts o h ps s)
