-- The recorded posteriors keep their slice's length. Assumes nothing.
use mathlib.Core.Path.{◌≡◌, refl, ◌∙◌}
use mathlib.Core.List.{List, [], ◌∷◌}
use Prim.Native.Nat.{ℕ, zero, suc, ◌*◌}
use lib.ListN.{length}
use lib.Seq.{sets, length-sets}
use lib.IntN.{ℤ}
use Rattle.sweeps.specs.Sweeps.{SweepCase, visit}
use Rattle.sweeps.specs.Demand3.{after}
use Rattle.sweeps.specs.Inner.Posts.{table, recorded, posts}

module _ (norm : ℕ → (ℕ → ℤ) → List ℤ) (C : SweepCase) where
  pub length_recorded : (vs h : List ℕ) (ps : List ℤ) → length (recorded norm C vs h ps) ≡ length ps
  unfolding recorded
  length_recorded [] h ps = refl
  length_recorded (v ∷ vs) h ps = length_recorded vs (visit C v h) (sets ps (9 * v) (table norm C v h)) ∙ length-sets ps (9 * v) (table norm C v h)

  pub length_posts : (o : ℕ → List ℕ) (h : List ℕ) (ps : List ℤ) (s : ℕ) → length (posts norm C o h ps s) ≡ length ps
  unfolding posts
  length_posts o h ps zero = refl
  length_posts o h ps (suc s) = length_recorded (o s) (after C o h s) _ ∙ length_posts o h ps s
