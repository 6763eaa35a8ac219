-- The first of n sets that is not right.
use Rattle.std.proofs.Common.{◌≡◌, ℕ, ◌<◌, ◌≤◌, true, false, Option, None, Some, List, ℤ, pos, length, get_or, take, refl, sym, ap, ◌∙◌, length-take, rules, tests, arith}
use Rattle.std.specs.Prelude.{MatchOption}
use Rattle.std.specs.List.{AllWithin, HoldsAt}
use Rattle.std.proofs.lemmas.Iterator.{IsFirst-from_position, YieldsList-from_slice}
use Rattle.std.proofs.lemmas.List.{get_or-take}
use Rattle.variants_and_fragments.specs.First.{first_fail}
use Rattle.haplotype_assembly.specs.GivenPhase.{set_ok, sets_ok}
use Rattle.haplotype_assembly.proofs.Cited.{first_at, first_end}
use Rattle.haplotype_assembly.proofs.phase.first_bad_set.Goals as goal

-- of the first n of the sets
module _ (n : ℕ) (sets : List ℤ) (h : n ≤ length sets) where
  abbrev Right : ℤ → Type 0
  Right z = set_ok n z ≡ true

  abbrev Wrong : ℤ → Type 0
  Wrong z = set_ok n z ≡ false

  long : length (take n sets) ≡ n
  long = simp length-take (omega arith)

  right : (j : ℕ) → j < n → Right (get_or (take n sets) j (pos 0)) → sets_ok n sets j ≡ true
  unfolding sets_ok
  right j l e = rw get_or-take at e

  first_bad : (o : Option ℕ) → MatchOption o (AllWithin Right (take n sets) 0 (length (take n sets))) (λ v. (v < length (take n sets)) × HoldsAt Wrong (take n sets) v × AllWithin Right (take n sets) 0 v)
      → MatchOption o (first_fail (sets_ok n sets) n ≡ n) (λ v. (v < n) × (v ≡ first_fail (sets_ok n sets) n))
  unfolding sets_ok
  first_bad None f = sym (first_end (sets_ok n sets) n n (λ j l. right j l (f j (pos 0) (omega arith) (omega (arith, long)))) refl)
  first_bad (Some v) f = let l : v < n = omega (arith, f.0, long) in
      (l, first_at (sets_ok n sets) n v (λ j k. right j (omega arith) (f.2 j (pos 0) (omega arith) k)) l (ap (set_ok n) (sym (get_or-take n sets v (pos 0) l)) ∙ f.1 (pos 0)))

pub returns : goal.returns
returns c =
    first_bad c.args.n c.args.sets.now c.requires c.position.result
    (IsFirst-from_position _ _ c.position.result (λ z. set_ok c.args.n z ≡ false) (λ z. set_ok c.args.n z ≡ true) c.position.ensures.ran (YieldsList-from_slice _ c.iter.ensures.rest)
    (λ x q called. search (rules, tests)) (λ x q called. search (rules, tests)))
