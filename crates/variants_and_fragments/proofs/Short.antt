-- The smallest count that a slice too short needs: what `earlier` gives, case by case, and what it says that none is too short.
-- Assumes nothing.
use mathlib.Core.Path.{◌≡◌, refl, sym, ◌∙◌}
use mathlib.Core.List.{List, ◌∷◌}
use mathlib.Core.Logic.{◌⊎◌, inl, inr, ⊎_elim}
use Prim.Native.Nat.{ℕ, ◌≤◌, ◌<◌}
use native.Mathlib.Omega.{arith}
use native.Mathlib.Decide.{dec_le, ℕ_discrete}
use borrow.Author.Tests.{le-leb, lt-leb, eq-eqb, ne_eqb}
use Rattle.std.proofs.lemmas.Bool.Decides.{nat_tests}
use Rattle.std.proofs.Math.ListN.{drop_of_length-le}
use Rattle.std.specs.Option.{unwrap_or}
use Rattle.std.proofs.Common.{min, Option, None, Some, ◌+◌, ap, drop, get_or, length, add-one, drop-cons}
use Rattle.variants_and_fragments.specs.Refusals.{short_of, earlier, smallest_short}

pub earlier_right : (a b : ℕ) → a ≡ 0 → b ≡ earlier a b
unfolding earlier
earlier_right a b e = rw (eq-eqb a 0 e)

pub earlier_left : (a b : ℕ) → (a ≡ 0 → ⊥) → b ≡ 0 → a ≡ earlier a b
unfolding earlier
earlier_left a b d e = rw (ne_eqb a 0 d, eq-eqb b 0 e)

module _ (a b : ℕ) (da : a ≡ 0 → ⊥) (db : b ≡ 0 → ⊥) where
  pub earlier_first : a ≤ b → a ≡ earlier a b
  unfolding earlier
  earlier_first h = rw (ne_eqb a 0 da, ne_eqb b 0 db, le-leb a b h)

  pub earlier_second : b < a → b ≡ earlier a b
  unfolding earlier
  earlier_second h = rw (ne_eqb a 0 da, ne_eqb b 0 db, lt-leb a b h)

-- it is one of the two
pub earlier_one : (a b : ℕ) → (earlier a b ≡ a) ⊎ (earlier a b ≡ b)
earlier_one a b = elim (ℕ_discrete a 0) [
  | yes e ↦ inr (sym (earlier_right a b e))
  | no d ↦ elim (ℕ_discrete b 0) [
    | yes e ↦ inl (sym (earlier_left a b d e))
    | no f ↦ elim (dec_le a b) [ yes h ↦ inl (sym (earlier_first a b d f h)) | no h ↦ inr (sym (earlier_second a b d f (omega arith))) ]
  ]
]

pub earlier_top : (m a b : ℕ) → a < m → b < m → earlier a b < m
earlier_top m a b h l = ⊎_elim (λ e. omega arith) (λ e. omega arith) (earlier_one a b)

-- none where neither is one
pub none_earlier : (a b : ℕ) → earlier a b ≡ 0 → (a ≡ 0) × (b ≡ 0)
none_earlier a b e = elim (ℕ_discrete a 0) [
  | yes p ↦ (p, earlier_right a b p ∙ e)
  | no p ↦ elim (ℕ_discrete b 0) [
    | yes q ↦ (earlier_left a b p q ∙ e, q)
    | no q ↦ elim (dec_le a b) [
      | yes l ↦ let z = earlier_first a b p q l in absurd (omega arith)
      | no l ↦ let z = earlier_second a b p q (omega arith) in absurd (omega arith)
    ]
  ]
]

pub short_none : (need long : ℕ) → short_of need long ≡ 0 → need ≤ long
unfolding short_of
short_none need long e = elim (dec_le need long) [ yes l ↦ l | no l ↦ let z : need ≡ 0 = rw (lt-leb need long (omega arith)) at e in omega arith ]

-- ---- a list of slices, each with what it needs
pub earlier_none : (a : ℕ) → earlier a 0 ≡ a
earlier_none a = elim (ℕ_discrete a 0) [ yes e ↦ sym (earlier_right a 0 e) ∙ sym e | no d ↦ sym (earlier_left a 0 d refl) ]

-- where none is too short, each is long enough
pub short_fits : (need long : ℕ) (rest : List (ℕ × ℕ)) → smallest_short ((need, long) ∷ rest) ≡ 0 → (need ≤ long) × (smallest_short rest ≡ 0)
unfolding smallest_short
short_fits need long rest e = let b = none_earlier (short_of need long) (smallest_short rest) e in (short_none need long b.0, b.1)

-- ---- one need after the other
pub earlier_assoc : (a b c : ℕ) → earlier (earlier a b) c ≡ earlier a (earlier b c)
unfolding earlier
earlier_assoc a b c = grind (arith, nat_tests)

-- the need found so far; 0 where there is none
unfoldable pub need_of : Option ℕ → ℕ
need_of None = 0
need_of (Some need) = need

-- what is found of the slices before i
pub record Found (slices : List (ℕ × ℕ)) (i : ℕ) (short : Option ℕ) : Type 0 where
  pub some : (need : ℕ) → short ≡ Some need → 0 < need
  pub kept : earlier (need_of short) (smallest_short (drop i slices)) ≡ smallest_short slices

pub found_none : (slices : List (ℕ × ℕ)) → Found slices 0 None
unfolding need_of
found_none slices = record { some = λ need e. cc; kept = sym (earlier_right 0 _ refl) }

-- one slice more
short_step : (slices : List (ℕ × ℕ)) (i found next : ℕ) → i < length slices → earlier found (smallest_short (drop i slices)) ≡ smallest_short slices
    → next ≡ earlier found (short_of (get_or slices i (0, 0)).0 (get_or slices i (0, 0)).1) → earlier next (smallest_short (drop (i + 1) slices)) ≡ smallest_short slices
unfolding smallest_short
short_step slices i found next l before is_next =
    rw (is_next, earlier_assoc, add-one) (sym (ap (λ (xs : List (ℕ × ℕ)). earlier found (smallest_short xs)) (drop-cons slices i (0, 0) l)) ∙ before)

-- a slice that is too short
next_need : (short : Option ℕ) (need : ℕ) → ((n : ℕ) → short ≡ Some n → 0 < n) → 0 < need → min (unwrap_or short need) need ≡ earlier (need_of short) need
unfolding need_of earlier
next_need None need some h = grind (arith, nat_tests)
next_need (Some n) need some h = let l = some n refl in grind (arith, nat_tests)

pub found_short : (slices : List (ℕ × ℕ)) (i : ℕ) (short : Option ℕ) (next : ℕ) → i < length slices → Found slices i short → (get_or slices i (0, 0)).1 < (get_or slices i (0, 0)).0
    → next ≡ min (unwrap_or short (get_or slices i (0, 0)).0) (get_or slices i (0, 0)).0 → Found slices (i + 1) (Some next)
unfolding need_of short_of
found_short slices i short next l f h e =
    let need = (get_or slices i (0, 0)).0 in
    let low : 0 < need = omega arith in
    let n = e ∙ next_need short need f.some low in
    record {
      some = λ m q. let r : next ≡ m = cc in grind (arith, nat_tests, n, r);
      kept = short_step slices i (need_of short) next l f.kept (rw (lt-leb need (get_or slices i (0, 0)).1 h) n);
    }

-- one that is long enough
pub found_fits : (slices : List (ℕ × ℕ)) (i : ℕ) (short : Option ℕ) → i < length slices → Found slices i short → (get_or slices i (0, 0)).0 ≤ (get_or slices i (0, 0)).1 → Found slices (i + 1) short
unfolding short_of
found_fits slices i short l f h = record {
  some = f.some;
  kept = short_step slices i (need_of short) (need_of short) l f.kept (rw (le-leb (get_or slices i (0, 0)).0 (get_or slices i (0, 0)).1 h) (sym (earlier_none (need_of short))));
}

-- at the end
pub found_end : (slices : List (ℕ × ℕ)) (i : ℕ) (short : Option ℕ) → length slices ≤ i → Found slices i short → need_of short ≡ smallest_short slices
unfolding smallest_short
found_end slices i short l f = sym (earlier_none (need_of short)) ∙ rw (drop_of_length-le slices l) at f.kept
