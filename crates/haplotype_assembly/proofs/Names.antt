-- Set names: what one more variant does to the least names, and what is read of them.
-- Assumes nothing.
use mathlib.Core.Path.{◌≡◌, refl, sym, ap, ◌∙◌}
use mathlib.Core.Bool.{true, false}
use mathlib.Core.List.{List}
use Prim.Native.Nat.{ℕ, suc, ◌+◌, ◌≤◌, ◌<◌, min}
use native.Mathlib.Omega.{arith}
use native.Mathlib.Decide.{ℕ_discrete, dec_le}
use Rattle.std.proofs.Math.Nat.{min-eq_left, min-eq_right}
use borrow.Author.Tests.{eq-eqb, ne_eqb, ltb-true}
use lib.IntN.{ℤ, pos, negsuc}
use lib.ListN.{length, get_or, set, length-set, replicate, length-replicate, get_or-replicate}
use lib.Seq.{get_or-set_same, get_or-set_other}
use Rattle.std.proofs.Common.{Option, None, Some}
use Rattle.std.specs.Option.{IfSome, unwrap_or}
use Rattle.std.proofs.lemmas.Option.{none-some}
use Rattle.variants_and_fragments.specs.Layout.{pos0_at}
use Rattle.variants_and_fragments.specs.Refusals.{earlier}
use Rattle.variants_and_fragments.proofs.Short.{earlier_right, earlier_first, earlier_second}
use Rattle.haplotype_assembly.specs.Phase.{is_phase, byte_of, is_set, name_below, name_of_set}
use Rattle.haplotype_assembly.specs.GivenPhase.{set_ok, sets_ok}
use Rattle.haplotype_assembly.specs.Inner.PhaseRead.{set_of, set_name_at, phase_name_at, NamedTo}

-- ---- a variant's set
pub set_is : (z : ℤ) (t : ℕ) → set_of z ≡ Some t → is_set z t ≡ true
set_is (pos n) t e = eq-eqb n t cc
set_is (negsuc n) t e = absurd (let z : ◌≡◌ {A = ℕ} 0 1 = cc in omega arith)

pub set_other : (z : ℤ) (t u : ℕ) → set_of z ≡ Some t → (u ≡ t → ⊥) → is_set z u ≡ false
set_other (pos n) t u e d = let k : n ≡ t = cc in ne_eqb n u (λ q. d (sym q ∙ k))
set_other (negsuc n) t u e d = refl

set_none : (z : ℤ) (u : ℕ) → set_of z ≡ None → is_set z u ≡ false
set_none (pos n) u e = absurd (let z : ◌≡◌ {A = ℕ} 0 1 = cc in omega arith)
set_none (negsuc n) u e = refl

-- ---- one more variant
name_in : (w sets : List ℤ) (v t : ℕ) → is_set (get_or sets v (pos 0)) t ≡ true → set_name_at w sets (suc v) t ≡ earlier (set_name_at w sets v t) (pos0_at w v + 1)
unfolding set_name_at name_below
name_in w sets v t e = rw e

name_out : (w sets : List ℤ) (v t : ℕ) → is_set (get_or sets v (pos 0)) t ≡ false → set_name_at w sets (suc v) t ≡ set_name_at w sets v t
unfolding set_name_at name_below
name_out w sets v t e = rw e

-- the smaller of a name, where there is one, and another one
abbrev pub least_of : Option ℕ → ℕ → ℕ
least_of None name = name
least_of (Some other) name = min other name

least_is : (o : Option ℕ) (name : ℕ) → 1 ≤ name → ((other : ℕ) → o ≡ Some other → 1 ≤ other) → least_of o name ≡ earlier (unwrap_or o 0) name
unfolding earlier
least_is None name h l = sym (earlier_right 0 name refl)
least_is (Some other) name h l = elim (dec_le other name) [
  | yes k ↦ let z = l other refl in min-eq_left k ∙ earlier_first other name (λ e. omega arith) (λ e. omega arith) k
  | no k ↦ let z = l other refl in min-eq_right (omega arith) ∙ earlier_second other name (λ e. omega arith) (λ e. omega arith) (omega arith)
]

least_some : (o : Option ℕ) (name : ℕ) → 1 ≤ name → ((other : ℕ) → o ≡ Some other → 1 ≤ other) → 1 ≤ least_of o name
least_some None name h l = h
least_some (Some other) name h l = let z = l other refl in omega arith

-- names before any variant
pub named_start : (w sets : List ℤ) (n : ℕ) (least : List (Option ℕ)) → n ≤ length least → ((t : ℕ) → t < n → get_or least t None ≡ None) → NamedTo w sets n 0 least
unfolding set_name_at name_below
named_start w sets n least room nones =
    record { room = room; names = λ t l. ap (λ (o : Option ℕ). unwrap_or o 0) (nones t l); some = λ t name l e. absurd (none-some name (sym (nones t l) ∙ e)) }

the_none : Option ℕ
the_none = None

pub no_names : (w sets : List ℤ) (n : ℕ) → n ≤ 1024 → NamedTo w sets n 0 (replicate 1024 None)
unfolding the_none
no_names w sets n h = named_start w sets n (replicate 1024 None) (omega (arith, length-replicate 1024 the_none)) (λ t l. get_or-replicate 1024 t None None (omega arith))

module _ {w sets : List ℤ} {n v : ℕ} {least : List (Option ℕ)} (i : NamedTo w sets n v least) where
  -- it has no set
  pub named_past : set_of (get_or sets v (pos 0)) ≡ None → NamedTo w sets n (suc v) least
  named_past e = record { room = i.room; names = λ u l. i.names u l ∙ sym (name_out w sets v u (set_none (get_or sets v (pos 0)) u e)); some = i.some }

  -- its set is n or more, so that it is none of these
  pub named_beyond : (t : ℕ) → set_of (get_or sets v (pos 0)) ≡ Some t → n ≤ t → NamedTo w sets n (suc v) least
  named_beyond t e h = record {
    room = i.room;
    names = λ u l. i.names u l ∙ sym (name_out w sets v u (set_other (get_or sets v (pos 0)) t u e (λ q. omega arith)));
    some = i.some;
  }

  -- its set is t
  pub named_on : (t : ℕ) → set_of (get_or sets v (pos 0)) ≡ Some t → t < n → NamedTo w sets n (suc v) (set least t (Some (least_of (get_or least t None) (pos0_at w v + 1))))
  named_on t e h = record { room = rw (length-set least t (Some x)) i.room; names = names; some = some }
    where
      x : ℕ
      x = least_of (get_or least t None) (pos0_at w v + 1)

      inside : t < length least
      inside = omega (arith, i.room)

      names : (u : ℕ) → u < n → unwrap_or (get_or (set least t (Some x)) u None) 0 ≡ set_name_at w sets (suc v) u
      names u l = elim (ℕ_discrete u t) [
        | yes d ↦ rw (d, get_or-set_same least t (Some x) None inside) (least_is (get_or least t None) (pos0_at w v + 1) (omega arith) (λ o k. i.some t o h k) ∙ ap (λ (y : ℕ). earlier y (pos0_at w v + 1)) (i.names t h) ∙ sym (name_in w sets v t (set_is (get_or sets v (pos 0)) t e)))
        | no d ↦ ap (λ (o : Option ℕ). unwrap_or o 0) (get_or-set_other least t u (Some x) None d) ∙ i.names u l ∙ sym (name_out w sets v u (set_other (get_or sets v (pos 0)) t u e d))
      ]

      some : (u name : ℕ) → u < n → get_or (set least t (Some x)) u None ≡ Some name → 1 ≤ name
      some u name l k = elim (ℕ_discrete u t) [
        | yes d ↦ let e2 : Some x ≡ Some name = sym (get_or-set_same least t (Some x) None inside) ∙ rw d at k in
            let e3 : x ≡ name = cc in rw (← e3) (least_some (get_or least t None) (pos0_at w v + 1) (omega arith) (λ o q. i.some t o h q))
        | no d ↦ i.some u name l (sym (get_or-set_other least t u (Some x) None d) ∙ k)
      ]

-- ---- a variant's name
pub set_in : (n : ℕ) (sets : List ℤ) (v : ℕ) (o : Option ℕ) → o ≡ set_of (get_or sets v (pos 0)) → sets_ok n sets v ≡ true → IfSome o (λ t. t < n)
unfolding sets_ok
set_in n sets v o e ok = rw e (go (get_or sets v (pos 0)) ok)
  where
    go : (z : ℤ) → set_ok n z ≡ true → IfSome (set_of z) (λ t. t < n)
    go (pos s) o = ltb-true s n o
    go (negsuc s) o = tt

module _ (w : List ℤ) (bytes : List ℕ) (sets : List ℤ) (n v : ℕ) where
  pub unnamed : is_phase (byte_of bytes v) ≡ false → 0 ≡ phase_name_at w bytes sets n v
  unfolding phase_name_at
  unnamed h = simp h

  pub no_set : is_phase (byte_of bytes v) ≡ true → set_of (get_or sets v (pos 0)) ≡ None → 0 ≡ phase_name_at w bytes sets n v
  unfolding phase_name_at name_of_set
  no_set h e = rw h (go (get_or sets v (pos 0)) e)
    where
      go : (z : ℤ) → set_of z ≡ None → 0 ≡ name_of_set (set_name_at w sets n) z
      go (pos s) q = absurd (none-some s (sym q))
      go (negsuc s) q = refl

pub its_name : {w sets : List ℤ} {n : ℕ} {least : List (Option ℕ)} → NamedTo w sets n n least → (bytes : List ℕ) (v : ℕ) → is_phase (byte_of bytes v) ≡ true
    → (t : ℕ) → set_of (get_or sets v (pos 0)) ≡ Some t → t < n → unwrap_or (get_or least t None) 0 ≡ phase_name_at w bytes sets n v
unfolding phase_name_at name_of_set
its_name {w} {sets} {n} {least} i bytes v h t e l = rw h (i.names t l ∙ go (get_or sets v (pos 0)) e)
  where
    go : (z : ℤ) → set_of z ≡ Some t → set_name_at w sets n t ≡ name_of_set (set_name_at w sets n) z
    go (pos s) q = let k : s ≡ t = cc in rw k
    go (negsuc s) q = absurd (none-some t q)
