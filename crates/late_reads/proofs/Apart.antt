-- Lists of records by their members: where a member stands, lists that share none, a chain that is good because no record comes twice, and records linked
-- one after the other, which are the chain from the first. The chains of an accepted case have no record twice, and no two share one.
-- Assumes nothing.
use mathlib.Core.Path.{◌≡◌, refl, sym, ◌∙◌}
use mathlib.Core.Bool.{Bool, true, false, not, ◌||◌}
use mathlib.Core.List.{List, [], ◌∷◌, ◌++◌}
use mathlib.Core.Logic.{◌⊎◌, inl, inr}
use Prim.Native.Nat.{ℕ, zero, suc, ◌≤◌, ◌<◌}
use native.Mathlib.Nat.{le_refl}
use native.Mathlib.Omega.{arith}
use native.Mathlib.Decide.{ℕ_discrete}
use borrow.Author.Tests.{ne_eqb}
use lib.IntN.{ℤ}
use lib.ListN.{length, get_or}
use Rattle.variants_and_fragments.specs.declared.Sizes.{Sizes}
use Rattle.variants_and_fragments.specs.Chain.{next_call_at, chain_from, chain_of, free_chain, memb, reached, good_chain}
use Rattle.variants_and_fragments.specs.Inner.Accepted.{allb, CaseIn}
use Rattle.variants_and_fragments.proofs.Bools.{both, not_on, off, true_false}
use Rattle.variants_and_fragments.proofs.Free.{chains_distinct, chains_within}
use Rattle.variants_and_fragments.proofs.Linked.{Linked, linked_by, linked_fuel}
use Rattle.variants_and_fragments.proofs.Pigeon.{distinct, Within, none, more, pigeon, within_memb, memb_head, memb_more, memb_append, memb_left, memb_right, distinct_left, reached_ok, reached_has}
use Rattle.late_reads.proofs.Distinct.{memb_at}
use Rattle.late_reads.proofs.Room.{place_in}

-- ---- members
pub or_cases : (a b : Bool) → (a || b) ≡ true → (a ≡ true) ⊎ (b ≡ true)
or_cases true b h = inl refl
or_cases false b h = inr h

pub memb_cases : (x : ℕ) (rs l : List ℕ) → memb x (rs ++ l) ≡ true → (memb x rs ≡ true) ⊎ (memb x l ≡ true)
memb_cases x rs l h = or_cases (memb x rs) (memb x l) (sym (memb_append x rs l) ∙ h)

-- a member stands at some place
pub memb_place : (l : List ℕ) (x : ℕ) → memb x l ≡ true → (i : ℕ) × (i < length l) × (x ≡ get_or l i 0)
unfolding memb
memb_place [] x h = true_false h refl
memb_place (y ∷ l) x h = elim (ℕ_discrete x y) [
  | yes e ↦ (0, omega arith, e)
  | no n ↦ let i = memb_place l x (rw (ne_eqb x y n) at h) in (suc i.0, omega (arith, i.1), i.2)
]

-- what stands at a place, or 0 past the end, is no more than the members are
pub place_top : (l : List ℕ) (i : ℕ) {c : ℕ} → ((x : ℕ) → memb x l ≡ true → x ≤ c) → get_or l i 0 ≤ c
place_top l i each = elim (ℕ_discrete (get_or l i 0) 0) [ yes e ↦ omega arith | no e ↦ each (get_or l i 0) (memb_at l i (place_in l i e)) ]

-- what holds of all holds of each member
pub memb_all : (p : ℕ → Bool) (l : List ℕ) (x : ℕ) → allb p l ≡ true → memb x l ≡ true → p x ≡ true
unfolding allb memb
memb_all p [] x h m = true_false m refl
memb_all p (y ∷ ys) x h m = let b = both (p y) (allb p ys) h in elim (ℕ_discrete x y) [ yes e ↦ rw e b.0 | no e ↦ memb_all p ys x b.1 (rw (ne_eqb x y e) at m) ]

-- ---- lists that share no record
pub distinct_right : (rs l : List ℕ) → distinct (rs ++ l) ≡ true → distinct l ≡ true
unfolding distinct
distinct_right [] l h = h
distinct_right (r ∷ rs) l h = distinct_right rs l (both (not (memb r (rs ++ l))) (distinct (rs ++ l)) h).1

pub distinct_apart : (rs l : List ℕ) → distinct (rs ++ l) ≡ true → (x : ℕ) → memb x rs ≡ true → memb x l ≡ true → ⊥
unfolding distinct memb
distinct_apart [] l h x m n = true_false m refl
distinct_apart (r ∷ rs) l h x m n =
    let a = both (not (memb r (rs ++ l))) (distinct (rs ++ l)) h in
    elim (ℕ_discrete x r) [
      | yes e ↦ true_false (memb_right r rs l (rw e at n)) (not_on _ a.0)
      | no e ↦ distinct_apart rs l a.1 x (rw (ne_eqb x r e) at m) n
    ]

pub distinct_join : (rs l : List ℕ) → distinct rs ≡ true → distinct l ≡ true → ((x : ℕ) → memb x rs ≡ true → memb x l ≡ true → ⊥) → distinct (rs ++ l) ≡ true
unfolding distinct
distinct_join [] l a b n = b
distinct_join (r ∷ rs) l a b n =
    let d = both (not (memb r rs)) (distinct rs) a in
    let first : memb r rs ≡ false = not_on _ d.0 in
    let fresh : memb r (rs ++ l) ≡ false = memb_append r rs l ∙ rw first (off (memb r l) (n r (memb_head r r rs refl))) in
    rw fresh (distinct_join rs l d.1 b (λ x m. n x (memb_more x r rs m)))

-- distinct numbers of 1..c are no more than that
within_by : (c : ℕ) (l : List ℕ) → ((x : ℕ) → memb x l ≡ true → (1 ≤ x) × (x ≤ c)) → Within c l
within_by c [] each = none
within_by c (x ∷ l) each = let b = each x (memb_head x x l refl) in more b.0 b.1 (within_by c l (λ y m. each y (memb_more y x l m)))

-- a chain is good where no record of it comes twice, each link is right and none was reached before
pub good_by : (right : ℕ → Bool) (rs l : List ℕ) → distinct rs ≡ true → ((x : ℕ) → memb x rs ≡ true → right x ≡ true) → ((x : ℕ) → memb x rs ≡ true → memb x l ≡ true → ⊥)
    → good_chain right l rs ≡ true
unfolding good_chain distinct memb
good_by right [] l d links n = refl
good_by right (r ∷ rs) l d links n =
    let a = both (not (memb r rs)) (distinct rs) d in
    let fresh : memb r l ≡ false = off (memb r l) (n r (memb_head r r rs refl)) in
    let fresh-later : memb r rs ≡ false = not_on _ a.0 in
    rw (fresh, links r (memb_head r r rs refl))
    (good_by right rs (r ∷ l) a.1 (λ x m. links x (memb_more x r rs m)) (λ x m h. elim (ℕ_discrete x r) [
      | yes e ↦ true_false (rw e at m) fresh-later
      | no e ↦ n x (memb_more x r rs m) (rw (ne_eqb x r e) at h)
    ]))

-- ---- chains
module _ (w : List ℤ) (s : Sizes) where
  -- records each of which has the one after it as its next are the chain from the first of them
  pub chain_by : (l : List ℕ) (n : ℕ) → distinct l ≡ true → ((x : ℕ) → memb x l ≡ true → (1 ≤ x) × (x ≤ s.used)) → ((i : ℕ) → i < length l → next_call_at w s (get_or l i 0) ≡ get_or l (suc i) 0)
      → s.used ≤ n → chain_from w s n (get_or l 0 0) ≡ l
  chain_by l n d each next top =
      let linked : Linked w s (λ x. true) (get_or l 0 0) l = linked_by l (λ i h. let b = each (get_or l i 0) (memb_at l i h) in (b.0, b.1, refl, next i h)) in
      linked_fuel linked n (omega (arith, pigeon s.used l d (within_by s.used l each)))

  -- what is reached is in some fragment's chain
  pub reached_where : (n x : ℕ) → memb x (reached w s n) ≡ true → (g : ℕ) × (g < n) × (memb x (chain_of w s g) ≡ true)
  unfolding reached memb
  reached_where zero x h = true_false h refl
  reached_where (suc n) x h = elim (memb_cases x (chain_of w s n) (reached w s n) h) [
    | inl m ↦ (n, omega arith, m)
    | inr m ↦ let g = reached_where n x m in (g.0, omega (arith, g.1), g.2)
  ]

  each_distinct : (n g : ℕ) → distinct (reached w s n) ≡ true → g < n → distinct (chain_of w s g) ≡ true
  unfolding reached
  each_distinct zero g d l = absurd (omega arith)
  each_distinct (suc n) g d l = elim (ℕ_discrete g n) [
    | yes e ↦ rw e (distinct_left (chain_of w s n) (reached w s n) d)
    | no e ↦ each_distinct n g (distinct_right (chain_of w s n) (reached w s n) d) (omega arith)
  ]

  each_apart : (n g h x : ℕ) → distinct (reached w s n) ≡ true → g < n → h < n → (g ≡ h → ⊥) → memb x (chain_of w s g) ≡ true → memb x (chain_of w s h) ≡ true → ⊥
  unfolding reached
  each_apart zero g h x d l m other a b = omega arith
  each_apart (suc n) g h x d l m other a b = elim (ℕ_discrete g n) [
    | yes e ↦ distinct_apart (chain_of w s n) (reached w s n) d x (rw e at a) (reached_has w s x h n (omega arith) b)
    | no e ↦ elim (ℕ_discrete h n) [
      | yes q ↦ distinct_apart (chain_of w s n) (reached w s n) d x (rw q at b) (reached_has w s x g n (omega arith) a)
      | no q ↦ each_apart n g h x (distinct_right (chain_of w s n) (reached w s n) d) (omega arith) (omega arith) other a b
    ]
  ]

-- of an accepted case
module _ {w : List ℤ} {s : Sizes} (k : CaseIn w s) where
  all_distinct : distinct (reached w s s.f) ≡ true
  all_distinct = (reached_ok w s k s.f (le_refl _)).0

  pub chain_distinct : (g : ℕ) → g < s.f → distinct (chain_of w s g) ≡ true
  chain_distinct g l = each_distinct w s s.f g all_distinct l

  pub chains_apart : (g h x : ℕ) → g < s.f → h < s.f → (g ≡ h → ⊥) → memb x (chain_of w s g) ≡ true → memb x (chain_of w s h) ≡ true → ⊥
  chains_apart g h x l m other = each_apart w s s.f g h x all_distinct l m other

  pub free_apart : (g x : ℕ) → g < s.f → memb x (free_chain w s) ≡ true → memb x (chain_of w s g) ≡ true → ⊥
  free_apart g x l a b = distinct_apart (free_chain w s) (reached w s s.f) (chains_distinct k) x a (reached_has w s x g s.f l b)

  -- a free record is a used one
  pub free_record : (x : ℕ) → memb x (free_chain w s) ≡ true → (1 ≤ x) × (x ≤ s.used)
  free_record x h = within_memb s.used (free_chain w s ++ reached w s s.f) (chains_within k) x (memb_left x (free_chain w s) (reached w s s.f) h)
