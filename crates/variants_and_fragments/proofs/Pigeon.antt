-- The chains of an accepted case share no record: the records reached are distinct numbers of 1..used, and a list of such has no more than that.
-- Assumes nothing.
use mathlib.Core.Path.{◌≡◌, refl, sym, ◌∙◌}
use mathlib.Core.Bool.{Bool, true, false, not, cond, ◌&&◌, ◌||◌}
use mathlib.Core.List.{List, [], ◌∷◌, ◌++◌}
use Prim.Native.Nat.{ℕ, zero, suc, ◌≤◌, ◌<◌}
use native.Mathlib.Nat.{le_refl}
use native.Mathlib.Omega.{arith}
use native.Mathlib.Decide.{ℕ_discrete}
use borrow.Author.Tests.{eq-eqb, ne_eqb}
use lib.ListN.{length}
use lib.IntN.{ℤ}
use lib.Dec.{eqb}
use Rattle.variants_and_fragments.specs.declared.Sizes.{Sizes}
use Rattle.variants_and_fragments.specs.Chain.{next_call_at, first_call_at, is_record, link_ok, chain_from, chain_of, memb, reached, good_chain}
use Rattle.variants_and_fragments.specs.Inner.Accepted.{CaseIn}
use Rattle.variants_and_fragments.proofs.Bools.{both, or_off, or_right, not_on, true_false}
use Rattle.variants_and_fragments.proofs.Chain.{record_bounds}
use Rattle.variants_and_fragments.proofs.Walks.{memb_middle}

-- no number comes twice
unfoldable pub distinct : List ℕ → Bool
distinct [] = true
distinct (x ∷ xs) = not (memb x xs) && distinct xs

without : ℕ → List ℕ → List ℕ
without x [] = []
without x (y ∷ ys) = cond (eqb x y) (without x ys) (y ∷ without x ys)

without_in : (x y : ℕ) (ys : List ℕ) → x ≡ y → without x (y ∷ ys) ≡ without x ys
unfolding without
without_in x y ys e = simp (eq-eqb _ _ e)

without_out : (x y : ℕ) (ys : List ℕ) → (x ≡ y → ⊥) → without x (y ∷ ys) ≡ y ∷ without x ys
unfolding without
without_out x y ys e = simp (ne_eqb _ _ e)

-- x is not in l: nothing is taken out
keeps : (x : ℕ) (l : List ℕ) → memb x l ≡ false → length l ≤ length (without x l)
unfolding memb without
keeps x [] h = le_refl 0
keeps x (y ∷ ys) h = let o = or_off (eqb x y) (memb x ys) h in rw o.0 (omega (arith, keeps x ys o.1))

-- of a list with no doubles, one at most
one_out : (x : ℕ) (l : List ℕ) → distinct l ≡ true → length l ≤ suc (length (without x l))
unfolding distinct
one_out x [] h = omega arith
one_out x (y ∷ ys) h =
    let d = both (not (memb y ys)) (distinct ys) h in
    elim (ℕ_discrete x y) [
      | yes e ↦ rw (without_in x y ys e) (let k : length ys ≤ length (without x ys) = keeps x ys (rw e (not_on _ d.0)) in omega arith)
      | no e ↦ rw (without_out x y ys e) (omega (arith, one_out x ys d.1))
    ]

memb_out : (y x : ℕ) (l : List ℕ) → memb y l ≡ false → memb y (without x l) ≡ false
unfolding memb without
memb_out y x [] h = refl
memb_out y x (z ∷ zs) h =
    let o = or_off (eqb y z) (memb y zs) h in
    elim (ℕ_discrete x z) [
      | yes e ↦ rw (without_in x z zs e) (memb_out y x zs o.1)
      | no e ↦ rw (without_out x z zs e, o.0) (memb_out y x zs o.1)
    ]

distinct_out : (x : ℕ) (l : List ℕ) → distinct l ≡ true → distinct (without x l) ≡ true
unfolding distinct without
distinct_out x [] h = refl
distinct_out x (y ∷ ys) h =
    let d = both (not (memb y ys)) (distinct ys) h in
    elim (ℕ_discrete x y) [
      | yes e ↦ rw (without_in x y ys e) (distinct_out x ys d.1)
      | no e ↦ rw (without_out x y ys e, memb_out y x ys (not_on _ d.0)) (distinct_out x ys d.1)
    ]

-- all of l are in 1..c
pub data Within (c : ℕ) : List ℕ → Type 0 where
  none : Within c []
  more : {x : ℕ} {xs : List ℕ} → 1 ≤ x → x ≤ c → Within c xs → Within c (x ∷ xs)

pub within_memb : (c : ℕ) (l : List ℕ) → Within c l → (x : ℕ) → memb x l ≡ true → (1 ≤ x) × (x ≤ c)
unfolding memb
within_memb c [] none x h = true_false h refl
within_memb c (y ∷ ys) (more lo hi i) x h = elim (ℕ_discrete x y) [ yes e ↦ rw e (lo, hi) | no n ↦ within_memb c ys i x (rw (ne_eqb x y n) at h) ]

within_out : (c : ℕ) (l : List ℕ) → Within (suc c) l → Within c (without (suc c) l)
unfolding without
within_out c [] none = none
within_out c (y ∷ ys) (more a b r) = elim (ℕ_discrete (suc c) y) [
  | yes e ↦ rw (without_in (suc c) y ys e) (within_out c ys r)
  | no e ↦ rw (without_out (suc c) y ys e) (more a (omega arith) (within_out c ys r))
]

within_zero : (l : List ℕ) → Within 0 l → length l ≤ 0
within_zero [] none = le_refl 0
within_zero (y ∷ ys) (more a b r) = absurd (omega arith)

pub pigeon : (c : ℕ) (l : List ℕ) → distinct l ≡ true → Within c l → length l ≤ c
pigeon zero l d w = within_zero l w
pigeon (suc c) l d w = omega (arith, one_out (suc c) l d, pigeon c (without (suc c) l) (distinct_out (suc c) l d) (within_out c l w))

-- ---- members
-- the first of a list is one, and so are the later ones
pub memb_head : (x y : ℕ) (l : List ℕ) → x ≡ y → memb x (y ∷ l) ≡ true
unfolding memb
memb_head x y l e = rw (eq-eqb x y e)

pub memb_more : (x y : ℕ) (l : List ℕ) → memb x l ≡ true → memb x (y ∷ l) ≡ true
unfolding memb
memb_more x y l h = or_right (eqb x y) (memb x l) h

-- lists one after the other
pub memb_append : (x : ℕ) (rs l : List ℕ) → memb x (rs ++ l) ≡ (memb x rs || memb x l)
unfolding memb
memb_append x [] l = refl
memb_append x (y ∷ rs) l = elim (ℕ_discrete x y) [ yes e ↦ rw (eq-eqb x y e) | no n ↦ rw (ne_eqb x y n) (memb_append x rs l) ]

-- ---- chains
-- one moved within a list
distinct_middle : (r : ℕ) (rs l : List ℕ) → distinct (rs ++ (r ∷ l)) ≡ true → distinct (r ∷ rs ++ l) ≡ true
unfolding distinct memb
distinct_middle r [] l h = h
distinct_middle r (y ∷ rs) l h =
    let a = both (not (memb y (rs ++ (r ∷ l)))) (distinct (rs ++ (r ∷ l))) h in
    let b = both (not (memb r (rs ++ l))) (distinct (rs ++ l)) (distinct_middle r rs l a.1) in
    let off : memb y (r ∷ rs ++ l) ≡ false = memb_middle y r rs l ∙ not_on _ a.0 in
    let parts = or_off (eqb y r) (memb y (rs ++ l)) off in
    let apart : eqb r y ≡ false = ne_eqb r y (λ e. let z : eqb y r ≡ true = eq-eqb y r (sym e) in true_false z parts.0) in
    let r-off : memb r (rs ++ l) ≡ false = not_on _ b.0 in
    let y-off : memb y (rs ++ l) ≡ false = parts.1 in
    let rest : distinct (rs ++ l) ≡ true = b.1 in
    rw (apart, r-off, y-off, rest) refl

-- the first part of a list without doubles
pub distinct_left : (rs l : List ℕ) → distinct (rs ++ l) ≡ true → distinct rs ≡ true
unfolding distinct
distinct_left [] l h = refl
distinct_left (r ∷ rs) l h =
    let a = both (not (memb r (rs ++ l))) (distinct (rs ++ l)) h in
    rw (or_off (memb r rs) (memb r l) (sym (memb_append r rs l) ∙ not_on _ a.0)).0 (distinct_left rs l a.1)

pub good_distinct : (right : ℕ → Bool) (rs l : List ℕ) → good_chain right l rs ≡ true → distinct l ≡ true → distinct (rs ++ l) ≡ true
unfolding good_chain distinct
good_distinct right [] l h d = d
good_distinct right (r ∷ rs) l h d =
    let a = both (not (memb r l)) (right r && good_chain right (r ∷ l) rs) h in
    let b = both (right r) (good_chain right (r ∷ l) rs) a.1 in
    distinct_middle r rs l (good_distinct right rs (r ∷ l) b.1 (rw a.0 d))

pub chain_within : (w : List ℤ) (s : Sizes) (k r : ℕ) (l : List ℕ) → Within s.used l → Within s.used (chain_from w s k r ++ l)
unfolding chain_from
chain_within w s zero r l h = h
chain_within w s (suc k) r l h = go (is_record s r) refl (chain_within w s k (next_call_at w s r) l h)
  where
    go : (t : Bool) → is_record s r ≡ t → Within s.used (chain_from w s k (next_call_at w s r) ++ l) → Within s.used (cond t (r ∷ chain_from w s k (next_call_at w s r)) [] ++ l)
    go false e rec = h
    go true e rec = let b = record_bounds s r e in more b.0 b.1 rec

pub reached_ok : (w : List ℤ) (s : Sizes) → CaseIn w s → (f : ℕ) → f ≤ s.f → (distinct (reached w s f) ≡ true) × Within s.used (reached w s f)
unfolding reached chain_of distinct
reached_ok w s k zero l = (refl, none)
reached_ok w s k (suc f) l =
    let i = reached_ok w s k f (omega arith) in
    (good_distinct (link_ok w s) (chain_of w s f) (reached w s f) (k.frags f (omega arith)).right i.0, chain_within w s s.c (first_call_at w s f) (reached w s f) i.1)

-- ---- what is in a chain is reached
pub memb_left : (r : ℕ) (rs l : List ℕ) → memb r rs ≡ true → memb r (rs ++ l) ≡ true
memb_left r rs l h = rw (memb_append r rs l, h)

pub memb_right : (r : ℕ) (rs l : List ℕ) → memb r l ≡ true → memb r (rs ++ l) ≡ true
memb_right r rs l h = memb_append r rs l ∙ or_right (memb r rs) (memb r l) h

pub reached_has : (w : List ℤ) (s : Sizes) (r f g : ℕ) → f < g → memb r (chain_of w s f) ≡ true → memb r (reached w s g) ≡ true
unfolding reached
reached_has w s r f zero l h = absurd (omega arith)
reached_has w s r f (suc g) l h = elim (ℕ_discrete f g) [
  | yes e ↦ memb_left r (chain_of w s g) (reached w s g) (rw e at h)
  | no e ↦ memb_right r (chain_of w s g) (reached w s g) (reached_has w s r f g (omega arith) h)
]
