-- Words with the qualities of some records 0: the length and every other word stay, and each quality of these records is 0.
-- Assumes nothing.
use mathlib.Core.Path.{◌≡◌, refl, ◌∙◌}
use mathlib.Core.Bool.{true}
use mathlib.Core.List.{List, [], ◌∷◌}
use Prim.Native.Nat.{ℕ, ◌+◌}
use native.Mathlib.Omega.{arith}
use native.Mathlib.Decide.{ℕ_discrete}
use borrow.Author.Tests.{eq-eqb, ne_eqb}
use lib.Dec.{eqb}
use lib.IntN.{ℤ, pos}
use lib.ListN.{length, set, length-set, get_or-eq_default}
use lib.Seq.{get_or-set_same, get_or-set_other}
use Rattle.steps.proofs.Signed.{cases, true_false}
use Rattle.variants_and_fragments.specs.declared.Sizes.{Sizes}
use Rattle.variants_and_fragments.specs.Chain.{memb}
use Rattle.variants_and_fragments.specs.Layout.{qual_field, one_minus_qual_field, call_at, call_set, call_word}
use Rattle.variants_and_fragments.specs.Words.{word}
use Rattle.variants_and_fragments.proofs.Bools.{or_right}
use Rattle.muted.specs.Unmuted.{records_zeroed}

-- ---- one word set to 0
set_zero : (w : List ℤ) (j : ℕ) → word (set w j (pos 0)) j ≡ pos 0
set_zero w j = cases j (length w)
    (λ l. get_or-set_same w j (pos 0) (pos 0) l)
    (λ l. let e = length-set w j (pos 0) in get_or-eq_default (set w j (pos 0)) (pos 0) (omega arith))

-- a word that is 0 stays so
zero_stays : (w : List ℤ) (j i : ℕ) → word w i ≡ pos 0 → word (set w j (pos 0)) i ≡ pos 0
zero_stays w j i z = elim (ℕ_discrete i j) [
  | yes e ↦ rw e (set_zero w j)
  | no e ↦ get_or-set_other w j i (pos 0) (pos 0) e ∙ z
]

module _ (s : Sizes) where
  -- both qualities of record r set to 0
  abbrev one : List ℤ → ℕ → List ℤ
  one w r = call_set (call_set w s r qual_field (pos 0)) s r one_minus_qual_field (pos 0)

  pub zeroed_long : (w : List ℤ) (rs : List ℕ) → length (records_zeroed w s rs) ≡ length w
  unfolding records_zeroed
  zeroed_long w [] = refl
  zeroed_long w (r ∷ rs) = zeroed_long (one w r) rs ∙ simp length-set

  -- a word that is no quality of one of the records stays
  pub zeroed_other : (w : List ℤ) (rs : List ℕ) (i : ℕ) → ((r : ℕ) → memb r rs ≡ true → (i ≡ call_at s r + qual_field → ⊥) × (i ≡ call_at s r + one_minus_qual_field → ⊥))
      → word (records_zeroed w s rs) i ≡ word w i
  unfolding records_zeroed memb
  zeroed_other w [] i n = refl
  zeroed_other w (r ∷ rs) i n =
      let here = n r (rw (eq-eqb r r refl) refl) in
      zeroed_other (one w r) rs i (λ x m. n x (or_right (eqb x r) (memb x rs) m))
      ∙ get_or-set_other (call_set w s r qual_field (pos 0)) (call_at s r + one_minus_qual_field) i (pos 0) (pos 0) here.1
      ∙ get_or-set_other w (call_at s r + qual_field) i (pos 0) (pos 0) here.0

  zeroed_zero : (w : List ℤ) (rs : List ℕ) (i : ℕ) → word w i ≡ pos 0 → word (records_zeroed w s rs) i ≡ pos 0
  unfolding records_zeroed
  zeroed_zero w [] i z = z
  zeroed_zero w (r ∷ rs) i z = zeroed_zero (one w r) rs i (zero_stays (call_set w s r qual_field (pos 0)) _ i (zero_stays w _ i z))

  -- the qualities of the records are 0
  pub zeroed_at : (w : List ℤ) (rs : List ℕ) (r : ℕ) → memb r rs ≡ true → (call_word (records_zeroed w s rs) s r qual_field ≡ pos 0) × (call_word (records_zeroed w s rs) s r one_minus_qual_field ≡ pos 0)
  unfolding records_zeroed memb
  zeroed_at w [] r m = true_false m refl
  zeroed_at w (x ∷ rs) r m = elim (ℕ_discrete r x) [
    | yes e ↦ rw e (
      zeroed_zero (one w x) rs (call_at s x + qual_field) (zero_stays (call_set w s x qual_field (pos 0)) (call_at s x + one_minus_qual_field) (call_at s x + qual_field) (set_zero w (call_at s x + qual_field))),
      zeroed_zero (one w x) rs (call_at s x + one_minus_qual_field) (set_zero (call_set w s x qual_field (pos 0)) (call_at s x + one_minus_qual_field)),
    )
    | no e ↦ zeroed_at (one w x) rs r (rw (ne_eqb r x e) at m)
  ]
