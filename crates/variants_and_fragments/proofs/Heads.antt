-- The place of the head's fault, test by test: the tests before it hold, and its own fails; and the head's lines of the outcome as one test at
-- that place.
-- Assumes nothing.
use mathlib.Core.Path.{◌≡◌, refl, ◌∙◌}
use mathlib.Core.Bool.{Bool, true, false, cond}
use mathlib.Core.List.{List, [], ◌∷◌}
use Prim.Native.Nat.{ℕ, ◌≤◌, ◌<◌}
use native.Mathlib.Omega.{arith}
use borrow.Author.Tests.{le-leb, lt-leb, eq-eqb, ne_eqb}
use lib.Dec.{leb, eqb, lit<}
use lib.IntN.{ℤ, pos}
use lib.ListN.{length}
use Rattle.variants_and_fragments.specs.declared.Sizes.{Sizes}
use Rattle.variants_and_fragments.specs.Inner.First.{first_false}
use Rattle.variants_and_fragments.specs.Refusals.{Outcome, refused, done, unless}
use Rattle.variants_and_fragments.specs.Words.{word, within}
use Rattle.variants_and_fragments.specs.Layout.{head_words, max_variants, max_fragments, max_calls, lowest_quality, variants_field, fragments_field, calls_field, used_field, free_field, total_words, sizes_of, cutoff_at}
use Rattle.variants_and_fragments.specs.Inner.Head.{head_fault, head_lines, head_outcome}
use Rattle.variants_and_fragments.proofs.Outcomes.{unless_on, unless_at}
use Rattle.variants_and_fragments.proofs.Ranges.{upto_nat}

pub head_short : (w : List ℤ) → length w < head_words → 0 ≡ head_fault w
unfolding head_fault
head_short w h = simp (lt-leb _ _ h)

module _ (w : List ℤ) (s : Sizes) (e : s ≡ sizes_of w) (long : head_words ≤ length w) where
  -- each count's range, of its number
  n_range : within (pos 0) (pos max_variants) (word w variants_field) ≡ leb (sizes_of w).n max_variants
  n_range = upto_nat max_variants (word w variants_field) (lit< tt)

  f_range : within (pos 0) (pos max_fragments) (word w fragments_field) ≡ leb (sizes_of w).f max_fragments
  f_range = upto_nat max_fragments (word w fragments_field) (lit< tt)

  c_range : within (pos 0) (pos max_calls) (word w calls_field) ≡ leb (sizes_of w).c max_calls
  c_range = upto_nat max_calls (word w calls_field) (lit< tt)

  pub head_variants : max_variants < s.n → 0 ≡ head_fault w
  unfolding head_fault first_false
  head_variants h = let t : leb (sizes_of w).n max_variants ≡ false = rw e at (lt-leb _ _ h) in simp (le-leb _ _ long, n_range, t)

  module _ (n_in : s.n ≤ max_variants) where
    n_test : within (pos 0) (pos max_variants) (word w variants_field) ≡ true
    n_test = rw n_range (rw e at (le-leb _ _ n_in))

    pub head_fragments : max_fragments < s.f → 1 ≡ head_fault w
    unfolding head_fault first_false
    head_fragments h = let t : leb (sizes_of w).f max_fragments ≡ false = rw e at (lt-leb _ _ h) in simp (le-leb _ _ long, n_test, f_range, t)

    module _ (f_in : s.f ≤ max_fragments) where
      f_test : within (pos 0) (pos max_fragments) (word w fragments_field) ≡ true
      f_test = rw f_range (rw e at (le-leb _ _ f_in))

      pub head_calls : max_calls < s.c → 2 ≡ head_fault w
      unfolding head_fault first_false
      head_calls h = let t : leb (sizes_of w).c max_calls ≡ false = rw e at (lt-leb _ _ h) in simp (le-leb _ _ long, n_test, f_test, c_range, t)

      module _ (c_in : s.c ≤ max_calls) where
        c_test : within (pos 0) (pos max_calls) (word w calls_field) ≡ true
        c_test = rw c_range (rw e at (le-leb _ _ c_in))

        pub head_cutoff : within lowest_quality (pos 0) (cutoff_at w) ≡ false → 3 ≡ head_fault w
        unfolding head_fault first_false
        head_cutoff h = simp (le-leb _ _ long, n_test, f_test, c_test, h)

        module _ (cutoff_in : within lowest_quality (pos 0) (cutoff_at w) ≡ true) where
          used_range : within (pos 0) (pos (sizes_of w).c) (word w used_field) ≡ leb (sizes_of w).used (sizes_of w).c
          used_range = let top : (sizes_of w).c ≤ max_calls = rw e at c_in in upto_nat (sizes_of w).c (word w used_field) (omega arith)

          pub head_used : s.c < s.used → 4 ≡ head_fault w
          unfolding head_fault first_false
          head_used h = let t : leb (sizes_of w).used (sizes_of w).c ≡ false = rw e at (lt-leb _ _ h) in simp (le-leb _ _ long, n_test, f_test, c_test, cutoff_in, used_range, t)

          module _ (used_in : s.used ≤ s.c) where
            used_low : s.used ≤ max_calls
            used_low = omega arith

            used_test : within (pos 0) (pos (sizes_of w).c) (word w used_field) ≡ true
            used_test = rw used_range (rw e at (le-leb _ _ used_in))

            free_range : within (pos 0) (pos (sizes_of w).used) (word w free_field) ≡ leb (sizes_of w).free (sizes_of w).used
            free_range = let top : (sizes_of w).used ≤ max_calls = rw e at used_low in upto_nat (sizes_of w).used (word w free_field) (omega arith)

            pub head_free : s.used < s.free → 5 ≡ head_fault w
            unfolding head_fault first_false
            head_free h = let t : leb (sizes_of w).free (sizes_of w).used ≡ false = rw e at (lt-leb _ _ h) in simp (le-leb _ _ long, n_test, f_test, c_test, cutoff_in, used_test, free_range, t)

            module _ (Free-in : s.free ≤ s.used) where
              free_test : within (pos 0) (pos (sizes_of w).used) (word w free_field) ≡ true
              free_test = rw free_range (rw e at (le-leb _ _ Free-in))

              pub head_right : length w ≡ total_words s → 7 ≡ head_fault w
              unfolding head_fault first_false
              head_right h = let t : eqb (length w) (total_words (sizes_of w)) ≡ true = rw e at (eq-eqb _ _ h) in simp (le-leb _ _ long, n_test, f_test, c_test, cutoff_in, used_test, free_test, t)

              pub head_length : (length w ≡ total_words s → ⊥) → 6 ≡ head_fault w
              unfolding head_fault first_false
              head_length h = let t : eqb (length w) (total_words (sizes_of w)) ≡ false = rw e at (ne_eqb _ _ h) in simp (le-leb _ _ long, n_test, f_test, c_test, cutoff_in, used_test, free_test, t)

-- ---- the head's lines of the table
lines : {X : Type 0} (a n f c q u z l : Bool) (rest : Outcome X)
    → unless (leb 7 (cond a (first_false (n ∷ f ∷ c ∷ q ∷ u ∷ z ∷ l ∷ [])) 0)) 1 (cond a (first_false (n ∷ f ∷ c ∷ q ∷ u ∷ z ∷ l ∷ [])) 0) rest
    ≡ unless a 1 0 (unless n 1 0 (unless f 1 1 (unless c 1 2 (unless q 1 3 (unless u 1 4 (unless z 1 5 (unless l 1 6 rest)))))))
unfolding first_false unless
lines false n f c q u z l rest = refl
lines true false f c q u z l rest = refl
lines true true false c q u z l rest = refl
lines true true true false q u z l rest = refl
lines true true true true false u z l rest = refl
lines true true true true true false z l rest = refl
lines true true true true true true false l rest = refl
lines true true true true true true true false rest = refl
lines true true true true true true true true rest = refl

pub head_lines_lem : {X : Type 0} (w : List ℤ) (rest : Outcome X) → unless (leb 7 (head_fault w)) 1 (head_fault w) rest ≡ head_lines w rest
unfolding head_fault
head_lines_lem w rest = lines (leb head_words (length w)) _ _ _ _ _ _ _ rest

-- the outcome at a fault of the head, and where there is none
pub head_refused : (w : List ℤ) (p : ℕ) → p ≡ head_fault w → p < 7 → refused 1 p ≡ head_outcome w
head_refused w p e l = rw e (unless_at _ 1 (head_fault w) _ (lt-leb 7 (head_fault w) (omega arith)) ∙ head_lines_lem w _)

pub head_done : (w : List ℤ) (s : Sizes) → s ≡ sizes_of w → 7 ≡ head_fault w → done s ≡ head_outcome w
head_done w s e p = rw e (unless_on _ 1 (head_fault w) _ (le-leb 7 (head_fault w) (omega arith)) ∙ head_lines_lem w _)
