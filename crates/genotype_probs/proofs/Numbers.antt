-- The numbers of bases and letters: A C G T are 0 to 3, D and I are 4 and 5, and each stands at its number in the code's lists.
-- Assumes nothing.
use mathlib.Core.Path.{◌≡◌, refl, sym, ap, ◌∙◌}
use Prim.Native.Nat.{ℕ, zero, suc, ◌+◌, ◌%◌, ◌<◌}
use native.Mathlib.Omega.{arith}
use mathlib.Core.List.{List, [], ◌∷◌}
use lib.ListN.{get_or}
use Rattle.genotype_probs.specs.Letters.{Base, A, C, G, T, Letter, base, D, I, base_number, letter_number, transition_of}

pub base_low : (b : Base) → base_number b < 4
unfolding base_number
base_low A = omega arith
base_low C = omega arith
base_low G = omega arith
base_low T = omega arith

pub letter_low : (x : Letter) → letter_number x < 6
unfolding letter_number
letter_low (base b) = omega (arith, base_low b)
letter_low D = omega arith
letter_low I = omega arith

-- the code's lists
abbrev pub bases : List Base
bases = A ∷ C ∷ G ∷ T ∷ []

abbrev pub letters : List Letter
letters = base A ∷ base C ∷ base G ∷ base T ∷ D ∷ I ∷ []

pub base_there : (b : Base) → get_or bases (base_number b) T ≡ b
unfolding base_number
base_there A = refl
base_there C = refl
base_there G = refl
base_there T = refl

pub letter_there : (x : Letter) → get_or letters (letter_number x) I ≡ x
unfolding letter_number base_number
letter_there (base A) = refl
letter_there (base C) = refl
letter_there (base G) = refl
letter_there (base T) = refl
letter_there D = refl
letter_there I = refl

pub base_listed : (i : ℕ) (d : Base) → i < 4 → base_number (get_or bases i d) ≡ i
unfolding base_number
base_listed zero d h = refl
base_listed (suc zero) d h = refl
base_listed (suc (suc zero)) d h = refl
base_listed (suc (suc (suc zero))) d h = refl
base_listed (suc (suc (suc (suc n)))) d h = absurd (omega arith)

pub letter_listed : (i : ℕ) (d : Letter) → i < 6 → letter_number (get_or letters i d) ≡ i
unfolding letter_number base_number
letter_listed zero d h = refl
letter_listed (suc zero) d h = refl
letter_listed (suc (suc zero)) d h = refl
letter_listed (suc (suc (suc zero))) d h = refl
letter_listed (suc (suc (suc (suc zero)))) d h = refl
letter_listed (suc (suc (suc (suc (suc zero))))) d h = refl
letter_listed (suc (suc (suc (suc (suc (suc n)))))) d h = absurd (omega arith)

-- a number has one base, and one letter
pub base_one : (a b : Base) → base_number a ≡ base_number b → a ≡ b
base_one a b e = sym (base_there a) ∙ ap (λ n. get_or bases n T) e ∙ base_there b

pub letter_one : (x y : Letter) → letter_number x ≡ letter_number y → x ≡ y
letter_one x y e = sym (letter_there x) ∙ ap (λ n. get_or letters n I) e ∙ letter_there y

-- below 4 a letter is a base
pub letter_is_base : (n : ℕ) → n < 4 → get_or letters n I ≡ base (get_or bases n T)
letter_is_base zero h = refl
letter_is_base (suc zero) h = refl
letter_is_base (suc (suc zero)) h = refl
letter_is_base (suc (suc (suc zero))) h = refl
letter_is_base (suc (suc (suc (suc n)))) h = absurd (omega arith)

-- the other base of a transition
pub transition_number : (b : Base) → base_number (transition_of b) ≡ (base_number b + 2) % 4
unfolding base_number transition_of
transition_number A = refl
transition_number C = refl
transition_number G = refl
transition_number T = refl
