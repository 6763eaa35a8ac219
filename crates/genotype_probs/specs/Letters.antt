-- 01, section 3: the letters, and what one is beside a reference base. Assumes nothing.
use Rattle.std.specs.Prelude.{Bool, cond, ℕ, eqb}
pub use Rattle.genotype_probs.specs.declared.letters.Base.{Base}
pub use Rattle.genotype_probs.specs.declared.letters.Base.TheVariants.{A, C, G, T}
pub use Rattle.genotype_probs.specs.declared.letters.Letter.{Letter}
pub use Rattle.genotype_probs.specs.declared.letters.Letter.TheVariants.{Base as base, D, I}

-- 01, section 2: the allele bytes are A, C, G, T. 01, section 3: a letter is a base, I (a longer allele) or D (a shorter one). Both are types of
-- src/letters.rt, `Base` and `Letter`, which is `base` of a base, D or I

-- the base of an allele byte; T is the only other one of a case
unfoldable pub base_of : ℕ → Base
base_of byte = cond (eqb byte 65) A (cond (eqb byte 67) C (cond (eqb byte 71) G T))

-- the letters' numbers, in the order A C G T D I
unfoldable pub base_number : Base → ℕ
base_number A = 0
base_number C = 1
base_number G = 2
base_number T = 3

unfoldable pub letter_number : Letter → ℕ
letter_number (base b) = base_number b
letter_number D = 4
letter_number I = 5

-- whether two letters are the same: they have one number
unfoldable pub same_letter : Letter → Letter → Bool
same_letter x y = eqb (letter_number x) (letter_number y)

-- the transitions: A/G and C/T
unfoldable pub transition_of : Base → Base
transition_of A = G
transition_of G = A
transition_of C = T
transition_of T = C

-- what a letter is beside the reference base: that base, the other base of its transition, one of the two transversions, or D or I
pub data Change : Type 0 where
  same transition transversion indel : Change

unfoldable pub change : Base → Letter → Change
change ref (base b) =
    cond (same_letter (base b) (base ref))
    same
    (cond (same_letter (base b) (base (transition_of ref))) transition transversion)
change ref D = indel
change ref I = indel
