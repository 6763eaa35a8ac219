-- The smaller and the larger of two alleles, in the byte's order.
use Rattle.std.proofs.Common.{◌≡◌, ℕ, min, max, ◌∙◌, arith}
use native.Mathlib.Decide.{dec_le}
use borrow.Author.Tests.{le-leb, lt-leb, eq-eqb, ne_eqb}
use Rattle.haplotype_assembly.specs.Phase.{low, high, ordered_first, ordered_second}
use Rattle.haplotype_assembly.proofs.phase.ordered.Goals as goal

low_is : (a b : ℕ) → min a b ≡ low a b
low_is a b = elim (dec_le a b) [ yes h ↦ rw (le-leb a b h) (omega arith) | no h ↦ rw (lt-leb a b (omega arith)) (omega arith) ]

high_is : (a b : ℕ) → max a b ≡ high a b
high_is a b = elim (dec_le a b) [ yes h ↦ rw (le-leb a b h) (omega arith) | no h ↦ rw (lt-leb a b (omega arith)) (omega arith) ]

pub returns-in-48 : goal.returns-in-48
unfolding ordered_first ordered_second
returns-in-48 c = simp (eq-eqb _ _ c.in-48.is) (c.min.ensures ∙ low_is _ _, c.max.ensures ∙ high_is _ _)

pub returns-in-49 : goal.returns-in-49
unfolding ordered_first ordered_second
returns-in-49 c = let ne : c.args.byte ≡ 48 → ⊥ = (λ e. omega arith) in simp (ne_eqb _ _ ne, eq-eqb _ _ c.in-49.is) (c.max-in-49.ensures ∙ high_is _ _, c.min-in-49.ensures ∙ low_is _ _)

pub returns-in_default : goal.returns-in_default
unfolding ordered_first ordered_second
returns-in_default c = grind arith
