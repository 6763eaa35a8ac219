-- The table's lines for numbers 1 to 5, as the parts of the check answer them. Assumes nothing.
use Rattle.std.specs.Prelude.{Result, List, ℕ, ℤ, eqb, length}
use Rattle.variants_and_fragments.specs.declared.Sizes.{Sizes}
use Rattle.variants_and_fragments.specs.declared.Refusal.{Refusal}
use Rattle.variants_and_fragments.specs.declared.laid.Laid.{Laid}
use Rattle.variants_and_fragments.specs.Refusals.{Outcome, done, answered, unless, each}
use Rattle.variants_and_fragments.specs.Layout.{variant_ok}
use Rattle.variants_and_fragments.specs.Alleles.{alleles_start, alleles_ok}
use Rattle.variants_and_fragments.specs.Chain.{reached_call_ok, fragment_ok, free_ok}

-- what the reading of the head answers: the sizes
abbrev pub laid_outcome : Result Laid Refusal → Outcome Sizes
laid_outcome answer = answered (λ laid. laid.sizes) answer

-- 2
abbrev pub variants_outcome : List ℤ → List ℕ → Sizes → Outcome Unit
variants_outcome w h s = each 2 (variant_ok w h) 0 s.n (done tt)

-- 3
abbrev pub alleles_outcome : List ℤ → List ℕ → Sizes → Outcome Unit
alleles_outcome w b s = unless (eqb (length b) (alleles_start w s.n)) 3 s.n (each 3 (alleles_ok w b) 0 s.n (done tt))

-- 4
abbrev pub calls_outcome : List ℤ → Sizes → Outcome Unit
calls_outcome w s = each 4 (reached_call_ok w s) 1 s.used (done tt)

-- 4 and 5
abbrev pub chains_outcome : List ℤ → Sizes → Outcome Unit
chains_outcome w s = each 4 (reached_call_ok w s) 1 s.used (each 5 (fragment_ok w s) 0 s.f (unless (free_ok w s) 5 s.f (done tt)))
