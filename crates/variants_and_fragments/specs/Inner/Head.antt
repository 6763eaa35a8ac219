-- Number 1 of the table: the place of the head's fault, and its lines of the outcome. Assumes nothing.
use Rattle.std.specs.Prelude.{Bool, cond, List, [], ◌∷◌, ℕ, leb, eqb, ℤ, pos, length}
use Rattle.variants_and_fragments.specs.declared.Sizes.{Sizes}
use Rattle.variants_and_fragments.specs.Refusals.{Outcome, done, unless}
use Rattle.variants_and_fragments.specs.Words.{word, within}
use Rattle.variants_and_fragments.specs.Inner.First.{first_false}
use Rattle.variants_and_fragments.specs.Layout.{head_words, max_variants, max_fragments, max_calls, lowest_quality, variants_field, fragments_field, calls_field, used_field, free_field, cutoff_at, sizes_of, total_words}

-- words 0 to 5, and at 6 the length
abbrev pub head_tests : List ℤ → List Bool
head_tests w =
    within (pos 0) (pos max_variants) (word w variants_field)
    ∷ within (pos 0) (pos max_fragments) (word w fragments_field)
    ∷ within (pos 0) (pos max_calls) (word w calls_field)
    ∷ within lowest_quality (pos 0) (cutoff_at w)
    ∷ within (pos 0) (pos (sizes_of w).c) (word w used_field)
    ∷ within (pos 0) (pos (sizes_of w).used) (word w free_field)
    ∷ eqb (length w) (total_words (sizes_of w))
    ∷ []

-- the place of the first that fails, 7 where there is none; under six words it is 0
unfoldable pub head_fault : List ℤ → ℕ
unfolding first_false
head_fault w = cond (leb head_words (length w)) (first_false (head_tests w)) 0

-- ---- the head's lines of the table
-- what is left past them is `rest`
abbrev pub head_lines : {X : Type 0} → List ℤ → Outcome X → Outcome X
head_lines w rest =
    unless (leb head_words (length w)) 1 0
    (unless (within (pos 0) (pos max_variants) (word w variants_field)) 1 0
    (unless (within (pos 0) (pos max_fragments) (word w fragments_field)) 1 1
    (unless (within (pos 0) (pos max_calls) (word w calls_field)) 1 2
    (unless (within lowest_quality (pos 0) (cutoff_at w)) 1 3
    (unless (within (pos 0) (pos (sizes_of w).c) (word w used_field)) 1 4
    (unless (within (pos 0) (pos (sizes_of w).used) (word w free_field)) 1 5
    (unless (eqb (length w) (total_words (sizes_of w))) 1 6
    rest)))))))

-- what the head says, where it is right
abbrev pub head_outcome : List ℤ → Outcome Sizes
head_outcome w = head_lines w (done (sizes_of w))
