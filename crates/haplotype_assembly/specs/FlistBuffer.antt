-- 01, section 7 and the table of refusals: what the operation `generate_flist_buffer` answers and writes.
-- Assumes nothing.
use Rattle.std.specs.Prelude.{Result, Bool, List, [], ◌∷◌, ◌++◌, ℕ, ℤ, length, drop}
use Rattle.variants_and_fragments.specs.Refusals.{Outcome, done, answered, and_then, long_enough, Promise}
use Rattle.variants_and_fragments.specs.Check.{check_case_outcome}
use Rattle.variants_and_fragments.specs.Case.{Case}
use Rattle.variants_and_fragments.specs.Decode.{decode}
use Rattle.variants_and_fragments.specs.declared.Refusal.{Refusal}
use Rattle.haplotype_assembly.specs.declared.Counted.{Counted}
use Rattle.haplotype_assembly.specs.Lines.{flist_buffer, flist_lines}

-- how many bytes and lines are written
pub record Amount : Type 0 where
  pub bytes : ℕ
  pub lines : ℕ

abbrev pub amount_of : Case → Bool → Amount
amount_of case single = record { bytes = length (flist_buffer case single); lines = flist_lines case single }

-- 1 to 5, and 10: the bytes of all lines
unfoldable pub generate_flist_buffer_outcome : List ℤ → List ℕ → Bool → List ℕ → Outcome Amount
generate_flist_buffer_outcome w b single before =
    and_then (check_case_outcome w b) (λ s.
    long_enough ((length (flist_buffer (decode w b) single), length before) ∷ [])
    (done (amount_of (decode w b) single)))

-- the answer in these terms
abbrev pub outcome_of : Result Counted Refusal → Outcome Amount
outcome_of answer = answered (λ counted. record { bytes = counted.bytes; lines = counted.lines }) answer

-- section 7: the lines from the start of the buffer on; past them it is as before
unfoldable pub generate_flist_buffer_written : Case → Bool → List ℕ → List ℕ
generate_flist_buffer_written case single before =
    let lines = flist_buffer case single in
    lines ++ drop (length lines) before

abbrev pub FlistBuffer : List ℤ → List ℕ → Bool → List ℕ → Outcome Amount → List ℕ → Type 0
FlistBuffer w b single before answer after =
    Promise (generate_flist_buffer_outcome w b single before) (generate_flist_buffer_written (decode w b) single before) before answer after
