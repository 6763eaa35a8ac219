-- An answer's numbers and 01's outcomes: number 0 is done, another one a refusal's number.
-- Assumes nothing.
use Rattle.std.specs.Prelude.{◌≡◌, cond, false, ℕ, eqb, pos}
use Rattle.variants_and_fragments.specs.declared.Sizes.{Sizes}
use Rattle.variants_and_fragments.specs.Refusals.{Outcome, refused, done}
use Rattle.haplotype_assembly.specs.FlistBuffer.{Amount}
use Rattle.with_haplotypes.specs.declared.RoundAnswer as operation-round
use Rattle.exports.specs.declared.answers.Answer.{Answer}
use Rattle.exports.specs.declared.answers.CheckAnswer.{CheckAnswer}
use Rattle.exports.specs.declared.answers.FlistAnswer.{FlistAnswer}
use Rattle.late_reads.specs.LateReads as operation-late
use Rattle.exports.specs.declared.answers.RoundAnswer.{RoundAnswer}
use Rattle.exports.specs.declared.answers.LateAnswer.{LateAnswer}

-- ---- the outcome that numbers are read as

-- a number, a place, and the values that come with done
unfoldable pub read_as : {X : Type 0} → ℕ → ℕ → X → Outcome X
read_as number place values = cond (eqb number 0) (done values) (refused number place)

-- with no values
unfoldable pub read_answer : Answer → Outcome Unit
read_answer a = read_as a.number a.place tt

unfoldable pub read_check : CheckAnswer → Outcome Sizes
read_check a = read_as a.number a.place (record { n = a.n; f = a.f; c = a.c; used = a.used; free = a.free; cutoff = a.cutoff })

unfoldable pub read_flist : FlistAnswer → Outcome Amount
read_flist a = read_as a.number a.place (record { bytes = a.bytes; lines = a.lines })

unfoldable pub read_round : RoundAnswer → Outcome operation-round.RoundAnswer
read_round a =
    read_as a.number a.place (record { sweeps = a.sweeps; settled = a.settled; start = record { 0 = a.start }; end = record { 0 = a.end }; source = record { 0 = a.source } })

unfoldable pub read_late : LateAnswer → Outcome operation-late.LateAnswer
read_late a = read_as a.number a.place (record { settled = a.settled; total = a.total })

-- ---- the numbers of an outcome; those that it does not speak of are 0

abbrev pub answer_of : ℕ → ℕ → Answer
answer_of number place = record { number = number; place = place }

unfoldable pub numbers_of : Outcome Unit → Answer
numbers_of (refused n p) = answer_of n p
numbers_of (done values) = answer_of 0 0

unfoldable pub check_numbers : Outcome Sizes → CheckAnswer
check_numbers (refused n p) = record { number = n; place = p; n = 0; f = 0; c = 0; used = 0; free = 0; cutoff = pos 0 }
check_numbers (done s) = record { number = 0; place = 0; n = s.n; f = s.f; c = s.c; used = s.used; free = s.free; cutoff = s.cutoff }

unfoldable pub flist_numbers : Outcome Amount → FlistAnswer
flist_numbers (refused n p) = record { number = n; place = p; bytes = 0; lines = 0 }
flist_numbers (done x) = record { number = 0; place = 0; bytes = x.bytes; lines = x.lines }

unfoldable pub round_numbers : Outcome operation-round.RoundAnswer → RoundAnswer
round_numbers (refused n p) = record { number = n; place = p; sweeps = 0; settled = false; start = pos 0; end = pos 0; source = pos 0 }
round_numbers (done x) =
    record { number = 0; place = 0; sweeps = x.sweeps; settled = x.settled; start = x.start.0; end = x.end.0; source = x.source.0 }

unfoldable pub late_numbers : Outcome operation-late.LateAnswer → LateAnswer
late_numbers (refused n p) = record { number = n; place = p; settled = false; total = pos 0 }
late_numbers (done x) = record { number = 0; place = 0; settled = x.settled; total = x.total }

-- ---- what is promised of an answer

-- the answer a, read as an outcome, is as the operation promises; and a has exactly that outcome's numbers, so that a field that it does not
-- speak of is 0
pub record Exported {X N : Type 0} (read : N → Outcome X) (numbers : Outcome X → N) (Promised : Outcome X → Type 0) (a : N) : Type 0 where
  pub promise : Promised (read a)
  pub exact : a ≡ numbers (read a)
