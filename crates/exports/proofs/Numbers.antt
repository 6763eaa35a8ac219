-- The numbers of each answer are read as its outcome, so that the operation's promise holds of them. No refusal has number 0.
-- Assumes nothing.
use Rattle.std.proofs.Common.{◌≡◌, refl, sym, ap, ◌∙◌, subst, Result, Ok, Err, IsOkAnd, MatchResult, false, pos}
use Rattle.std.specs.Result.{result_unwrap_or}
use Rattle.variants_and_fragments.specs.declared.Sizes.{Sizes}
use Rattle.variants_and_fragments.specs.declared.laid.Case.{Case}
use Rattle.variants_and_fragments.specs.Check as check
use Rattle.variants_and_fragments.specs.declared.Refusal.{Refusal}
use Rattle.variants_and_fragments.specs.declared.Refusal.TheVariants.{Head, Variant, Alleles, Call, Chain, Rates, Phase, Orders, Limit, Short, DensityQual, Normalize, Fragment, Room}
use Rattle.variants_and_fragments.specs.Refusals.{Outcome, done, number, place, refusal, answered, outcome_of}
use Rattle.haplotype_assembly.specs.declared.Counted.{Counted}
use Rattle.haplotype_assembly.specs.FlistBuffer as lines
use Rattle.with_haplotypes.specs.declared.RoundAnswer.{RoundAnswer}
use Rattle.with_haplotypes.specs.Promise as round
use Rattle.steps.specs.declared.LogProb.{LogProb}
use Rattle.late_reads.specs.LateReads as late
use Rattle.exports.specs.declared.answers.Answer.{Answer}
use Rattle.exports.specs.Answers.{read_as, read_answer, read_check, read_flist, read_round, read_late, numbers_of, check_numbers, flist_numbers, round_numbers, late_numbers, Exported}

-- the numbers a are those of the outcome, and are read as it
pub record Numbers {X N : Type 0} (read : N → Outcome X) (numbers : Outcome X → N) (outcome : Outcome X) (a : N) : Type 0 where
  pub reads : read a ≡ outcome
  pub exact : a ≡ numbers outcome

-- so what is promised of the outcome is promised of them
pub exported : {X N : Type 0} {read : N → Outcome X} {numbers : Outcome X → N} (P : Outcome X → Type 0) {o : Outcome X} {a : N} → P o → Numbers read numbers o a → Exported read numbers P a
exported {numbers = numbers} P p n = record { promise = subst P (sym n.reads) p; exact = n.exact ∙ ap numbers (sym n.reads) }

-- a refusal's number and place are read as that refusal, whatever the values
pub reads_refusal : {X : Type 0} (x : Refusal) (values : X) → read_as (number x) (place x) values ≡ refusal x
unfolding read_as
reads_refusal (Head p) values = refl
reads_refusal (Variant p) values = refl
reads_refusal (Alleles p) values = refl
reads_refusal (Call p) values = refl
reads_refusal (Chain p) values = refl
reads_refusal (Rates p) values = refl
reads_refusal (Phase p) values = refl
reads_refusal (Orders p) values = refl
reads_refusal (Limit p) values = refl
reads_refusal (Short p) values = refl
reads_refusal (DensityQual p) values = refl
reads_refusal (Normalize p) values = refl
reads_refusal (Fragment p) values = refl
reads_refusal (Room p) values = refl

-- Each answer's numbers, taken from the operation's answer: the number and the place of `Answer`, and the values, or zeros where it is refused.

-- ---- with no values
pub unit_numbers : (r : Result Unit Refusal) {a : Answer} → a ≡ numbers_of (answered (λ x. tt) r) → Numbers read_answer numbers_of (outcome_of r) a
unfolding read_answer read_as numbers_of
unit_numbers (Ok x) e = rw e (record { reads = refl; exact = refl })
unit_numbers (Err x) e = rw e (record { reads = reads_refusal x tt; exact = refl })

-- ---- of the check
-- the sizes of a checked case
pub sizes_of : (r : Result Case Refusal) (m : Result Sizes Refusal) {Gives : Case → Sizes → Type 0} → ((k : Case) (s : Sizes) → Gives k s → s ≡ k.laid.sizes) → MatchResult r (λ k. IsOkAnd m (Gives k)) (λ e. m ≡ Err e)
    → answered (λ s. s) m ≡ check.outcome_of r
sizes_of (Ok k) (Ok s) step h = ap done (step k s h)
sizes_of (Ok k) (Err e) step h = absurd h
sizes_of (Err e) m step h = rw h refl

pub check_answer : (r : Result Sizes Refusal) (a : Answer) (s : Sizes) → a ≡ numbers_of (answered (λ x. tt) r) → s ≡ result_unwrap_or r (record { n = 0; f = 0; c = 0; used = 0; free = 0; cutoff = pos 0 })
    → Numbers read_check check_numbers (answered (λ s. s) r) (record { number = a.number; place = a.place; n = s.n; f = s.f; c = s.c; used = s.used; free = s.free; cutoff = s.cutoff })
unfolding read_check read_as check_numbers numbers_of
check_answer (Ok s) a v e is = rw (e, is) (record { reads = refl; exact = refl })
check_answer (Err x) a v e is = rw (e, is) (record { reads = reads_refusal x _; exact = refl })

-- ---- of the fragment lines
pub flist_answer : (r : Result Counted Refusal) (a : Answer) (w : Counted) → a ≡ numbers_of (answered (λ x. tt) r) → w ≡ result_unwrap_or r (record { bytes = 0; lines = 0 })
    → Numbers read_flist flist_numbers (lines.outcome_of r) (record { number = a.number; place = a.place; bytes = w.bytes; lines = w.lines })
unfolding read_flist read_as flist_numbers numbers_of
flist_answer (Ok w) a v e is = rw (e, is) (record { reads = refl; exact = refl })
flist_answer (Err x) a v e is = rw (e, is) (record { reads = reads_refusal x _; exact = refl })

-- ---- of a round
pub round_is : (r : Result RoundAnswer Refusal) (a : Answer) (x : RoundAnswer) → a ≡ numbers_of (answered (λ x. tt) r)
    → x ≡ result_unwrap_or r (record { sweeps = 0; settled = false; start = record { 0 = pos 0 }; end = record { 0 = pos 0 }; source = record { 0 = pos 0 } })
    → record { number = a.number; place = a.place; sweeps = x.sweeps; settled = x.settled; start = x.start.0; end = x.end.0; source = x.source.0 } ≡ round_numbers (round.outcome_of r)
unfolding numbers_of round_numbers
round_is (Ok x) a v e is = rw (e, is) refl
round_is (Err x) a v e is = rw (e, is) refl

pub round_numbers_lem : (r : Result RoundAnswer Refusal) → Numbers read_round round_numbers (round.outcome_of r) (round_numbers (round.outcome_of r))
unfolding read_round read_as round_numbers
round_numbers_lem (Ok x) = record { reads = refl; exact = refl }
round_numbers_lem (Err x) = record { reads = reads_refusal x _; exact = refl }

-- ---- of an arrival or a departure
pub late_is : (r : Result LogProb Refusal) (a : Answer) (total : LogProb) → a ≡ numbers_of (answered (λ x. tt) r) → total ≡ result_unwrap_or r (record { 0 = pos 0 })
    → record { number = a.number; place = a.place; settled = false; total = total.0 } ≡ late_numbers (late.outcome_of r)
unfolding numbers_of late_numbers
late_is (Ok total) a v e is = rw (e, is) refl
late_is (Err x) a v e is = rw (e, is) refl

pub late_numbers_lem : (u : Result LogProb Refusal) → Numbers read_late late_numbers (late.outcome_of u) (late_numbers (late.outcome_of u))
unfolding read_late read_as late_numbers
late_numbers_lem (Ok total) = record { reads = refl; exact = refl }
late_numbers_lem (Err x) = record { reads = reads_refusal x _; exact = refl }
