-- The counts as the code updates them, call by call. Assumes nothing.
use Rattle.std.specs.Prelude.{◌≡◌, Bool, true, cond, ◌&&◌, List, [], ◌∷◌, map, ℕ, zero, suc, ◌+◌, ◌*◌, ◌≤◌, ◌<◌, ℤ, pos, nat_abs, ◌+ℤ◌, ◌-ℤ◌, length, get_or, set, Option, None, Some}
use Rattle.variants_and_fragments.specs.Case.{Fragment, Call, direction, usable}
use Rattle.variants_and_fragments.specs.First.{holds_below}
use Rattle.variants_and_fragments.specs.Words.{within}
use Rattle.variants_and_fragments.specs.Written.{written}
use Rattle.pileup.specs.declared.reader.Call.{Call as CallHeld}
use Rattle.pileup.specs.Inner.Packed.{call_read}
use Rattle.late_reads.specs.declared.counts.CountedCall.{CountedCall}
use Rattle.late_reads.specs.Values.{max_count, read_count}

-- d added at element e
abbrev pub add_at : ℤ → ℕ → List ℤ → List ℤ
add_at d e counts = set counts e (get_or counts e (pos 0) +ℤ d)

-- the elements at which a call counts: a usable one at its allele, and at its allele on the strand of its read, 0 forward or 1 reverse
abbrev pub allele_place : CountedCall → ℕ
allele_place call = 10 * call.variant + call.allele

abbrev pub strand_place : CountedCall → ℕ
strand_place call = 10 * call.variant + 3 * (1 + direction call.strand) + call.allele

-- an ambiguous one at the last
abbrev pub ambiguous_place : CountedCall → ℕ
ambiguous_place call = 10 * call.variant + 9

-- the first of them, and the second, where there are two
unfoldable pub places : CountedCall → ℕ × Option ℕ
places call = cond call.usable (allele_place call, Some (strand_place call)) (ambiguous_place call, None)

unfoldable pub count_call : ℤ → CountedCall → List ℤ → List ℤ
count_call d call counts =
    cond call.usable (add_at d (strand_place call) (add_at d (allele_place call) counts)) (add_at d (ambiguous_place call) counts)

-- what they would be is in range
abbrev pub fits_at : ℤ → ℕ → List ℤ → Bool
fits_at d e counts = within (pos 0) (pos max_count) (get_or counts e (pos 0) +ℤ d)

unfoldable pub call_fits : ℤ → CountedCall → List ℤ → Bool
call_fits d call counts =
    cond call.usable (fits_at d (allele_place call) counts && fits_at d (strand_place call) counts) (fits_at d (ambiguous_place call) counts)

-- element e is there and in range, and d is at most 1 either way
pub record CountsIn (counts : List ℤ) (e : ℕ) (d : ℤ) : Type 0 where
  pub there : e < length counts
  pub ranged : within (pos 0) (pos max_count) (get_or counts e (pos 0)) ≡ true
  pub one : nat_abs d ≤ 1

-- the ten counts of a call's variant are there and in range
pub record Countable (counts : List ℤ) (d : ℤ) (call : CountedCall) : Type 0 where
  pub variant_in : call.variant < 1024
  pub allele_in : call.allele < 3
  pub each_in : (j : ℕ) → j < 10 → CountsIn counts (10 * call.variant + j) d

-- a call of read x as the counts see it
abbrev pub counted_call : ℤ → Fragment → Call → CountedCall
counted_call cutoff x call = record { variant = call.variant; allele = call.allele; strand = x.strand; usable = usable cutoff x call }

-- a read of this strand and these calls
abbrev pub read_of : ℕ → List CallHeld → Fragment
read_of strand calls = record { present = true; strand = strand; calls = map call_read calls }

-- a call that was read is counted so, for every read of this strand
pub record CountedIs (cutoff : ℤ) (strand : ℕ) (held : CallHeld) (counted : CountedCall) : Type 0 where
  pub is : (x : Fragment) → x.strand ≡ strand → counted ≡ counted_call cutoff x (call_read held)

-- variants below n that rise strictly, from b on, and alleles below 3
pub data Rising (n : ℕ) : ℕ → List Call → Type 0 where
  none : {b : ℕ} → Rising n b []
  more : {b : ℕ} {call : Call} {calls : List Call} → b ≤ call.variant → call.variant < n → call.allele < 3 → Rising n (suc call.variant) calls → Rising n b (call ∷ calls)

-- the calls of read x counted, one after the other
unfoldable pub count_calls : ℤ → ℤ → Fragment → List Call → List ℤ → List ℤ
count_calls d cutoff x [] counts = counts
count_calls d cutoff x (call ∷ calls) counts = count_calls d cutoff x calls (count_call d (counted_call cutoff x call) counts)

-- ---- the counts afterwards, as `Values` says them, and their range
-- n times d
unfoldable pub times : ℤ → ℕ → ℤ
times d zero = pos 0
times d (suc n) = d +ℤ times d n

-- d more for each call of read x
abbrev pub counts_after : ℤ → ℤ → Fragment → ℕ → List ℤ → List ℤ
counts_after d cutoff x n counts = written (λ e. get_or counts e (pos 0) +ℤ times d (read_count cutoff x e)) (10 * n) counts

abbrev pub counts_arrived : ℤ → ℕ → Fragment → List ℤ → List ℤ
counts_arrived cutoff n x counts = written (λ e. get_or counts e (pos 0) +ℤ pos (read_count cutoff x e)) (10 * n) counts

abbrev pub counts_departed : ℤ → ℕ → Fragment → List ℤ → List ℤ
counts_departed cutoff n x counts = written (λ e. get_or counts e (pos 0) -ℤ pos (read_count cutoff x e)) (10 * n) counts

abbrev pub counts_fit : ℕ → List ℤ → Bool
counts_fit n counts = holds_below (λ e. within (pos 0) (pos max_count) (get_or counts e (pos 0))) (10 * n)

-- the counts of n variants are there and in range, and d is at most 1 either way
pub record CountsLent (n : ℕ) (counts : List ℤ) (d : ℤ) : Type 0 where
  pub long : 10 * n ≤ length counts
  pub ranged : counts_fit n counts ≡ true
  pub one : nat_abs d ≤ 1
