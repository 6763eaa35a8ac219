-- A loop over a read's calls: what holds at its head, and what a turn does. Whether the calls fit, the rest decides; where they are counted, with
-- the rest all are. Counting a call leaves the counts of later variants as they were lent, so that the next one may be counted.
-- Assumes nothing.
use mathlib.Core.Path.{◌≡◌}
use mathlib.Core.Bool.{Bool, true, false}
use mathlib.Core.List.{List, [], ◌∷◌, map}
use Prim.Native.Nat.{ℕ, suc, ◌+◌, ◌*◌, ◌/◌, ◌≤◌, ◌<◌}
use native.Mathlib.Omega.{arith}
use borrow.Author.Tests.{ne_eqb}
use lib.IntN.{ℤ, pos, +ℤ_idr}
use lib.ListN.{length, get_or}
use Rattle.variants_and_fragments.specs.Case.{Fragment, Call}
use Rattle.variants_and_fragments.specs.Inner.Accepted.{allb}
use Rattle.variants_and_fragments.proofs.First.{all_below}
use Rattle.pileup.specs.declared.reader.Call.{Call as CallHeld}
use Rattle.pileup.specs.Inner.Packed.{call_read}
use Rattle.late_reads.specs.declared.counts.CountedCall.{CountedCall}
use Rattle.late_reads.specs.Inner.Counting.{count_call, call_fits, Countable, counted_call, CountedIs, Rising, more, count_calls, counts_after, counts_fit, CountsLent}
use Rattle.late_reads.proofs.Counting.{ranged, all_counted, all_fit}
use Rattle.late_reads.proofs.Places.{count_length, count_at}

-- calls are left: their variants rise from `low` on, and the counts from there on are in range
pub record CallsLeft (n : ℕ) (calls : List Call) (counts : List ℤ) : Type 0 where
  pub low : ℕ
  pub rises : Rising n low calls
  pub long : 10 * n ≤ length counts
  pub in_range : (e : ℕ) → 10 * low ≤ e → e < 10 * n → ranged (get_or counts e (pos 0)) ≡ true

left_start : {n : ℕ} {calls : List Call} {counts : List ℤ} {d : ℤ} → Rising n 0 calls → CountsLent n counts d → CallsLeft n calls counts
left_start {n} r lent = record { low = 0; rises = r; long = lent.long; in_range = λ e l m. all_below _ (10 * n) lent.ranged e m }

record FirstIn (n b : ℕ) (call : Call) (calls : List Call) : Type 0 where
  above : b ≤ call.variant
  variant_in : call.variant < n
  allele_in : call.allele < 3
  rest : Rising n (suc call.variant) calls

first_in : {n b : ℕ} {call : Call} {calls : List Call} → Rising n b (call ∷ calls) → FirstIn n b call calls
first_in (more lo hi three r) = record { above = lo; variant_in = hi; allele_in = three; rest = r }

module _ {n : ℕ} {call : Call} {calls : List Call} {counts : List ℤ} (i : CallsLeft n (call ∷ calls) counts) (cutoff : ℤ) (x : Fragment) where
  -- the next one may be counted
  left_countable : {lent : List ℤ} {d : ℤ} → CountsLent n lent d → n ≤ 1024 → Countable counts d (counted_call cutoff x call)
  left_countable h top =
      let f = first_in i.rises in
      let a = f.above in
      let b = f.variant_in in
      let l = i.long in
      record {
        variant_in = omega arith;
        allele_in = f.allele_in;
        each_in = λ j m. record { there = omega arith; ranged = i.in_range (10 * call.variant + j) (omega arith) (omega arith); one = h.one };
      }

  -- and those after it are then left
  left_next : CallsLeft n calls counts
  left_next =
      let f = first_in i.rises in
      let a = f.above in
      record { low = suc call.variant; rises = f.rest; long = i.long; in_range = λ e l m. i.in_range e (omega arith) m }

  left_counted : (d : ℤ) → CallsLeft n calls (count_call d (counted_call cutoff x call) counts)
  left_counted d =
      let f = first_in i.rises in
      let a = f.above in
      let b = f.variant_in in
      let k = i.long in
      let s = count_length d (counted_call cutoff x call) counts in
      record {
        low = suc call.variant;
        rises = f.rest;
        long = omega arith;
        in_range = λ e l m. rw (count_at cutoff x call f.allele_in d counts (omega arith) e, ne_eqb call.variant (e / 10) (λ q. omega arith), +ℤ_idr) (i.in_range e (omega arith) m);
      }

-- ---- whether they fit: the rest decides
pub record Fitting (d cutoff : ℤ) (x : Fragment) (n : ℕ) (counts : List ℤ) (calls : List Call) (answer : Bool) : Type 0 where
  pub left : CallsLeft n calls counts
  pub decides : allb (λ call. call_fits d (counted_call cutoff x call) counts) calls ≡ answer

-- ---- counting them: with the rest they are all counted
pub record Adding (d cutoff : ℤ) (x : Fragment) (n : ℕ) (calls : List Call) (counts after : List ℤ) : Type 0 where
  pub left : CallsLeft n calls counts
  pub same : count_calls d cutoff x calls counts ≡ after

-- at the start all are left
module _ (cutoff : ℤ) (x : Fragment) {n : ℕ} {counts : List ℤ} {d : ℤ} (r : Rising n 0 x.calls) (lent : CountsLent n counts d) where
  pub fit_start : Fitting d cutoff x n counts x.calls (counts_fit n (counts_after d cutoff x n counts))
  fit_start = record { left = left_start r lent; decides = all_fit d cutoff x r counts lent.long lent.ranged }

  pub add_start : Adding d cutoff x n x.calls counts (counts_after d cutoff x n counts)
  add_start = record { left = left_start r lent; same = all_counted d cutoff x r counts lent.long }

-- a call as the code sees it
counted_so : {q : ℤ} {strand : ℕ} {held : CallHeld} {counted : CountedCall} (cutoff : ℤ) (x : Fragment) → CountedIs q strand held counted → q ≡ cutoff → x.strand ≡ strand → counted ≡ counted_call cutoff x (call_read held)
counted_so cutoff x c e z = rw (← e) (c.is x z)

module _ {d cutoff : ℤ} {x : Fragment} {n : ℕ} {counts : List ℤ} {answer : Bool} {held : List CallHeld} (i : Fitting d cutoff x n counts (map call_read held) answer) where
  pub fit_end : held ≡ [] → true ≡ answer
  unfolding allb
  fit_end e = (rw e at i).decides

  -- a call more
  module _ {call : CallHeld} {rest : List CallHeld} (next : held ≡ call ∷ rest) {q : ℤ} {strand : ℕ} {counted : CountedCall} (c : CountedIs q strand call counted) (e : q ≡ cutoff) (z : x.strand ≡ strand) where
    pub fit_countable : {lent : List ℤ} → CountsLent n lent d → n ≤ 1024 → Countable counts d counted
    fit_countable lent top = rw (counted_so cutoff x c e z) (left_countable (rw next at i).left cutoff x lent top)

    pub fit_stop : call_fits d counted counts ≡ false → false ≡ answer
    unfolding allb
    fit_stop h = rw (rw (counted_so cutoff x c e z) at h) at (rw next at i).decides

    pub fit_on : call_fits d counted counts ≡ true → Fitting d cutoff x n counts (map call_read rest) answer
    unfolding allb
    fit_on h = record { left = left_next (rw next at i).left cutoff x; decides = rw (rw (counted_so cutoff x c e z) at h) at (rw next at i).decides }

module _ {d cutoff : ℤ} {x : Fragment} {n : ℕ} {counts after : List ℤ} {held : List CallHeld} (i : Adding d cutoff x n (map call_read held) counts after) where
  pub add_end : held ≡ [] → counts ≡ after
  unfolding count_calls
  add_end e = (rw e at i).same

  module _ {call : CallHeld} {rest : List CallHeld} (next : held ≡ call ∷ rest) {q : ℤ} {strand : ℕ} {counted : CountedCall} (c : CountedIs q strand call counted) (e : q ≡ cutoff) (z : x.strand ≡ strand) where
    pub add_countable : {lent : List ℤ} → CountsLent n lent d → n ≤ 1024 → Countable counts d counted
    add_countable lent top = rw (counted_so cutoff x c e z) (left_countable (rw next at i).left cutoff x lent top)

    pub add_on : (put : List ℤ) → put ≡ count_call d counted counts → Adding d cutoff x n (map call_read rest) put after
    unfolding count_calls
    add_on put h = rw (h, counted_so cutoff x c e z) (record { left = left_counted (rw next at i).left cutoff x d; same = (rw next at i).same })
