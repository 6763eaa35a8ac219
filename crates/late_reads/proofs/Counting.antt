-- The counts of a read's calls, one after the other: element by element they are what `Values` says, and they are in range just where each call
-- fits the counts as lent. The calls' variants rise, so that each element is touched by one call at most. The laws are over any list of calls
-- and any d, so that the calls of an arrival and those of a departing chain share them.
-- Assumes nothing.
use mathlib.Core.Path.{◌≡◌, refl, sym, ap, ◌∙◌}
use mathlib.Core.Bool.{Bool, true, false}
use mathlib.Core.List.{List, [], ◌∷◌}
use Prim.Native.Nat.{ℕ, zero, suc, ◌+◌, ◌*◌, ◌/◌, ◌%◌, ◌≤◌, ◌<◌}
use native.Mathlib.Omega.{arith}
use borrow.Author.Tests.{ne_eqb, eqb-true}
use lib.Dec.{eqb}
use lib.IntN.{ℤ, pos, negsuc, neg_ℤ, ◌+ℤ◌, +ℤ_idr, +ℤ_assoc, neg_ℤ-+ℤ}
use lib.ListN.{length, get_or}
use lib.Seq.{ext_get_or}
use Rattle.steps.proofs.Signed.{by_test, cases}
use Rattle.variants_and_fragments.specs.Case.{Fragment, Call}
use Rattle.variants_and_fragments.specs.First.{holds_below}
use Rattle.variants_and_fragments.specs.Pileup.{only}
use Rattle.variants_and_fragments.specs.Words.{within}
use Rattle.variants_and_fragments.specs.Inner.Accepted.{allb}
use Rattle.variants_and_fragments.proofs.Bools.{both}
use Rattle.variants_and_fragments.proofs.First.{first_end, all_below, below_all}
use Rattle.variants_and_fragments.proofs.Only.{only_in, only_out, only_none}
use Rattle.variants_and_fragments.proofs.Written.{written_length, written_at, written_past, written_same}
use Rattle.late_reads.specs.Values.{max_count, counted, read_count}
use Rattle.late_reads.specs.Inner.Counting.{count_call, call_fits, counted_call, Rising, none, more, count_calls, times, counts_after, counts_arrived, counts_departed, counts_fit}
use Rattle.late_reads.proofs.Places.{counts_at, count_length, count_at, fit_at, at_fit}

times_one : (n : ℕ) → times (pos 1) n ≡ pos n
unfolding times
times_one zero = refl
times_one (suc n) = rw (times_one n) (let e : 1 + n ≡ suc n = omega arith in ap pos e)

times_less : (n : ℕ) → times (negsuc 0) n ≡ neg_ℤ (pos n)
unfolding times
times_less zero = refl
times_less (suc n) = rw (times_less n) (sym (neg_ℤ-+ℤ (pos 1) (pos n)) ∙ (let e : 1 + n ≡ suc n = omega arith in ap (λ (k : ℕ). neg_ℤ (pos k)) e))

-- two tests agree where each holds with the other
agree : (a b : Bool) → (a ≡ true → b ≡ true) → (b ≡ true → a ≡ true) → a ≡ b
agree true b f g = sym (f refl)
agree false true f g = g refl
agree false false f g = refl

holds_below_lem : (p : ℕ → Bool) (n : ℕ) → ((j : ℕ) → j < n → p j ≡ true) → holds_below p n ≡ true
holds_below_lem p n h = below_all p n (omega (arith, first_end p n n h refl))

abbrev pub ranged : ℤ → Bool
ranged z = within (pos 0) (pos max_count) z

-- ---- calls of read x, counted with d
module _ (d cutoff : ℤ) (x : Fragment) where
  -- how many of the calls count at element e
  abbrev how_many : ℕ → List Call → ℕ
  how_many e calls = length (only (counts_at cutoff x e) calls)

  -- none where no variant that rises so is e's
  nowhere : {n b : ℕ} {calls : List Call} → (e : ℕ) → Rising n b calls → ((v : ℕ) → b ≤ v → v < n → v ≡ e / 10 → ⊥) → only (counts_at cutoff x e) calls ≡ []
  nowhere e none h = only_none (counts_at cutoff x e)
  nowhere e (more {b} {call} {calls} lo hi three r) h =
      only_out (counts_at cutoff x e) call calls (rw (ne_eqb call.variant (e / 10) (h call.variant lo hi))) ∙ nowhere e r (λ v l m q. h v (omega arith) m q)

  -- past a call that counts at e none does
  no_more : {n : ℕ} (call : Call) {calls : List Call} (e : ℕ) → Rising n (suc call.variant) calls → counts_at cutoff x e call ≡ true → only (counts_at cutoff x e) calls ≡ []
  no_more call e r t = nowhere e r (λ v l m q. omega (arith, eqb-true call.variant (e / 10) (both (eqb call.variant (e / 10)) (counted cutoff x (e % 10) call) t).0))

  calls_length : (calls : List Call) (counts : List ℤ) → length (count_calls d cutoff x calls counts) ≡ length counts
  unfolding count_calls
  calls_length [] counts = refl
  calls_length (call ∷ calls) counts = calls_length calls (count_call d (counted_call cutoff x call) counts) ∙ count_length d (counted_call cutoff x call) counts

  -- what stands at e once they are counted
  calls_at : {n b : ℕ} {calls : List Call} → Rising n b calls → (counts : List ℤ) → 10 * n ≤ length counts → (e : ℕ) → get_or (count_calls d cutoff x calls counts) e (pos 0) ≡ get_or counts e (pos 0) +ℤ times d (how_many e calls)
  unfolding count_calls times
  calls_at none counts long e = rw (only_none (counts_at cutoff x e), +ℤ_idr)
  calls_at (more {b} {call} {calls} lo hi three r) counts long e =
      let put = count_call d (counted_call cutoff x call) counts in
      let l = count_length d (counted_call cutoff x call) counts in
      calls_at r put (omega arith) e
      ∙ rw (count_at cutoff x call three d counts (omega arith) e)
      (by_test (counts_at cutoff x e call)
      (λ t. rw (t, only_in (counts_at cutoff x e) call calls t, +ℤ_assoc))
      (λ t. rw (t, only_out (counts_at cutoff x e) call calls t, +ℤ_idr)))

  -- ---- of all its calls
  module _ {n : ℕ} (r : Rising n 0 x.calls) (counts : List ℤ) (long : 10 * n ≤ length counts) where
    pub all_counted : count_calls d cutoff x x.calls counts ≡ counts_after d cutoff x n counts
    unfolding read_count times
    all_counted =
        let g : ℕ → ℤ = λ e. get_or counts e (pos 0) +ℤ times d (read_count cutoff x e) in
        let a = calls_length x.calls counts in
        let b = written_length g (10 * n) counts in
        ext_get_or (pos 0) _ _ (omega arith) (λ e l. calls_at r counts long e ∙ cases e (10 * n)
        (λ m. sym (written_at g (10 * n) counts (pos 0) long e m))
        (λ m. sym (written_past g (10 * n) counts (pos 0) e m ∙ rw (nowhere e r (λ v p q t. omega arith), +ℤ_idr))))

  -- ---- the range
  abbrev fits : List ℤ → Call → Bool
  fits counts call = call_fits d (counted_call cutoff x call) counts

  -- where each call fits, what stands at e is in range
  fit_ranged : {n b : ℕ} {calls : List Call} (counts : List ℤ) → Rising n b calls → allb (fits counts) calls ≡ true → (e : ℕ) → ranged (get_or counts e (pos 0)) ≡ true → ranged (get_or counts e (pos 0) +ℤ times d (how_many e calls)) ≡ true
  unfolding allb times
  fit_ranged counts none h e k = rw (only_none (counts_at cutoff x e), +ℤ_idr) k
  fit_ranged counts (more {b} {call} {calls} lo hi three r) h e k =
      let f = both (fits counts call) (allb (fits counts) calls) h in
      by_test (counts_at cutoff x e call)
      (λ t. rw (only_in (counts_at cutoff x e) call calls t, no_more call e r t, +ℤ_idr) (fit_at cutoff x call three d counts f.0 e t))
      (λ t. rw (only_out (counts_at cutoff x e) call calls t) (fit_ranged counts r f.1 e k))

  -- and the other way round
  ranged_fit : {n b : ℕ} {calls : List Call} (counts : List ℤ) → Rising n b calls → ((e : ℕ) → e < 10 * n → ranged (get_or counts e (pos 0)) ≡ true)
      → ((e : ℕ) → e < 10 * n → ranged (get_or counts e (pos 0) +ℤ times d (how_many e calls)) ≡ true) → allb (fits counts) calls ≡ true
  unfolding allb times
  ranged_fit counts none k h = refl
  ranged_fit {n} counts (more {b} {call} {calls} lo hi three r) k h =
      rw (
        at_fit cutoff x call three d counts (λ e t.
            let v = eqb-true call.variant (e / 10) (both (eqb call.variant (e / 10)) (counted cutoff x (e % 10) call) t).0 in
            rw (only_in (counts_at cutoff x e) call calls t, no_more call e r t, +ℤ_idr) at (h e (omega arith))),
        ranged_fit counts r k (λ e l. by_test (counts_at cutoff x e call)
            (λ t. rw (no_more call e r t, +ℤ_idr) (k e l))
            (λ t. rw (only_out (counts_at cutoff x e) call calls t) at (h e l))),
      )

  -- the counts afterwards are in range just where each call fits the counts as lent
  module _ {n : ℕ} (r : Rising n 0 x.calls) (counts : List ℤ) (long : 10 * n ≤ length counts) (lent : counts_fit n counts ≡ true) where
    pub all_fit : allb (fits counts) x.calls ≡ counts_fit n (counts_after d cutoff x n counts)
    unfolding read_count
    all_fit =
        let g : ℕ → ℤ = λ e. get_or counts e (pos 0) +ℤ times d (read_count cutoff x e) in
        let p : ℕ → Bool = λ e. ranged (get_or (counts_after d cutoff x n counts) e (pos 0)) in
        let k = all_below (λ e. ranged (get_or counts e (pos 0))) (10 * n) lent in
        let is : (e : ℕ) → e < 10 * n → get_or (counts_after d cutoff x n counts) e (pos 0) ≡ g e = written_at g (10 * n) counts (pos 0) long in
        agree _ _
        (λ t. holds_below_lem p (10 * n) (λ e l. rw (is e l) (fit_ranged counts r t e (k e l))))
        (λ t. ranged_fit counts r k (λ e l. rw (is e l) at (all_below p (10 * n) t e l)))

-- d is 1 for an arrival and −1 for a departure
module _ (cutoff : ℤ) (x : Fragment) (n : ℕ) (counts : List ℤ) where
  pub arrived_is : counts_after (pos 1) cutoff x n counts ≡ counts_arrived cutoff n x counts
  arrived_is = written_same _ _ (10 * n) counts (λ e l. rw (times_one (read_count cutoff x e)))

  pub departed_is : counts_after (negsuc 0) cutoff x n counts ≡ counts_departed cutoff n x counts
  departed_is = written_same _ _ (10 * n) counts (λ e l. rw (times_less (read_count cutoff x e)))
