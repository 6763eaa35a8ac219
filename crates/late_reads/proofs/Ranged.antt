-- The last test of an arrival and of a departure. What is lent is in range, and so are the likelihoods afterwards: those of the other fragments
-- are as they were, and the two written are an arriving read's, in −2^32..0, or 0. So the test is that of the total and of the counts, and each
-- place at which the operation returns keeps its promise. Assumes nothing.
use mathlib.Core.Path.{◌≡◌, refl, ◌∙◌}
use mathlib.Core.Bool.{Bool, true, false, ◌&&◌}
use mathlib.Core.List.{List}
use Prim.Native.Nat.{ℕ, ◌+◌, ◌*◌, ◌^◌, ◌≤◌, ◌<◌}
use native.Mathlib.Decide.{ℕ_discrete}
use native.Mathlib.Omega.{arith}
use lib.IntN.{ℤ, pos, nat_abs, ◌+ℤ◌, ◌-ℤ◌}
use lib.ListN.{length, get_or, set, length-set}
use lib.Seq.{get_or-set_same, get_or-set_other}
use lib.Signed.{le_z}
use Rattle.steps.specs.declared.LogProb.{LogProb}
use Rattle.steps.specs.Logs.{mix_of}
use Rattle.variants_and_fragments.specs.declared.Sizes.{Sizes}
use Rattle.variants_and_fragments.specs.declared.Refusal.TheVariants.{Short}
use Rattle.variants_and_fragments.specs.Decode.{fragment_from}
use Rattle.variants_and_fragments.specs.First.{holds_below}
use Rattle.variants_and_fragments.specs.Layout.{cutoff_at}
use Rattle.variants_and_fragments.specs.Refusals.{Promise, done, refusal}
use Rattle.variants_and_fragments.specs.Words.{within}
use Rattle.variants_and_fragments.specs.Inner.Sums.{DownTo}
use Rattle.variants_and_fragments.proofs.Bools.{both}
use Rattle.variants_and_fragments.proofs.Bounds.{down_zero, down_more, down_abs}
use Rattle.variants_and_fragments.proofs.First.{first_end, all_below, below_all}
use Rattle.variants_and_fragments.proofs.Outcomes.{unless_on, unless_at, promise_refused, promise_done}
use Rattle.late_reads.specs.Arriving.{arriving_read}
use Rattle.late_reads.specs.LateReads.{LateSlices, late_slices, unsettled}
use Rattle.late_reads.specs.Values.{Values, lowest_total, in_range, put_likelihoods, likelihood_on, arrived, departed}
use Rattle.late_reads.specs.Inner.Counting.{CountsLent, counts_arrived, counts_departed, counts_fit}
use Rattle.late_reads.specs.Inner.Ready.{Kept, Arriving, fixed_at, arrived_at, departed_at, ranged_outcome}
use Rattle.late_reads.proofs.ReadShares.{arriving_down}

-- ---- ranges
abbrev likelihoods_fit : ℕ → List ℤ → Bool
likelihoods_fit f l = holds_below (λ e. within lowest_total (pos 0) (get_or l e (pos 0))) (2 * f)

-- a total or a likelihood in range lies in −2^40..0
in_down : (z : ℤ) → within lowest_total (pos 0) z ≡ true → DownTo (2 ^ 40) z
unfolding within
in_down z h = let b = both (le_z lowest_total z) (le_z z (pos 0)) h in record { low = b.0; high = b.1 }

down_in_range : (z : ℤ) → DownTo (2 ^ 40) z → within lowest_total (pos 0) z ≡ true
unfolding within
down_in_range z d = rw (d.low, d.high)

each_below : (p : ℕ → Bool) (n : ℕ) → ((j : ℕ) → j < n → p j ≡ true) → holds_below p n ≡ true
each_below p n good = below_all p n (omega (arith, first_end p n n good refl))

-- what is lent
module _ {w : List ℤ} {s : Sizes} {phase haps : List ℕ} {lent : Values} (kept : Kept w s phase haps lent) where
  lent_in : (within lowest_total (pos 0) lent.total ≡ true) × (likelihoods_fit s.f lent.likelihoods ≡ true) × (counts_fit s.n lent.counts ≡ true)
  unfolding in_range
  lent_in =
      let a = both (within lowest_total (pos 0) lent.total) (likelihoods_fit s.f lent.likelihoods && counts_fit s.n lent.counts) kept.ranged in
      let b = both (likelihoods_fit s.f lent.likelihoods) (counts_fit s.n lent.counts) a.1 in
      (a.0, b.0, b.1)

  pub total_small : nat_abs lent.total ≤ 2 ^ 40
  total_small = down_abs (2 ^ 40) lent.total (in_down lent.total lent_in.0)

  pub counts_in : counts_fit s.n lent.counts ≡ true
  counts_in = lent_in.2

  pub counts_lent : {d : ℤ} → nat_abs d ≤ 1 → CountsLent s.n lent.counts d
  counts_lent one = record { long = kept.counts_long; ranged = counts_in; one = one }

  likelihood_in : (e : ℕ) → e < 2 * s.f → DownTo (2 ^ 40) (get_or lent.likelihoods e (pos 0))
  likelihood_in e h = in_down (get_or lent.likelihoods e (pos 0)) (all_below _ (2 * s.f) lent_in.1 e h)

  pub likelihood_small : (e : ℕ) → e < 2 * s.f → nat_abs (get_or lent.likelihoods e (pos 0)) ≤ 2 ^ 40
  likelihood_small e h = down_abs (2 ^ 40) (get_or lent.likelihoods e (pos 0)) (likelihood_in e h)

-- the likelihoods with those of fragment f written
module _ (l : List ℤ) (n f : ℕ) (a b : ℤ) (long : 2 * n ≤ length l) (below : f < n) (a_in : DownTo (2 ^ 40) a) (b_in : DownTo (2 ^ 40) b) (others : (e : ℕ) → e < 2 * n → DownTo (2 ^ 40) (get_or l e (pos 0))) where
  put_at : (e : ℕ) → e < 2 * n → DownTo (2 ^ 40) (get_or (put_likelihoods l f a b) e (pos 0))
  put_at e h = elim (ℕ_discrete e (2 * f + 1)) [
    | yes q ↦ rw (q, get_or-set_same (set l (2 * f) a) (2 * f + 1) b (pos 0) (omega (arith, length-set l (2 * f) a))) b_in
    | no q ↦ rw (get_or-set_other (set l (2 * f) a) (2 * f + 1) e b (pos 0) (λ r. q (omega arith))) (elim (ℕ_discrete e (2 * f)) [
      | yes r ↦ rw (r, get_or-set_same l (2 * f) a (pos 0) (omega arith)) a_in
      | no r ↦ rw (get_or-set_other l (2 * f) e a (pos 0) (λ t. r (omega arith))) (others e h)
    ])
  ]

  put_in : likelihoods_fit n (put_likelihoods l f a b) ≡ true
  put_in = each_below _ (2 * n) (λ e h. down_in_range (get_or (put_likelihoods l f a b) e (pos 0)) (put_at e h))

-- ---- the promise
-- values to be written, whose likelihoods are in range: the total and the counts are what is left to test
pub record Updating (s : Sizes) (x : Values) (sum : ℤ) (counts : List ℤ) : Type 0 where
  pub likelihoods_in : likelihoods_fit s.f x.likelihoods ≡ true
  pub total_is : sum ≡ x.total
  pub counts_are : counts ≡ x.counts

module _ {s : Sizes} {x : Values} {sum : ℤ} {counts : List ℤ} (u : Updating s x sum counts) where
  ranged_is : in_range s.n s.f x ≡ (within lowest_total (pos 0) sum && counts_fit s.n counts)
  unfolding in_range
  ranged_is = rw (u.likelihoods_in, ← u.total_is, ← u.counts_are)

  module _ {new before : LateSlices} where
    pub refuses : (within lowest_total (pos 0) sum && counts_fit s.n counts) ≡ false → Promise (ranged_outcome s x) new before (refusal (Short 0)) before
    refuses h = promise_refused (Short 0) (unless_at (in_range s.n s.f x) 10 0 (done (unsettled x)) (ranged_is ∙ h))

    pub updates : {after : LateSlices} (t : LogProb) → t.0 ≡ sum → (within lowest_total (pos 0) sum && counts_fit s.n counts) ≡ true → after ≡ new
        → Promise (ranged_outcome s x) new before (done (record { settled = false; total = t.0 })) after
    updates t e h w = rw (e, u.total_is) (promise_done (unsettled x) (unless_on (in_range s.n s.f x) 10 0 (done (unsettled x)) (ranged_is ∙ h)) w)

-- equal parts, equal slices and likelihoods
pub same_slices : {w v l m c d : List ℤ} → w ≡ v → l ≡ m → c ≡ d → late_slices w l c ≡ late_slices v m d
same_slices p q r = cc

pub same_put : (l : List ℤ) (f : ℕ) {a b x y : ℤ} → a ≡ x → b ≡ y → put_likelihoods l f a b ≡ put_likelihoods l f x y
same_put l f p q = cc

-- ---- what is written
module _ {w : List ℤ} {s : Sizes} {phase haps : List ℕ} {lent : Values} (kept : Kept w s phase haps lent) where
  -- by an arrival: the likelihoods of the read
  module _ {f : ℕ} {strand : ℤ} {calls : List ℤ} (arriving : Arriving w s f strand calls) where
    abbrev read : ℕ → ℤ
    read h = likelihood_on (fixed_at w phase haps) (arriving_read strand calls) h

    read_in : (h : ℕ) → DownTo (2 ^ 40) (read h)
    read_in h = down_more (2 ^ 32) (2 ^ 40) (read h) (omega arith) (arriving_down arriving (fixed_at w phase haps) h kept.ready.case_in)

    pub arrival : Updating s (arrived_at w s phase haps lent f strand calls) (lent.total +ℤ mix_of (read 0) (read 1)) (counts_arrived (cutoff_at w) s.n (arriving_read strand calls) lent.counts)
    unfolding arrived
    arrival = record {
      likelihoods_in = put_in lent.likelihoods s.f f (read 0) (read 1) kept.likelihoods_long arriving.below (read_in 0) (read_in 1) (likelihood_in kept);
      total_is = refl;
      counts_are = refl;
    }

  -- by a departure: 0
  pub departure : (f : ℕ) → f < s.f
      → Updating s (departed_at w s lent f) (lent.total -ℤ mix_of (get_or lent.likelihoods (2 * f) (pos 0)) (get_or lent.likelihoods (2 * f + 1) (pos 0)))
      (counts_departed (cutoff_at w) s.n (fragment_from w s f) lent.counts)
  unfolding departed
  departure f h = record {
    likelihoods_in = put_in lent.likelihoods s.f f (pos 0) (pos 0) kept.likelihoods_long h (down_zero (2 ^ 40)) (down_zero (2 ^ 40)) (likelihood_in kept);
    total_is = refl;
    counts_are = refl;
  }
