-- Each part of the definition is tested.
use Rattle.std.proofs.Common.{◌≡◌, ◌*◌, ◌≤◌, ℕ, Bool, true, ℤ, pos, List, length, take, get_or, IsTrue, EachIndex, slice_index_or, ◌↔◌, ap, arith, length-take}
use Rattle.std.proofs.lemmas.List.{get_or-take}
use Rattle.variants_and_fragments.specs.First.{holds_below}
use Rattle.variants_and_fragments.specs.Words.{within}
use Rattle.variants_and_fragments.proofs.First.{decides}
use Rattle.late_reads.specs.Values.{lowest_total, max_count, in_range}
use Rattle.late_reads.proofs.ranges.in_range.Goals as goal

-- the first n numbers of a list
front_decides : (test : ℤ → Bool) (xs : List ℤ) (n : ℕ) (r : Bool) → n ≤ length xs → (IsTrue r ↔ EachIndex (take n xs) (λ e. test (slice_index_or (take n xs) e (pos 0)) ≡ true)) → r ≡ holds_below (λ e. test (get_or xs e (pos 0))) n
front_decides test xs n r long d =
    decides (λ e. test (get_or xs e (pos 0))) (λ e. test (get_or (take n xs) e (pos 0))) n (length (take n xs)) r (simp length-take (omega arith)) (λ e l. ap test (get_or-take n xs e (pos 0) l)) d

pub returns : goal.returns
unfolding in_range
returns c =
    rw (
      c.total_ok-a.ensures,
      front_decides (within lowest_total (pos 0)) c.args.likelihoods.now (2 * c.args.s.f) _ c.requires.2 c.likelihoods_ok-b.ensures,
      front_decides (within (pos 0) (pos max_count)) c.args.counts.now (10 * c.args.s.n) _ c.requires.3 c.counts_ok-c.ensures,
    )
