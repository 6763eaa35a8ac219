-- The counts of a variant: those of both strands are those of the allele, those of the alleles and the ambiguous ones are all its calls.
-- Assumes nothing.
use mathlib.Core.Path.{◌≡◌, refl, ap, subst, ◌∙◌}
use mathlib.Core.Bool.{Bool, not, ◌&&◌, and-false}
use mathlib.Core.List.{List, [], ◌∷◌, ◌++◌, map}
use Prim.Native.Nat.{ℕ, suc, ◌+◌, ◌≤◌, ◌<◌}
use native.Mathlib.Decide.{ℕ_discrete}
use native.Mathlib.Omega.{arith}
use borrow.Author.Tests.{eq-eqb, ne_eqb, eqb-true}
use lib.Dec.{eqb}
use lib.IntN.{ℤ}
use lib.ListN.{length, length-append}
use Rattle.steps.proofs.Signed.{by_test}
use Rattle.variants_and_fragments.specs.Case.{Case, Call, Fragment, usable, allele_count, variant_of}
use Rattle.variants_and_fragments.specs.Inner.Case.{All, end, also, GoodCall, GoodFragment, GoodCase}
use Rattle.variants_and_fragments.specs.Pileup.{Row, row_of, only, usable_calls, rows_from, rows_of, at_variant, pile_of, ambiguous_in, ambiguous_from, ambiguous_count}
use Rattle.variants_and_fragments.specs.Sums.{count_over}
use Rattle.variants_and_fragments.proofs.Alls.{all_imp, all_map, all_append}
use Rattle.variants_and_fragments.proofs.Only.{only_in, only_out, only_none, only_append, only_all}
use Rattle.no_haplotypes.specs.NoHaplotypes.{row_strand, allele_calls, strand_calls, calls_at}

-- ---- lists
pub only_count : {X : Type 0} (p : X → Bool) (xs ys : List X) → length (only p (xs ++ ys)) ≡ length (only p xs) + length (only p ys)
only_count p xs ys = ap length (only_append p xs ys) ∙ length-append (only p xs) (only p ys)

only_map : {X Y : Type 0} (g : X → Y) (p : Y → Bool) (xs : List X) → length (only p (map g xs)) ≡ length (only (λ x. p (g x)) xs)
only_map g p [] = rw (only_none p, only_none (λ x. p (g x)))
only_map g p (x ∷ xs) =
    by_test (p (g x))
    (λ t. rw (only_in p (g x) (map g xs) t, only_in (λ x. p (g x)) x xs t) (ap suc (only_map g p xs)))
    (λ t. rw (only_out p (g x) (map g xs) t, only_out (λ x. p (g x)) x xs t) (only_map g p xs))

pub only_same : {X : Type 0} {p q : X → Bool} {xs : List X} → All (λ x. p x ≡ q x) xs → only p xs ≡ only q xs
unfolding only
only_same end = refl
only_same (also {x} {xs} e r) = rw (e, only_same r)

-- a list falls into those of which q holds and the rest
only_split : {X : Type 0} (p q : X → Bool) (xs : List X) → length (only p (only q xs)) + length (only (λ x. p x && not (q x)) xs) ≡ length (only p xs)
only_split p q [] = rw (only_none q, only_none p, only_none (λ x. p x && not (q x)))
only_split p q (x ∷ xs) =
    by_test (q x)
    (λ t. by_test (p x)
    (λ u. rw (only_in q x xs t, only_in p x (only q xs) u, only_in p x xs u, only_out (λ x. p x && not (q x)) x xs (rw (u, t))) (omega (arith, only_split p q xs)))
    (λ u. rw (only_in q x xs t, only_out p x (only q xs) u, only_out p x xs u, only_out (λ x. p x && not (q x)) x xs (rw u)) (only_split p q xs)))
    (λ t. by_test (p x)
    (λ u. rw (only_out q x xs t, only_in p x xs u, only_in (λ x. p x && not (q x)) x xs (rw (u, t))) (omega (arith, only_split p q xs)))
    (λ u. rw (only_out q x xs t, only_out p x xs u, only_out (λ x. p x && not (q x)) x xs (rw u)) (only_split p q xs)))

-- ---- all calls
-- of one fragment
own_calls : (cutoff : ℤ) (f v : ℕ) (x : Fragment) → length (only (at_variant v) (map (row_of f) (usable_calls cutoff x))) + ambiguous_in cutoff v x ≡ length (only (λ (call : Call). eqb call.variant v) x.calls)
unfolding usable_calls ambiguous_in
own_calls cutoff f v x =
    let a : ambiguous_in cutoff v x ≡ length (only (λ (call : Call). eqb call.variant v && not (usable cutoff x call)) x.calls) = refl in
    omega (arith, a, only_map (row_of f) (at_variant v) (usable_calls cutoff x), only_split (λ (call : Call). eqb call.variant v) (usable cutoff x) x.calls)

from_calls : (cutoff : ℤ) (f v : ℕ) (xs : List Fragment) → length (only (at_variant v) (rows_from cutoff f xs)) + ambiguous_from cutoff v xs ≡ count_over xs (λ fragment. length (only (λ (call : Call). eqb call.variant v) fragment.calls))
unfolding rows_from ambiguous_from count_over
from_calls cutoff f v [] = rw (only_none (at_variant v)) (omega arith)
from_calls cutoff f v (x ∷ xs) =
    omega (arith, only_count (at_variant v) (map (row_of f) (usable_calls cutoff x)) (rows_from cutoff (suc f) xs), own_calls cutoff f v x, from_calls cutoff (suc f) v xs)

-- the pile and the ambiguous calls are all calls
pub all_calls : (case : Case) (v : ℕ) → length (pile_of case v) + ambiguous_count case v ≡ calls_at case v
unfolding pile_of rows_of ambiguous_count calls_at
all_calls case v = from_calls case.cutoff 0 v case.fragments

-- ---- counts by allele and by strand
module _ (case : Case) where
  abbrev shows : ℕ → Row → Bool
  shows x row = eqb row.call.allele x

  abbrev on : ℕ → ℕ → Row → Bool
  on strand x row = eqb (row_strand case row) strand && eqb row.call.allele x

  both_strands : (x : ℕ) (rows : List Row) → length (only (on 0 x) rows) + length (only (on 1 x) rows) ≡ length (only (shows x) rows)
  both_strands x [] = rw (only_none (on 0 x), only_none (on 1 x), only_none (shows x))
  both_strands x (row ∷ rows) =
      by_test (shows x row)
      (λ t. elim (ℕ_discrete (row_strand case row) 0) [
        | yes f ↦ rw (only_in (on 0 x) row rows (rw (eq-eqb (row_strand case row) 0 f, t)), only_out (on 1 x) row rows (rw (ne_eqb (row_strand case row) 1 (λ g. omega arith))), only_in (shows x) row rows t) (omega (arith, both_strands x rows))
        | no f ↦ rw (only_out (on 0 x) row rows (rw (ne_eqb (row_strand case row) 0 f)), only_in (on 1 x) row rows (rw (eq-eqb (row_strand case row) 1 (omega arith), t)), only_in (shows x) row rows t) (omega (arith, both_strands x rows))
      ])
      (λ t. rw (only_out (on 0 x) row rows (rw (t, and-false)), only_out (on 1 x) row rows (rw (t, and-false)), only_out (shows x) row rows t) (both_strands x rows))

  three_alleles : (rows : List Row) → All (λ row. row.call.allele < 3) rows → length (only (shows 0) rows) + length (only (shows 1) rows) + length (only (shows 2) rows) ≡ length rows
  three_alleles [] end = rw (only_none (shows 0), only_none (shows 1), only_none (shows 2))
  three_alleles (row ∷ rows) (also a r) =
      let t = three_alleles rows r in
      elim (ℕ_discrete row.call.allele 0) [
        | yes e ↦ rw (only_in (shows 0) row rows (eq-eqb row.call.allele 0 e), only_out (shows 1) row rows (ne_eqb row.call.allele 1 (λ f. omega arith)), only_out (shows 2) row rows (ne_eqb row.call.allele 2 (λ f. omega arith))) (omega arith)
        | no n ↦ elim (ℕ_discrete row.call.allele 1) [
          | yes e ↦ rw (only_out (shows 0) row rows (ne_eqb row.call.allele 0 n), only_in (shows 1) row rows (eq-eqb row.call.allele 1 e), only_out (shows 2) row rows (ne_eqb row.call.allele 2 (λ f. omega arith))) (omega arith)
          | no m ↦ rw (only_out (shows 0) row rows (ne_eqb row.call.allele 0 n), only_out (shows 1) row rows (ne_eqb row.call.allele 1 m), only_in (shows 2) row rows (eq-eqb row.call.allele 2 (omega arith))) (omega arith)
        ]
      ]

  -- forward plus reverse equal the counts
  pub forward_reverse : (v x : ℕ) → strand_calls case v 0 x + strand_calls case v 1 x ≡ allele_calls case v x
  unfolding strand_calls allele_calls
  forward_reverse v x = both_strands x (pile_of case v)

-- ---- of a good case, as every accepted case is (variants_and_fragments/proofs/GoodCases)
module _ {case : Case} (good : GoodCase case) where
  call_three : (row : Row) → GoodCall case.variants row.call → row.call.allele < 3
  call_three row g = omega (arith, g.allele_in, (good.variants_in row.call.variant g.variant_in).three_alleles)

  from_good : (f : ℕ) (xs : List Fragment) → All (GoodFragment case.variants) xs → All (λ (row : Row). GoodCall case.variants row.call) (rows_from case.cutoff f xs)
  unfolding rows_from usable_calls
  from_good f [] end = end
  from_good f (x ∷ xs) (also g r) = all_append (all_map (row_of f) (usable_calls case.cutoff x) (only_all (usable case.cutoff x) x.calls g.calls_in)) (from_good (suc f) xs r)

  rows_good : All (λ (row : Row). GoodCall case.variants row.call) (rows_of case)
  unfolding rows_of
  rows_good = from_good 0 case.fragments good.fragments_in

  -- counts plus ambiguous equal the calls
  pub counts_ambiguous : (v : ℕ) → allele_calls case v 0 + allele_calls case v 1 + allele_calls case v 2 + ambiguous_count case v ≡ calls_at case v
  unfolding allele_calls pile_of
  counts_ambiguous v = omega (arith, three_alleles case (pile_of case v) (only_all (at_variant v) (rows_of case) (all_imp call_three rows_good)), all_calls case v)

  -- absent alleles 0
  none_shows : (v x : ℕ) → allele_count (variant_of case v) ≤ x → (rows : List Row) → All (λ (row : Row). GoodCall case.variants row.call) rows → length (only (shows case x) (only (at_variant v) rows)) ≡ 0
  none_shows v x h [] end = rw (only_none (at_variant v), only_none (shows case x))
  none_shows v x h (row ∷ rows) (also g r) =
      by_test (at_variant v row)
      (λ t.
      let a : row.call.allele < allele_count (variant_of case v) = subst (λ (u : ℕ). row.call.allele < allele_count (variant_of case u)) (eqb-true row.call.variant v t) g.allele_in in
      rw (only_in (at_variant v) row rows t, only_out (shows case x) row (only (at_variant v) rows) (ne_eqb row.call.allele x (λ e. omega arith))) (none_shows v x h rows r))
      (λ t. rw (only_out (at_variant v) row rows t) (none_shows v x h rows r))

  pub absent_none : (v x : ℕ) → allele_count (variant_of case v) ≤ x → allele_calls case v x ≡ 0
  unfolding allele_calls pile_of
  absent_none v x h = none_shows v x h (rows_of case) rows_good
