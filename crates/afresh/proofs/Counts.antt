-- The ten counts of a variant are sums over the fragments of what each adds. The pile of a variant is taken apart fragment by fragment: a row of
-- it has the number of its fragment, so that the strand which section 4 looks up by that number is the strand of the fragment at hand.
-- Assumes nothing.
use mathlib.Core.Path.{◌≡◌, refl, sym, ap, ◌∙◌}
use mathlib.Core.Bool.{Bool, true, false, ◌&&◌, and-true, and_comm}
use mathlib.Core.List.{List, [], ◌∷◌, map}
use Prim.Native.Nat.{ℕ, zero, suc, ◌+◌, ◌*◌, ◌/◌, ◌%◌, ◌<◌}
use native.Mathlib.Decide.{ℕ_discrete}
use native.Mathlib.Omega.{arith}
use borrow.Author.Tests.{eq-eqb, ne_eqb, lt-ltb, le-ltb}
use lib.Dec.{eqb}
use lib.IntN.{ℤ, pos}
use lib.ListN.{length, get_or, length-map}
use Rattle.steps.proofs.Signed.{by_test}
use Rattle.variants_and_fragments.specs.Case.{Case, Fragment, Call, direction, usable, fragment_of, no_fragment}
use Rattle.variants_and_fragments.specs.Pileup.{Row, row_of, only, usable_calls, rows_from, rows_of, at_variant, pile_of, ambiguous_in, ambiguous_from, ambiguous_count}
use Rattle.variants_and_fragments.specs.Sums.{count_over}
use Rattle.variants_and_fragments.proofs.Only.{only_in, only_out, only_none, only_map, only_cong}
use Rattle.variants_and_fragments.proofs.Sums.{count_over_cong}
use Rattle.genotype_probs.specs.declared.Rates.{Rates}
use Rattle.no_haplotypes.specs.NoHaplotypes.{row_strand, allele_calls, strand_calls, answer_from, variant_answer, answer_at}
use Rattle.no_haplotypes.proofs.CountLaws.{only_count}
use Rattle.late_reads.specs.Values.{counted, read_count}
use Rattle.afresh.specs.Fresh.{count_word_at}

-- ---- tests
and_swap : (a b c : Bool) → (a && (b && c)) ≡ (b && (a && c))
and_swap true b c = refl
and_swap false true c = refl
and_swap false false c = refl

-- strand s is that of the place 3 + 3 s on
strand_test : (s strand : ℕ) → eqb (1 + s) (1 + strand) ≡ eqb strand s
strand_test s strand = elim (ℕ_discrete strand s) [
  | yes e ↦ rw (eq-eqb strand s e) (eq-eqb (1 + s) (1 + strand) (omega arith))
  | no e ↦ rw (ne_eqb strand s e) (ne_eqb (1 + s) (1 + strand) (λ f. e (omega arith)))
]

-- two tests one after the other are one
only_twice : {X : Type 0} (p q : X → Bool) (xs : List X) → only p (only q xs) ≡ only (λ x. q x && p x) xs
only_twice p q [] = rw (only_none q, only_none p, only_none (λ x. q x && p x))
only_twice p q (x ∷ xs) =
    by_test (q x)
    (λ t. by_test (p x)
    (λ u. rw (only_in q x xs t, only_in p x (only q xs) u, only_in (λ x. q x && p x) x xs (rw (t, u)), only_twice p q xs))
    (λ u. rw (only_in q x xs t, only_out p x (only q xs) u, only_out (λ x. q x && p x) x xs (rw (t, u)), only_twice p q xs)))
    (λ t. rw (only_out q x xs t, only_out (λ x. q x && p x) x xs (rw t), only_twice p q xs))

-- ---- a pile, fragment by fragment
-- the rows of fragments from f on of which p holds, where p goes by q of a row's fragment
module _ (cutoff : ℤ) (p : Row → Bool) (q : Fragment → Call → Bool) where
  -- how many usable calls of a fragment pass
  abbrev own : Fragment → ℕ
  own x = length (only (λ call. usable cutoff x call && q x call) x.calls)

  own_rows : (f : ℕ) (x : Fragment) → ((call : Call) → p (row_of f call) ≡ q x call) → length (only p (map (row_of f) (usable_calls cutoff x))) ≡ own x
  unfolding usable_calls
  own_rows f x e =
      rw (only_map (row_of f) p (usable_calls cutoff x), length-map (only (λ call. p (row_of f call)) (usable_calls cutoff x)) (row_of f))
      (ap length (only_twice (λ call. p (row_of f call)) (usable cutoff x) x.calls ∙ only_cong _ _ x.calls (λ call. ap (λ t. usable cutoff x call && t) (e call))))

  from_rows : (f : ℕ) (xs : List Fragment) → ((i : ℕ) → i < length xs → (call : Call) → p (row_of (f + i) call) ≡ q (get_or xs i no_fragment) call)
      → length (only p (rows_from cutoff f xs)) ≡ count_over xs own
  unfolding rows_from count_over
  from_rows f [] e = rw (only_none p)
  from_rows f (x ∷ xs) e =
      let a = only_count p (map (row_of f) (usable_calls cutoff x)) (rows_from cutoff (suc f) xs) in
      let b = own_rows f x (λ call. let z : f + 0 ≡ f = omega arith in rw z at (e 0 (omega arith) call)) in
      let c = from_rows (suc f) xs (λ i h call. let z : suc f + i ≡ f + suc i = omega arith in rw z (e (suc i) (omega arith) call)) in
      omega arith

ambiguous_sum : (cutoff : ℤ) (v : ℕ) (xs : List Fragment) → ambiguous_from cutoff v xs ≡ count_over xs (ambiguous_in cutoff v)
unfolding ambiguous_from count_over
ambiguous_sum cutoff v [] = refl
ambiguous_sum cutoff v (x ∷ xs) = rw (ambiguous_sum cutoff v xs)

module _ (case : Case) (v : ℕ) where
  abbrev fragments : List Fragment
  fragments = case.fragments

  abbrev cutoff : ℤ
  cutoff = case.cutoff

  -- the rows of v's pile of which p holds
  pile_count : (p : Row → Bool) (q : Fragment → Call → Bool) → ((f : ℕ) → f < length fragments → (call : Call) → p (row_of f call) ≡ q (fragment_of case f) call)
      → length (only p (pile_of case v)) ≡ count_over fragments (λ x. length (only (λ call. eqb call.variant v && (usable cutoff x call && q x call)) x.calls))
  unfolding pile_of rows_of
  pile_count p q e =
      ap length (only_twice p (at_variant v) (rows_of case))
      ∙ from_rows cutoff (λ row. at_variant v row && p row) (λ x call. eqb call.variant v && q x call) 0 fragments
      (λ i h call. let z : 0 + i ≡ i = omega arith in rw z (ap (λ t. eqb call.variant v && t) (e i h call)))
      ∙ count_over_cong fragments _ _ (λ x. ap length (only_cong _ _ x.calls (λ call. and_swap (usable cutoff x call) (eqb call.variant v) (q x call))))

  -- what a fragment adds at place j of v's ten
  abbrev adds : ℕ → Fragment → ℕ
  adds j x = length (only (λ call. eqb call.variant v && counted cutoff x j call) x.calls)

  -- calls that are counted at j by a test t
  counted_by : (j : ℕ) (t : Fragment → Call → Bool) → ((x : Fragment) (call : Call) → counted cutoff x j call ≡ t x call)
      → count_over fragments (λ x. length (only (λ call. eqb call.variant v && t x call) x.calls)) ≡ count_over fragments (adds j)
  counted_by j t e = count_over_cong fragments _ _ (λ x. ap length (only_cong _ _ x.calls (λ call. ap (λ b. eqb call.variant v && b) (sym (e x call)))))

  alleles_are : (a : ℕ) → a < 3 → allele_calls case v a ≡ count_over fragments (adds a)
  unfolding allele_calls counted
  alleles_are a h =
      let m : a % 3 ≡ a = omega arith in
      pile_count (λ (row : Row). eqb row.call.allele a) (λ x call. eqb call.allele a) (λ f l call. refl)
      ∙ counted_by a (λ x call. usable cutoff x call && eqb call.allele a) (λ x call. rw (ne_eqb a 9 (omega arith), m, lt-ltb a 3 h, and-true))

  strands_are : (s a : ℕ) → s < 2 → a < 3 → strand_calls case v s a ≡ count_over fragments (adds (3 + (3 * s + a)))
  unfolding strand_calls counted
  strands_are s a k h =
      let j = 3 + (3 * s + a) in
      let m : j % 3 ≡ a = omega arith in
      let d : j / 3 ≡ 1 + s = omega arith in
      pile_count (λ (row : Row). eqb (row_strand case row) s && eqb row.call.allele a) (λ x call. eqb (direction x.strand) s && eqb call.allele a) (λ f l call. refl)
      ∙ counted_by j (λ x call. usable cutoff x call && (eqb (direction x.strand) s && eqb call.allele a))
      (λ x call.
      rw (ne_eqb j 9 (omega arith), m, d, le-ltb j 3 (omega arith), strand_test s (direction x.strand))
      (ap (λ t. usable cutoff x call && t) (and_comm (eqb call.allele a) (eqb (direction x.strand) s))))

  ambiguous_are : ambiguous_count case v ≡ count_over fragments (adds 9)
  unfolding ambiguous_count ambiguous_in counted
  ambiguous_are = ambiguous_sum cutoff v fragments

  -- words 2 to 11 of v, whatever its posteriors
  words_are : (post : List ℤ) (k j : ℕ) → j < 10 → answer_from post k case v (2 + j) ≡ pos (count_over fragments (adds j))
  unfolding answer_from
  words_are post k zero h = ap pos (alleles_are 0 (omega arith))
  words_are post k (suc zero) h = ap pos (alleles_are 1 (omega arith))
  words_are post k (suc (suc zero)) h = ap pos (alleles_are 2 (omega arith))
  words_are post k (suc (suc (suc zero))) h = ap pos (strands_are 0 0 (omega arith) (omega arith))
  words_are post k (suc (suc (suc (suc zero)))) h = ap pos (strands_are 0 1 (omega arith) (omega arith))
  words_are post k (suc (suc (suc (suc (suc zero))))) h = ap pos (strands_are 0 2 (omega arith) (omega arith))
  words_are post k (suc (suc (suc (suc (suc (suc zero)))))) h = ap pos (strands_are 1 0 (omega arith) (omega arith))
  words_are post k (suc (suc (suc (suc (suc (suc (suc zero))))))) h = ap pos (strands_are 1 1 (omega arith) (omega arith))
  words_are post k (suc (suc (suc (suc (suc (suc (suc (suc zero)))))))) h = ap pos (strands_are 1 2 (omega arith) (omega arith))
  words_are post k (suc (suc (suc (suc (suc (suc (suc (suc (suc zero))))))))) h = ap pos ambiguous_are
  words_are post k (suc (suc (suc (suc (suc (suc (suc (suc (suc (suc j)))))))))) h = absurd (omega arith)

-- ---- element e of the ten a variant
module _ (rates : Rates) (case : Case) where
  -- it is the sum of what the fragments add there
  pub counts_are : (e : ℕ) → answer_at rates case (count_word_at e) ≡ pos (count_over case.fragments (λ x. read_count case.cutoff x e))
  unfolding answer_at variant_answer read_count
  counts_are e =
      let q : count_word_at e / 13 ≡ e / 10 = omega arith in
      let r : count_word_at e % 13 ≡ 2 + e % 10 = omega arith in
      rw (q, r) (words_are case (e / 10) _ _ (e % 10) (omega arith))

-- and goes by no rates
pub fresh_counts_any : (rates other : Rates) (case : Case) (v j : ℕ) → j < 10 → answer_at rates case (13 * v + (2 + j)) ≡ answer_at other case (13 * v + (2 + j))
unfolding answer_at variant_answer
fresh_counts_any rates other case v j h =
    let q : (13 * v + (2 + j)) / 13 ≡ v = omega arith in
    let r : (13 * v + (2 + j)) % 13 ≡ 2 + j = omega arith in
    rw (q, r) (words_are case v _ _ j h ∙ sym (words_are case v _ _ j h))
