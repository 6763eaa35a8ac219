-- The calls of a read that arrives, past its tests, and those of an accepted case's fragment: their variants rise and are the case's. What is left of
-- arriving calls is the rest of a table, and what the code holds of either read stands for the read.
-- Assumes nothing.
use mathlib.Core.Path.{◌≡◌, refl, sym, ap, ◌∙◌}
use mathlib.Core.Bool.{true}
use mathlib.Core.List.{List, [], ◌∷◌, map}
use Prim.Native.Nat.{ℕ, zero, suc, ◌+◌, ◌-◌, ◌*◌, ◌≤◌, ◌<◌}
use native.Mathlib.Omega.{arith}
use borrow.Author.Tests.{ne_eqb, ltb-true}
use lib.IntN.{ℤ, pos, negsuc}
use lib.ListN.{length, drop}
use Rattle.std.proofs.lemmas.List.{get_or-drop, length-drop}
use Rattle.variants_and_fragments.specs.declared.Sizes.{Sizes}
use Rattle.variants_and_fragments.specs.Case.{Fragment, Call}
use Rattle.variants_and_fragments.specs.Chain.{link_ok, present_at, strand_at}
use Rattle.variants_and_fragments.specs.Decode.{tabulate_from, call_from, fragment_from}
use Rattle.variants_and_fragments.specs.Layout.{allele_count_at, call_variant_at, variant_field, allele_field, qual_field, one_minus_qual_field, call_ok, cutoff_at}
use Rattle.variants_and_fragments.specs.Words.{below, word, nat_of}
use Rattle.variants_and_fragments.specs.Inner.Accepted.{allb, CaseIn}
use Rattle.variants_and_fragments.specs.Inner.Alleles.{VariantsIn}
use Rattle.variants_and_fragments.proofs.Bools.{both}
use Rattle.variants_and_fragments.proofs.Chain.{next_rises}
use Rattle.variants_and_fragments.proofs.Linked.{Linked, ends, goes, chain_linked}
use Rattle.variants_and_fragments.proofs.Ranges.{below_less}
use Rattle.variants_and_fragments.proofs.Records.{call_facts}
use Rattle.variants_and_fragments.proofs.Tabulated.{table_start, table_more, table_end}
use Rattle.pileup.specs.declared.reader.Call.{Call as CallHeld}
use Rattle.pileup.specs.Inner.Packed.{call_read}
use Rattle.pileup.specs.Inner.Reader.{held_call}
use Rattle.late_reads.specs.Arriving.{arriving_words, arriving_word, whole_calls, arriving_call, arriving_read, arriving_ok, arriving_rises}
use Rattle.late_reads.specs.Inner.Counting.{Rising, none, more, read_of, counts_after, counts_arrived, counts_departed}
use Rattle.late_reads.specs.Inner.Ready.{Arriving, arriving_left}
use Rattle.late_reads.proofs.Counting.{arrived_is, departed_is}

-- ---- a read that arrives
-- a table of m calls, from i on
table_rising : (g : ℕ → Call) (n m : ℕ) → ((i : ℕ) → i < m → ((g i).variant < n) × ((g i).allele < 3)) → ((i : ℕ) → suc i < m → (g i).variant < (g (suc i)).variant)
    → (k i b : ℕ) → i + k ≡ m → (i < m → b ≤ (g i).variant) → Rising n b (tabulate_from g i k)
unfolding tabulate_from
table_rising g n m each up zero i b e low = none
table_rising g n m each up (suc k) i b e low =
    let h = each i (omega arith) in
    more {call = g i} (low (omega arith)) h.0 h.1 (table_rising g n m each up k (suc i) (suc (g i).variant) (omega arith) (λ l. up i l))

module _ {w : List ℤ} {s : Sizes} {f : ℕ} {strand : ℤ} {calls : List ℤ} (case : CaseIn w s) (a : Arriving w s f strand calls) where
  -- a call's numbers are those of a record
  arriving_in : (i : ℕ) → i < whole_calls calls → ((arriving_call calls i).variant < s.n) × ((arriving_call calls i).allele < 3)
  unfolding arriving_ok arriving_call
  arriving_in i l =
      let v = arriving_word calls i variant_field in
      let x = arriving_word calls i allele_field in
      let p = both (below s.n v) _ (a.each_in i l) in
      let q = both (below (allele_count_at w (nat_of v)) x) _ p.1 in
      let h = below_less s.n v p.0 in
      (h, omega (arith, below_less (allele_count_at w (nat_of v)) x q.0, (case.variants.each (nat_of v) h).k_high))

  arriving_up : (i : ℕ) → suc i < whole_calls calls → (arriving_call calls i).variant < (arriving_call calls (suc i)).variant
  unfolding arriving_rises
  arriving_up i l =
      let z : suc i - 1 ≡ i = omega arith in
      ltb-true _ _ (rw (ne_eqb (suc i) 0 (λ e. omega arith), z) at (a.each_rises (suc i) l))

  pub arriving_rises_lem : Rising s.n 0 (arriving_read strand calls).calls
  unfolding arriving_read
  arriving_rises_lem = table_rising (arriving_call calls) s.n (whole_calls calls) arriving_in arriving_up (whole_calls calls) 0 0 (omega arith) (λ l. omega arith)

-- the calls left, as the code holds them: the first, and those of the words after its four
call_after : (calls : List ℤ) (i : ℕ) → arriving_call (drop arriving_words calls) i ≡ arriving_call calls (suc i)
unfolding arriving_call
call_after calls i = rw (word_after variant_field, word_after allele_field, word_after qual_field, word_after one_minus_qual_field) refl
  where
    word_after : (field : ℕ) → word (drop arriving_words calls) (arriving_words * i + field) ≡ word calls (arriving_words * suc i + field)
    word_after field =
        let e : arriving_words + (arriving_words * i + field) ≡ arriving_words * suc i + field = omega arith in
        get_or-drop arriving_words calls (arriving_words * i + field) (pos 0) ∙ ap (word calls) e

calls_after : (g h : ℕ → Call) → ((i : ℕ) → h i ≡ g (suc i)) → (k i : ℕ) → tabulate_from h i k ≡ tabulate_from g (suc i) k
unfolding tabulate_from
calls_after g h same zero i = refl
calls_after g h same (suc k) i = rw (same i, calls_after g h same k (suc i)) refl

module _ (calls : List ℤ) where
  pub arriving_more : arriving_words ≤ length calls → arriving_left calls 0 ≡ held_call (arriving_call calls 0) ∷ arriving_left (drop arriving_words calls) 0
  arriving_more l =
      let n : whole_calls calls - 1 ≡ whole_calls (drop arriving_words calls) - 0 = omega (arith, length-drop arriving_words calls) in
      ap (map held_call) (table_more (arriving_call calls) (whole_calls calls) 0 (omega arith)
      ∙ ap (λ (rest : List Call). arriving_call calls 0 ∷ rest) (ap (tabulate_from (arriving_call calls) 1) n ∙ sym (calls_after _ _ (call_after calls) _ 0)))

  pub arriving_out : length calls < arriving_words → arriving_left calls 0 ≡ []
  arriving_out l = ap (map held_call) (table_end (arriving_call calls) (whole_calls calls) 0 (omega arith))

  -- from call i on
  pub arriving_next : (i : ℕ) → i < whole_calls calls → arriving_left calls i ≡ held_call (arriving_call calls i) ∷ arriving_left calls (i + 1)
  arriving_next i l = ap (map held_call) (table_more (arriving_call calls) (whole_calls calls) i l)

  pub arriving_none : (i : ℕ) → whole_calls calls ≤ i → arriving_left calls i ≡ []
  arriving_none i l = ap (map held_call) (table_end (arriving_call calls) (whole_calls calls) i l)

-- ---- what is held of a read's calls
pub read_back : (calls : List Call) → map call_read (map held_call calls) ≡ calls
unfolding held_call
read_back [] = refl
read_back (call ∷ calls) = ap (λ (rest : List Call). call ∷ rest) (read_back calls)

pub read_arriving : (strand : ℤ) (calls : List ℤ) → read_of (nat_of strand) (arriving_left calls 0) ≡ arriving_read strand calls
unfolding arriving_read
read_arriving strand calls = rw (table_start, read_back) refl

pub read_fragment : (w : List ℤ) (s : Sizes) (f : ℕ) → present_at w s f ≡ true → read_of (strand_at w s f) (map held_call (fragment_from w s f).calls) ≡ fragment_from w s f
unfolding fragment_from
read_fragment w s f p = rw (read_back, p) refl

-- ---- a fragment
linked_rising : (w : List ℤ) (s : Sizes) → VariantsIn w s → (b : ℕ) {r : ℕ} {rs : List ℕ} → Linked w s (link_ok w s) r rs → (1 ≤ r → b ≤ call_variant_at w s r) → allb (call_ok w s) rs ≡ true → Rising s.n b (map (call_from w s) rs)
unfolding allb call_from
linked_rising w s vs b ends low ok = none
linked_rising w s vs b (goes {r} {rs} lo hi link l) low ok =
    let o = both (call_ok w s r) (allb (call_ok w s) rs) ok in
    let i = call_facts w s r o.0 in
    more {call = call_from w s r} (low lo) i.variant_in (omega (arith, i.allele_in, (vs.each (call_variant_at w s r) i.variant_in).k_high)) (linked_rising w s vs (suc (call_variant_at w s r)) l (next_rises w s r link) o.1)

module _ {w : List ℤ} {s : Sizes} (case : CaseIn w s) (f : ℕ) (h : f < s.f) where
  pub chain_rises : Rising s.n 0 (fragment_from w s f).calls
  unfolding fragment_from
  chain_rises = let i = case.frags f h in linked_rising w s case.variants 0 (chain_linked case.sized.used_top i) (λ l. omega arith) i.calls

-- ---- what is promised of the calls that the code holds
module _ {w : List ℤ} {s : Sizes} (case : CaseIn w s) where
  pub arriving_held : {f : ℕ} {strand : ℤ} {calls : List ℤ} {left : List CallHeld} → Arriving w s f strand calls → left ≡ arriving_left calls 0 → Rising s.n 0 (map call_read left)
  arriving_held {strand = strand} {calls = calls} a e = rw (e, ap (λ (x : Fragment). x.calls) (read_arriving strand calls)) (arriving_rises_lem case a)

  pub chain_held : (f : ℕ) {left : List CallHeld} → f < s.f → left ≡ map held_call (fragment_from w s f).calls → Rising s.n 0 (map call_read left)
  chain_held f l e = rw (e, read_back) (chain_rises case f l)

module _ (w : List ℤ) (n : ℕ) (counts : List ℤ) {w' : List ℤ} {k : ℕ} {left : List CallHeld} (same : w' ≡ w) where
  pub arriving_counted : (strand : ℤ) (calls : List ℤ) → left ≡ arriving_left calls 0 → k ≡ nat_of strand → counts_after (pos 1) (cutoff_at w') (read_of k left) n counts ≡ counts_arrived (cutoff_at w) n (arriving_read strand calls) counts
  arriving_counted strand calls e z = rw (same, e, z, read_arriving strand calls) (arrived_is (cutoff_at w) (arriving_read strand calls) n counts)

  pub departing_counted : (s : Sizes) (f : ℕ) → present_at w s f ≡ true → left ≡ map held_call (fragment_from w' s f).calls → k ≡ strand_at w' s f
      → counts_after (negsuc 0) (cutoff_at w') (read_of k left) n counts ≡ counts_departed (cutoff_at w) n (fragment_from w s f) counts
  departing_counted s f p e z = rw (e, z, same, read_fragment w s f p) (departed_is (cutoff_at w) (fragment_from w s f) n counts)
