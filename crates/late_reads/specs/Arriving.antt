-- Requests 1 and 3: the calls of an arrival, four words each, the records that they take, and the words of the case afterwards.
-- Assumes nothing.
use Rattle.std.specs.Prelude.{Bool, true, ◌||◌, List, [], ◌∷◌, ◌++◌, ℕ, zero, suc, ◌+◌, ◌-◌, ◌*◌, ◌/◌, eqb, ltb, ℤ, pos, negsuc, length, get_or, take}
use Rattle.variants_and_fragments.specs.declared.Sizes.{Sizes}
use Rattle.variants_and_fragments.specs.declared.CallWords.{CallWords}
use Rattle.variants_and_fragments.specs.Case.{Fragment, Call}
use Rattle.variants_and_fragments.specs.Chain.{chain_of, free_chain}
use Rattle.variants_and_fragments.specs.Decode.{tabulate}
use Rattle.variants_and_fragments.specs.Layout.{variant_field, allele_field, qual_field, one_minus_qual_field, first_field, strand_field, next_field, used_field, free_field, call_words_ok, head_set, fragment_set, call_set, call_put}
use Rattle.variants_and_fragments.specs.Words.{word, nat_of}

-- "each call given as its record's first four words"
abbrev pub arriving_words : ℕ
arriving_words = 4

abbrev pub arriving_word : List ℤ → ℕ → ℕ → ℤ
arriving_word calls i field = word calls (arriving_words * i + field)

-- the number of whole calls
abbrev pub whole_calls : List ℤ → ℕ
whole_calls calls = length calls / arriving_words

-- the words of call i
abbrev pub arriving_at : List ℤ → ℕ → CallWords
arriving_at calls i = record {
  variant = arriving_word calls i variant_field;
  allele = arriving_word calls i allele_field;
  qual = arriving_word calls i qual_field;
  one_minus_qual = arriving_word calls i one_minus_qual_field;
}

unfoldable pub arriving_call : List ℤ → ℕ → Call
arriving_call calls i = record {
  variant = nat_of (arriving_word calls i variant_field);
  allele = nat_of (arriving_word calls i allele_field);
  qual = arriving_word calls i qual_field;
  one_minus_qual = arriving_word calls i one_minus_qual_field;
}

-- the read that arrives
unfoldable pub arriving_read : ℤ → List ℤ → Fragment
arriving_read strand calls = record { present = true; strand = nat_of strand; calls = tabulate (whole_calls calls) (arriving_call calls) }

-- 4: a call's variant, allele and qualities are in range, as of a record
unfoldable pub arriving_ok : List ℤ → Sizes → List ℤ → ℕ → Bool
arriving_ok w s calls i =
    call_words_ok w s (arriving_word calls i variant_field) (arriving_word calls i allele_field) (arriving_word calls i qual_field)
    (arriving_word calls i one_minus_qual_field)

-- 5: its variant rises over that of the call before
unfoldable pub arriving_rises : List ℤ → ℕ → Bool
arriving_rises calls i = eqb i 0 || ltb (arriving_call calls (i - 1)).variant (arriving_call calls i).variant

-- ---- the records that an arrival takes (request 3)
-- the unused tail
unfoldable pub unused_records : Sizes → List ℕ
unused_records s = tabulate (s.c - s.used) (λ i. s.used + 1 + i)

-- the records that no fragment has: the free ones in their order, then the unused tail
unfoldable pub room : List ℤ → Sizes → List ℕ
room w s = free_chain w s ++ unused_records s

-- "an arrival takes from the front": the records of m calls
unfoldable pub taken : List ℤ → Sizes → ℕ → List ℕ
taken w s m = take m (room w s)

-- ---- the words afterwards
-- call i in its record, one of rs; its next is the record of the call after it, and 0 after the last
unfoldable pub call_laid : List ℤ → Sizes → List ℤ → List ℕ → ℕ → List ℤ
call_laid w s calls rs i = call_put w s (get_or rs i 0) (arriving_at calls i) (get_or rs (suc i) 0)

-- the first i calls
unfoldable pub calls_laid : List ℤ → Sizes → List ℤ → List ℕ → ℕ → List ℤ
calls_laid w s calls rs zero = w
calls_laid w s calls rs (suc i) = call_laid (calls_laid w s calls rs i) s calls rs i

-- an arrival's calls stand in the records taken, and fragment f's first call is the first of them, or 0 for no calls; the records that it
-- takes beyond the free ones are used ones now, and the first that is left free is the head's word 5, or 0 for none
unfoldable pub arrived_words : List ℤ → Sizes → ℕ → ℤ → List ℤ → List ℤ
arrived_words w s f strand calls =
    let m = whole_calls calls in
    let rs = taken w s m in
    let laid = calls_laid w s calls rs m in
    let w1 = fragment_set laid s f first_field (pos (get_or rs 0 0)) in
    let w2 = fragment_set w1 s f strand_field strand in
    let w3 = head_set w2 used_field (pos (s.used + (m - length (free_chain w s)))) in
    head_set w3 free_field (pos (get_or (free_chain w s) m 0))

-- "A departed chain goes, in its order, before the free ones": its first record is the head's word 5, and its last one's next is what that was; a chain
-- without records changes nothing
unfoldable pub freed_words : List ℤ → Sizes → List ℕ → List ℤ
freed_words w s [] = w
freed_words w s (r ∷ rs) = head_set (call_set w s (get_or (r ∷ rs) (length rs) 0) next_field (pos s.free)) free_field (pos r)

-- a departure makes fragment f absent; its strand and the four words of each of its calls stay
unfoldable pub departed_words : List ℤ → Sizes → ℕ → List ℤ
unfolding freed_words
departed_words w s f = fragment_set (freed_words w s (chain_of w s f)) s f first_field (negsuc 0)
