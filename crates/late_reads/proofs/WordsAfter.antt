-- What stands at each place of the words in which arriving calls are laid, call j in record rs j, the records being distinct ones of the case: the
-- calls' words there, each with the record of the call after it as its next, and at every other place the word that stood there. Each law follows the
-- words as they are set one after the other; where things stand is linear in the sizes, so that omega tells the places apart.
-- Assumes nothing.
use mathlib.Core.Path.{◌≡◌, refl, sym, ap, ◌∙◌}
use mathlib.Core.Bool.{true}
use mathlib.Core.List.{List}
use Prim.Native.Nat.{ℕ, zero, suc, ◌+◌, ◌≤◌, ◌<◌}
use native.Mathlib.Omega.{arith}
use native.Mathlib.Decide.{ℕ_discrete}
use native.Mathlib.Numerals.{add-one}
use lib.IntN.{ℤ, pos}
use lib.ListN.{length, get_or, length-set}
use lib.Seq.{get_or-set_same, get_or-set_other}
use Rattle.variants_and_fragments.specs.declared.Sizes.{Sizes}
use Rattle.variants_and_fragments.specs.declared.CallWords.{CallWords}
use Rattle.variants_and_fragments.specs.Words.{word}
use Rattle.variants_and_fragments.specs.Layout.{call_words, variant_field, allele_field, qual_field, one_minus_qual_field, next_field, call_at, call_word, call_set, call_put}
use Rattle.variants_and_fragments.specs.Inner.Layout.{Sized, call_words_at}
use Rattle.variants_and_fragments.proofs.Pigeon.{distinct}
use Rattle.late_reads.specs.Arriving.{arriving_at, call_laid, calls_laid}
use Rattle.late_reads.proofs.Distinct.{distinct_at}

-- words as long are laid out by the same sizes
pub sized_as : (w w' : List ℤ) (s : Sizes) → length w' ≡ length w → Sized w s → Sized w' s
sized_as w w' s e z = record { size = e ∙ z.size; n_top = z.n_top; f_top = z.f_top; c_top = z.c_top; used_top = z.used_top; free_top = z.free_top }

-- ---- one call put in its record
pub put_length : (w : List ℤ) (s : Sizes) (r : ℕ) (call : CallWords) (next : ℕ) → length (call_put w s r call next) ≡ length w
unfolding call_put
put_length w s r call next = simp length-set

module _ (w : List ℤ) (s : Sizes) (r : ℕ) (call : CallWords) (next : ℕ) where
  abbrev w1 : List ℤ
  w1 = call_set w s r variant_field call.variant

  abbrev w2 : List ℤ
  w2 = call_set w1 s r allele_field call.allele

  abbrev w3 : List ℤ
  w3 = call_set w2 s r qual_field call.qual

  abbrev w4 : List ℤ
  w4 = call_set w3 s r one_minus_qual_field call.one_minus_qual

  -- a place that is none of the record's keeps its word
  pub put_other : (k : ℕ) → ((j : ℕ) → j < call_words → k ≡ call_at s r + j → ⊥) → word (call_put w s r call next) k ≡ word w k
  unfolding call_put
  put_other k n =
      get_or-set_other w4 (call_at s r + next_field) k (pos next) (pos 0) (n 4 (omega arith))
      ∙ get_or-set_other w3 (call_at s r + one_minus_qual_field) k call.one_minus_qual (pos 0) (n 3 (omega arith))
      ∙ get_or-set_other w2 (call_at s r + qual_field) k call.qual (pos 0) (n 2 (omega arith))
      ∙ get_or-set_other w1 (call_at s r + allele_field) k call.allele (pos 0) (n 1 (omega arith))
      ∙ get_or-set_other w (call_at s r + variant_field) k call.variant (pos 0) (n 0 (omega arith))

  -- the record has the call's words and its next
  module _ (room : call_at s r + call_words ≤ length w) where
    pub put_next : call_word (call_put w s r call next) s r next_field ≡ pos next
    unfolding call_put
    put_next = get_or-set_same w4 (call_at s r + next_field) (pos next) (pos 0) (simp length-set (omega arith))

    -- the link is set last
    under_next : (field : ℕ) → field < 4 → call_word (call_put w s r call next) s r field ≡ call_word w4 s r field
    unfolding call_put
    under_next field l = get_or-set_other w4 (call_at s r + next_field) (call_at s r + field) (pos next) (pos 0) (λ e. omega arith)

    pub put_words : call_words_at (call_put w s r call next) s r ≡ call
    put_words =
        let o : call_word w4 s r one_minus_qual_field ≡ call.one_minus_qual = get_or-set_same w3 (call_at s r + one_minus_qual_field) call.one_minus_qual (pos 0) (simp length-set (omega arith)) in
        let under3 : (field : ℕ) → field < 3 → call_word w4 s r field ≡ call_word w3 s r field =
        λ field l. get_or-set_other w3 (call_at s r + one_minus_qual_field) (call_at s r + field) call.one_minus_qual (pos 0) (λ e. omega arith) in
        let q : call_word w3 s r qual_field ≡ call.qual = get_or-set_same w2 (call_at s r + qual_field) call.qual (pos 0) (simp length-set (omega arith)) in
        let under2 : (field : ℕ) → field < 2 → call_word w3 s r field ≡ call_word w2 s r field =
        λ field l. get_or-set_other w2 (call_at s r + qual_field) (call_at s r + field) call.qual (pos 0) (λ e. omega arith) in
        let a : call_word w2 s r allele_field ≡ call.allele = get_or-set_same w1 (call_at s r + allele_field) call.allele (pos 0) (simp length-set (omega arith)) in
        let v : call_word w2 s r variant_field ≡ call.variant =
        get_or-set_other w1 (call_at s r + allele_field) (call_at s r + variant_field) call.allele (pos 0) (λ e. omega arith)
        ∙ get_or-set_same w (call_at s r + variant_field) call.variant (pos 0) (omega arith) in
        rw (
          under_next variant_field (omega arith) ∙ under3 variant_field (omega arith) ∙ under2 variant_field (omega arith) ∙ v,
          under_next allele_field (omega arith) ∙ under3 allele_field (omega arith) ∙ under2 allele_field (omega arith) ∙ a,
          under_next qual_field (omega arith) ∙ under3 qual_field (omega arith) ∙ q,
          under_next one_minus_qual_field (omega arith) ∙ o,
        )

-- ---- the arriving calls
-- record j of rs is call j's in w', and its next is the record after it
pub record CallAt (w' : List ℤ) (s : Sizes) (calls : List ℤ) (rs : List ℕ) (j : ℕ) : Type 0 where
  pub words_are : call_words_at w' s (get_or rs j 0) ≡ arriving_at calls j
  pub next_is : call_word w' s (get_or rs j 0) next_field ≡ pos (get_or rs (suc j) 0)

-- it stays so in words that agree on the record
pub call_stays : (w w' : List ℤ) (s : Sizes) (calls : List ℤ) (rs : List ℕ) (j : ℕ) → ((field : ℕ) → field < call_words → call_word w' s (get_or rs j 0) field ≡ call_word w s (get_or rs j 0) field)
    → CallAt w s calls rs j → CallAt w' s calls rs j
call_stays w w' s calls rs j same c = record {
  words_are = rw (same variant_field (omega arith), same allele_field (omega arith), same qual_field (omega arith), same one_minus_qual_field (omega arith)) c.words_are;
  next_is = same next_field (omega arith) ∙ c.next_is;
}

module _ (w : List ℤ) (s : Sizes) (calls : List ℤ) (rs : List ℕ) where
  pub laid_length : (i : ℕ) → length (calls_laid w s calls rs i) ≡ length w
  unfolding calls_laid call_laid
  laid_length zero = refl
  laid_length (suc i) = put_length (calls_laid w s calls rs i) s _ _ _ ∙ laid_length i

  pub sized_laid : (i : ℕ) → Sized w s → Sized (calls_laid w s calls rs i) s
  sized_laid i z = sized_as w (calls_laid w s calls rs i) s (laid_length i) z

  -- one call more
  pub laid_more : (i : ℕ) → call_put (calls_laid w s calls rs i) s (get_or rs i 0) (arriving_at calls i) (get_or rs (suc i) 0) ≡ calls_laid w s calls rs (i + 1)
  unfolding calls_laid call_laid
  laid_more i = ap (λ (k : ℕ). calls_laid w s calls rs k) (sym (add-one i))

  -- a place in none of the first i records keeps its word
  pub laid_other : (i k : ℕ) → ((j field : ℕ) → j < i → field < call_words → k ≡ call_at s (get_or rs j 0) + field → ⊥) → word (calls_laid w s calls rs i) k ≡ word w k
  unfolding calls_laid call_laid
  laid_other zero k n = refl
  laid_other (suc i) k n =
      put_other (calls_laid w s calls rs i) s (get_or rs i 0) (arriving_at calls i) (get_or rs (suc i) 0) k (λ field l e. n i field (omega arith) l e)
      ∙ laid_other i k (λ j field l m e. n j field (omega arith) m e)

  -- such is what stands before the records
  pub laid_below : (i k : ℕ) → k < call_at s 1 → word (calls_laid w s calls rs i) k ≡ word w k
  laid_below i k h = laid_other i k (λ j field l m e. omega arith)

  module _ (apart : distinct rs ≡ true) (each_in : (j : ℕ) → j < length rs → (1 ≤ get_or rs j 0) × (get_or rs j 0 ≤ s.c)) where
    -- and the words of another record
    pub laid_record : (i r field : ℕ) → i ≤ length rs → 1 ≤ r → ((j : ℕ) → j < i → get_or rs j 0 ≡ r → ⊥) → field < call_words
        → call_word (calls_laid w s calls rs i) s r field ≡ call_word w s r field
    laid_record i r field top lo n h = laid_other i (call_at s r + field) (λ j t l m e. n j l (omega (arith, (each_in j (omega arith)).0)))

    pub laid_at : Sized w s → (i j : ℕ) → j < i → i ≤ length rs → CallAt (calls_laid w s calls rs i) s calls rs j
    unfolding calls_laid call_laid
    laid_at z zero j l top = absurd (omega arith)
    laid_at z (suc i) j l top =
        let before = calls_laid w s calls rs i in
        let r = get_or rs i 0 in
        let t = get_or rs (suc i) 0 in
        let lo = (each_in i (omega arith)).0 in
        let hi = (each_in i (omega arith)).1 in
        let inside : call_at s r + call_words ≤ length before = omega (arith, laid_length i, z.size) in
        elim (ℕ_discrete j i) [
          | yes e ↦ rw e (record { words_are = put_words before s r (arriving_at calls i) t inside; next_is = put_next before s r (arriving_at calls i) t inside })
          | no e ↦
              let low = (each_in j (omega arith)).0 in
              let other : get_or rs j 0 ≡ r → ⊥ = λ q. e (distinct_at rs apart j i (omega arith) (omega arith) q) in
              call_stays before (calls_laid w s calls rs (suc i)) s calls rs j
              (λ field h. put_other before s r (arriving_at calls i) t (call_at s (get_or rs j 0) + field) (λ q m y. other (omega arith)))
              (laid_at z i j (omega arith) (omega arith))
        ]
