-- The calls that a line shows: the first of its rows, where its variant meets the phased rule, and those of the rows after it.
-- Assumes nothing.
use mathlib.Core.Path.{◌≡◌, refl, sym, ap, ◌∙◌}
use mathlib.Core.Bool.{Bool, true, false, cond}
use mathlib.Core.List.{List, [], ◌∷◌, map}
use Prim.Native.Nat.{ℕ, zero, suc, ◌+◌, ◌-◌, ◌≤◌, ◌<◌}
use native.Mathlib.Omega.{arith}
use native.Mathlib.Decide.{dec_le}
use lib.IntN.{ℤ}
use lib.ListN.{length, get_or, take, drop, length-map}
use Rattle.std.proofs.Common.{length-take, min}
use Rattle.std.proofs.lemmas.Bool.Decides.{nat_tests}
use lib.Seq.{drop-cons}
use Rattle.variants_and_fragments.specs.declared.Sizes.{Sizes}
use Rattle.variants_and_fragments.specs.Decode.{tabulate_from}
use Rattle.variants_and_fragments.specs.Inner.Case.{All, end, also}
use Rattle.variants_and_fragments.specs.Pileup.{Row}
use Rattle.variants_and_fragments.proofs.Alls.{all_from}
use Rattle.pileup.specs.declared.row.Row.{Row as RowHeld}
use Rattle.pileup.specs.Inner.Packed.{held_row, RowIn, RowsIn, unpacked, row_at, rows_at, group_start}
use Rattle.haplotype_assembly.specs.Inner.PhaseRead.{rule_at}
use Rattle.haplotype_assembly.specs.Inner.LinesRead.{shown_calls, shown_at, LinesGiven, call_of, ShownIn}
use Rattle.haplotype_assembly.proofs.Cited.{table_end}

-- what is known of a row's call
pub row_shown : {n f : ℕ} → n ≤ 1024 → {row : Row} → RowIn n f row → ShownIn row.call
row_shown h i = record { variant_top = omega (arith, i.variant_in); allele_in = i.allele_in; qual_in = i.qual_in }

module _ (w : List ℤ) where
  pub shown_on : (row : Row) (rows : List Row) → rule_at w row.call.variant ≡ true → shown_calls w (row ∷ rows) ≡ row.call ∷ shown_calls w rows
  unfolding shown_calls
  shown_on row rows e = rw e

  pub shown_skip : (row : Row) (rows : List Row) → rule_at w row.call.variant ≡ false → shown_calls w (row ∷ rows) ≡ shown_calls w rows
  unfolding shown_calls
  shown_skip row rows e = rw e

  -- what is known of them, and how many they are
  pub shown_in : {n f : ℕ} → n ≤ 1024 → (rows : List Row) → All (RowIn n f) rows → All ShownIn (shown_calls w rows)
  unfolding shown_calls
  shown_in h [] end = end
  shown_in h (row ∷ rows) (also i is) = go (rule_at w row.call.variant) (shown_in h rows is)
    where
      go : (b : Bool) → All ShownIn (shown_calls w rows) → All ShownIn (cond b (row.call ∷ shown_calls w rows) (shown_calls w rows))
      go true rest = also (row_shown h i) rest
      go false rest = rest

  pub shown_few : (rows : List Row) → length (shown_calls w rows) ≤ length rows
  unfolding shown_calls
  shown_few [] = omega arith
  shown_few (row ∷ rows) = go (rule_at w row.call.variant) (shown_few rows)
    where
      go : (b : Bool) → length (shown_calls w rows) ≤ length rows → length (cond b (row.call ∷ shown_calls w rows) (shown_calls w rows)) ≤ suc (length rows)
      go true h = omega arith
      go false h = omega arith

-- the first of them, and the others
pub all_first : {X : Type 0} {P : X → Type 0} {xs : List X} {x : X} {rest : List X} → xs ≡ x ∷ rest → All P xs → P x × All P rest
all_first {P = P} {x = x} {rest = rest} e all = go (rw e at all)
  where
    go : All P (x ∷ rest) → P x × All P rest
    go (also p ps) = (p, ps)

-- off words, the first of them being `word`
module _ (w : List ℤ) {words : List ℕ} {word : ℕ} {rest : List ℕ} (e : words ≡ word ∷ rest) where
  pub first_in : {P : Row → Type 0} → All P (map unpacked words) → P (unpacked word) × All P (map unpacked rest)
  first_in {P} all = all_first {P = P} (ap (map unpacked) e) all

  module _ (row : RowHeld) (read : row ≡ held_row (unpacked word)) (rule : Bool) (is : rule ≡ rule_at w row.variant) where
    rule_here : rule_at w (unpacked word).call.variant ≡ rule
    rule_here = ap (λ (x : RowHeld). rule_at w x.variant) (sym read) ∙ sym is

    pub next_on : rule ≡ true → shown_calls w (map unpacked words) ≡ call_of row ∷ shown_calls w (map unpacked rest)
    next_on t = ap (λ (x : List ℕ). shown_calls w (map unpacked x)) e ∙ shown_on w _ _ (rule_here ∙ t) ∙ ap (λ (x : RowHeld). call_of x ∷ shown_calls w (map unpacked rest)) (sym read)

    pub next_skip : rule ≡ false → shown_calls w (map unpacked words) ≡ shown_calls w (map unpacked rest)
    next_skip t = ap (λ (x : List ℕ). shown_calls w (map unpacked x)) e ∙ shown_skip w _ _ (rule_here ∙ t)

pub shown_end : (w : List ℤ) (rows : List ℕ) (p e : ℕ) → e ≤ p → shown_at w rows p e ≡ []
unfolding shown_calls
shown_end w rows p e h = ap (shown_calls w) (table_end (row_at rows) e p h)

pub next_none : (w : List ℤ) (words : List ℕ) → length words ≡ 0 → shown_calls w (map unpacked words) ≡ []
unfolding shown_calls
next_none w [] e = refl
next_none w (word ∷ words) e = absurd (omega arith)

-- rows read at a.. are those of the words that stand there
pub rows_slice : (words : List ℕ) (n a : ℕ) → a + n ≤ length words → tabulate_from (row_at words) a n ≡ map unpacked (take n (drop a words))
unfolding tabulate_from
rows_slice words zero a h = refl
rows_slice words (suc n) a h = let l : a < length words = omega arith in rw (drop-cons words a 0 l) (ap (λ (t : List Row). row_at words a ∷ t) (rows_slice words n (suc a) (omega arith)))

-- what rows at a..e show, off the words that stand there: none where they would end before they start
module _ {n f a e : ℕ} {rows : List ℕ} (i : RowsIn n f rows a e) where
  abbrev pub row_words : List ℕ
  row_words = take (e - min a e) (drop (min a e) rows)

  words_are : rows_at rows a e ≡ map unpacked row_words
  unfolding tabulate_from
  words_are = elim (dec_le a e) [
    | yes l ↦ let m : min a e ≡ a = grind (arith, nat_tests) in rw (m) (rows_slice rows (e - a) a (omega (arith, i.long)))
    | no l ↦
        let m : min a e ≡ e = grind (arith, nat_tests) in
        let z : e - a ≡ 0 = omega arith in
        let y : e - e ≡ 0 = omega arith in rw (m, z, y) refl
  ]

  pub row_words_in : All (RowIn n f) (map unpacked row_words)
  row_words_in = rw words_are at (all_from {P = RowIn n f} (row_at rows) a (e - a) (λ k l m. i.rows_in k l (omega arith)))

  pub row_words_shown : (w : List ℤ) → shown_calls w (map unpacked row_words) ≡ shown_at w rows a e
  row_words_shown w = ap (shown_calls w) (sym words_are)

  pub row_words_few : length (map unpacked row_words) ≤ 16384
  row_words_few = simp (length-map, length-take) (omega (arith, i.few))

-- of a fragment
module _ {s : Sizes} {rows ends : List ℕ} (g : LinesGiven s rows ends) (f : ℕ) (h : f < s.f) where
  abbrev pub a : ℕ
  a = group_start ends f

  abbrev pub e : ℕ
  e = get_or ends f 0

  abbrev pub words : List ℕ
  words = row_words (g.rows_in f h)

  pub rows_all : All (RowIn s.n s.f) (map unpacked words)
  rows_all = row_words_in (g.rows_in f h)

  pub shown_words : (w : List ℤ) → shown_calls w (map unpacked words) ≡ shown_at w rows a e
  shown_words = row_words_shown (g.rows_in f h)

  pub words_few : length (map unpacked words) ≤ 16384
  words_few = row_words_few (g.rows_in f h)
