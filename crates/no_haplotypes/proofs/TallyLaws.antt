-- What one pass over a variant's calls adds up: one more row at a time, and how small it is.
-- Assumes nothing.
use Rattle.std.proofs.Common.{◌≡◌, false, List, [], ◌∷◌, ◌++◌, map, ℕ, zero, suc, ◌+◌, ◌-◌, ◌*◌, ◌^◌, ◌≤◌, ◌<◌, eqb, ℤ, pos, nat_abs, ◌+ℤ◌, length, get_or, set, take, replicate, refl, sym, ap, ◌∙◌, arith, eq-eqb, ne_eqb, length-set, length-take}
use Rattle.std.proofs.lemmas.List.{length-map, get_or-map, take-map, take_more, map-append, get_or-set_same, get_or-set_other}
use native.Mathlib.Decide.{ℕ_discrete}
use lib.IntN.{+ℤ_idr}
use lib.ListN.{get_or-replicate}
use Rattle.steps.proofs.AddExp.{add_size}
use Rattle.steps.proofs.Signed.{add_abs, minus_abs}
use Rattle.steps.specs.Logs.{mix_of}
use Rattle.variants_and_fragments.specs.declared.Sizes.{Sizes}
use Rattle.variants_and_fragments.specs.Case.{Call, direction}
use Rattle.variants_and_fragments.specs.Inner.Case.{All, end, also}
use Rattle.variants_and_fragments.specs.Decode.{tabulate_from}
use Rattle.variants_and_fragments.specs.Layout.{strand_at}
use Rattle.variants_and_fragments.specs.Pileup.{Row, only}
use Rattle.variants_and_fragments.specs.Sums.{sum_over}
use Rattle.variants_and_fragments.proofs.Alls.{at_all, all_imp}
use Rattle.variants_and_fragments.proofs.Bounds.{down_abs}
use Rattle.variants_and_fragments.proofs.Only.{only_none, only_in, only_out, only_length}
use Rattle.pileup.specs.Inner.Packed.{RowIn, RowsIn, unpacked, row_at, rows_at}
use Rattle.genotype_probs.specs.Priors.{ln_half}
use Rattle.genotype_probs.proofs.ListLaws.{sum_last, table_last}
use Rattle.genotype_probs.proofs.TableSizes.{by_cond}
use Rattle.no_haplotypes.specs.declared.tally.Gain.{Gain}
use Rattle.no_haplotypes.specs.declared.tally.Tally.{Tally}
use Rattle.no_haplotypes.specs.Inner.Piles.{CallsHeld}
use Rattle.no_haplotypes.specs.Inner.Tally.{row_qual, both_gain, one_gain, gain_at, shown_on, no_gain, gain_of, gain_with, count_of, counted, SumsIn, CallAdded, Tallied}
use Rattle.no_haplotypes.proofs.CountLaws.{only_count}

-- ---- the rows, one more at a time
pub rows_more : (words : List ℕ) (i : ℕ) → i < length words → map unpacked (take (i + 1) words) ≡ map unpacked (take i words) ++ (unpacked (get_or words i 0) ∷ [])
rows_more words i h = rw (take_more words i 0 h, map-append) refl

-- the same of the rows at a..c
pub rows_none : (words : List ℕ) (a : ℕ) → rows_at words a a ≡ []
unfolding tabulate_from
rows_none words a = let e : a - a ≡ 0 = omega arith in rw e

pub rows_at_more : (words : List ℕ) (a c : ℕ) → a ≤ c → rows_at words a (c + 1) ≡ rows_at words a c ++ (row_at words c ∷ [])
rows_at_more words a c h =
    let e : c + 1 - a ≡ suc (c - a) = omega arith in
    let d : a + (c - a) ≡ c = omega arith in
    rw (e, table_last (row_at words) a (c - a), d)

-- ---- one more row added
abbrev no_counts : List ℕ
no_counts = replicate 2 0

pub tallied_start : {w : List ℤ} {s : Sizes} {t : Tally} → t.total.0 ≡ pos 0 → t.gains ≡ replicate 3 no_gain → t.counts ≡ replicate 3 no_counts → Tallied w s [] t
unfolding sum_over
tallied_start {w} {s} {t} total gains counts = record {
  gains_long = rw gains;
  counts_long = rw counts;
  strands_long = λ x h. rw (counts, get_or-replicate 3 x no_counts [] h);
  total_is = total;
  both_are = λ x h. rw (gains, get_or-replicate 3 x no_gain no_gain h);
  one_are = λ x h. rw (gains, get_or-replicate 3 x no_gain no_gain h);
  counts_are = λ strand x l h. rw (counts, get_or-replicate 3 x no_counts [] h, only_none (shown_on w s strand x)) (get_or-replicate {A = ℕ} 2 strand 0 0 l);
}

module _ {w : List ℤ} {s : Sizes} {rows : List Row} {t : Tally} (made : Tallied w s rows t) (row : Row) (top : row.call.allele < 3) where
  abbrev gains : List Gain
  gains = t.gains

  abbrev counts : List (List ℕ)
  counts = t.counts

  abbrev x : ℕ
  x = row.call.allele

  abbrev gain : Gain
  gain = gain_with (gain_of t x) row.call

  -- what an allele has gained with it
  gain_same : get_or (set gains x gain) x no_gain ≡ gain
  gain_same = let l = made.gains_long in get_or-set_same gains x gain no_gain (omega arith)

  both_on : (y : ℕ) → y < 3 → (get_or (set gains x gain) y no_gain).both ≡ sum_over (rows ++ (row ∷ [])) (gain_at both_gain y)
  unfolding gain_at
  both_on y h = elim (ℕ_discrete x y) [
    | yes e ↦ rw (← e, gain_same, sum_last rows row (gain_at both_gain x), made.both_are x top, eq-eqb x x refl) refl
    | no n ↦ rw (get_or-set_other gains x y gain no_gain (λ e. n (sym e)), sum_last rows row (gain_at both_gain y), made.both_are y h, ne_eqb x y n, +ℤ_idr) refl
  ]

  one_on : (y : ℕ) → y < 3 → (get_or (set gains x gain) y no_gain).one ≡ sum_over (rows ++ (row ∷ [])) (gain_at one_gain y)
  unfolding gain_at
  one_on y h = elim (ℕ_discrete x y) [
    | yes e ↦ rw (← e, gain_same, sum_last rows row (gain_at one_gain x), made.one_are x top, eq-eqb x x refl) refl
    | no n ↦ rw (get_or-set_other gains x y gain no_gain (λ e. n (sym e)), sum_last rows row (gain_at one_gain y), made.one_are y h, ne_eqb x y n, +ℤ_idr) refl
  ]

  abbrev own : ℕ
  own = direction (strand_at w s row.fragment)

  -- the counts of its allele
  abbrev own_counts : List ℕ
  own_counts = set (get_or counts x []) own (count_of counts own x + 1)

  allele_same : get_or (counted counts own x) x [] ≡ own_counts
  allele_same = let l = made.counts_long in get_or-set_same counts x own_counts [] (omega arith)

  allele_long : (y : ℕ) → y < 3 → length (get_or (counted counts own x) y []) ≡ 2
  allele_long y h = elim (ℕ_discrete x y) [
    | yes e ↦ rw (← e, allele_same) (length-set (get_or counts x []) own _ ∙ made.strands_long x top)
    | no n ↦ rw (get_or-set_other counts x y own_counts [] (λ e. n (sym e))) (made.strands_long y h)
  ]

  not_shown : (strand y : ℕ) → (own ≡ strand → x ≡ y → ⊥) → shown_on w s strand y row ≡ false
  not_shown strand y n = elim (ℕ_discrete own strand) [
    | yes e ↦ rw (eq-eqb own strand e, ne_eqb x y (n e))
    | no e ↦ rw (ne_eqb own strand e)
  ]

  -- where it is not shown, its count stays
  count_stays : (strand y : ℕ) → strand < 2 → y < 3 → (own ≡ strand → x ≡ y → ⊥) → count_of counts strand y ≡ length (only (shown_on w s strand y) (rows ++ (row ∷ [])))
  count_stays strand y l h n =
      let p = shown_on w s strand y in
      rw (only_count p rows (row ∷ []), only_out p row [] (not_shown strand y n), only_none p) (omega (arith, made.counts_are strand y l h))

  counts_on : (strand y : ℕ) → strand < 2 → y < 3 → count_of (counted counts own x) strand y ≡ length (only (shown_on w s strand y) (rows ++ (row ∷ [])))
  counts_on strand y l h = elim (ℕ_discrete x y) [
    | yes f ↦ elim (ℕ_discrete own strand) [
      | yes e ↦
          let p = shown_on w s own x in
          let m = made.strands_long x top in
          rw (← e, ← f, allele_same, get_or-set_same (get_or counts x []) own (count_of counts own x + 1) 0 (omega arith), only_count p rows (row ∷ []), only_in p row [] (rw (eq-eqb own own refl, eq-eqb x x refl)), only_none p) (omega (arith, made.counts_are own x (omega arith) top))
      | no n ↦ rw (← f, allele_same, get_or-set_other (get_or counts x []) own strand (count_of counts own x + 1) 0 (λ e. n (sym e))) (count_stays strand x l top (λ e _. n e))
    ]
    | no n ↦ rw (get_or-set_other counts x y own_counts [] (λ e. n (sym e))) (count_stays strand y l h (λ _ f. n f))
  ]

  pub tallied_on : {after : Tally} → CallAdded w s row t after → Tallied w s (rows ++ (row ∷ [])) after
  tallied_on {after} a = record {
    gains_long = ap length a.gains_are ∙ length-set gains x gain ∙ made.gains_long;
    counts_long = ap length a.counts_are ∙ length-set counts x own_counts ∙ made.counts_long;
    strands_long = λ y h. ap (λ (m : List (List ℕ)). length (get_or m y [])) a.counts_are ∙ allele_long y h;
    total_is = a.total_is ∙ rw (sum_last rows row row_qual, made.total_is) refl;
    both_are = λ y h. ap (λ (l : List Gain). (get_or l y no_gain).both) a.gains_are ∙ both_on y h;
    one_are = λ y h. ap (λ (l : List Gain). (get_or l y no_gain).one) a.gains_are ∙ one_on y h;
    counts_are = λ strand y l h. ap (λ (m : List (List ℕ)). count_of m strand y) a.counts_are ∙ counts_on strand y l h;
  }

-- ---- how small it is
all_take : {X : Type 0} {P : X → Type 0} (n : ℕ) {xs : List X} → All P xs → All P (take n xs)
all_take zero ps = end
all_take (suc n) end = end
all_take (suc n) (also p ps) = also p (all_take n ps)

mixed_small : (q o : ℤ) → nat_abs q ≤ 262144 → nat_abs o ≤ 262144 → nat_abs (mix_of q o) ≤ 270336
unfolding mix_of
mixed_small q o h k =
    add_size (q +ℤ ln_half) (o +ℤ ln_half) 266240 (omega (arith, add_abs q ln_half)) (omega (arith, add_abs o ln_half))

module _ {n f : ℕ} {row : Row} (i : RowIn n f row) where
  pub qual_small : nat_abs row.call.qual ≤ 262144
  qual_small = down_abs 262144 row.call.qual i.qual_in

  pub other_small : nat_abs row.call.one_minus_qual ≤ 262144
  other_small = down_abs 262144 row.call.one_minus_qual i.one_minus_qual_in

  pub both_small : nat_abs (both_gain row.call) ≤ 1048576
  both_small = omega (arith, minus_abs row.call.one_minus_qual row.call.qual, qual_small, other_small)

  pub one_small : nat_abs (one_gain row.call) ≤ 1048576
  one_small = omega (arith, minus_abs (mix_of row.call.qual row.call.one_minus_qual) row.call.qual, qual_small, mixed_small row.call.qual row.call.one_minus_qual qual_small other_small)

sum_small : (g : Row → ℤ) {rows : List Row} → All (λ row. nat_abs (g row) ≤ 1048576) rows → nat_abs (sum_over rows g) ≤ 1048576 * length rows
unfolding sum_over
sum_small g end = omega arith
sum_small g (also {x = row} {xs = rows} h hs) = omega (arith, add_abs (g row) (sum_over rows g), h, sum_small g hs)

-- of few rows, each in its ranges
module _ {w : List ℤ} {s : Sizes} {n f : ℕ} {rows : List Row} {t : Tally} (made : Tallied w s rows t) (few : length rows ≤ 16384) (rows_in : All (RowIn n f) rows) where
  sum_few : (g : Row → ℤ) → ((row : Row) → RowIn n f row → nat_abs (g row) ≤ 1048576) → nat_abs (sum_over rows g) ≤ 2 ^ 34
  sum_few g h = omega (arith, few, sum_small g (all_imp h rows_in))

  gain_few : (gain : Call → ℤ) → ((row : Row) → RowIn n f row → nat_abs (gain row.call) ≤ 1048576) → (x : ℕ) → nat_abs (sum_over rows (gain_at gain x)) ≤ 2 ^ 34
  unfolding gain_at
  gain_few gain h x = sum_few (gain_at gain x) (λ row i. by_cond (eqb row.call.allele x) (gain row.call) (λ _. h row i))

  pub sums_in : SumsIn t
  sums_in = record {
    total_small = omega (arith, ap nat_abs made.total_is, sum_few row_qual (λ row i. omega (arith, qual_small i)));
    both_small = λ x h. omega (arith, ap nat_abs (made.both_are x h), gain_few both_gain (λ row i. both_small i) x);
    one_small = λ x h. omega (arith, ap nat_abs (made.one_are x h), gain_few one_gain (λ row i. one_small i) x);
    counts_few = λ strand x l h. omega (arith, made.counts_are strand x l h, only_length (shown_on w s strand x) rows, few);
  }

-- so of all rows of words, and of the first i
pub all_in : {n f : ℕ} {words : List ℕ} → RowsIn n f words 0 (length words) → All (RowIn n f) (map unpacked words)
all_in {n} {f} {words} r =
    at_all (map unpacked words) (unpacked 0)
    (λ i h. let l : i < length words = rw length-map at h in rw (get_or-map unpacked words i 0 (unpacked 0) l) (r.rows_in i (omega arith) l))

module _ {w : List ℤ} {s : Sizes} {n f : ℕ} {words : List ℕ} {t : Tally} (r : RowsIn n f words 0 (length words)) where
  pub sums_to : (i : ℕ) → Tallied w s (map unpacked (take i words)) t → SumsIn t
  sums_to i made =
      let rows_in : All (RowIn n f) (map unpacked (take i words)) = rw (← take-map unpacked i words) (all_take i (all_in r)) in
      sums_in made (omega (arith, length-map (take i words) unpacked, length-take i words, r.few)) rows_in

  pub sums_all : Tallied w s (map unpacked words) t → SumsIn t
  sums_all made = sums_in made (omega (arith, length-map words unpacked, r.few)) (all_in r)

-- as the calls of a variant are
pub rows_held : {w : List ℤ} {s : Sizes} {v : ℕ} {words : List ℕ} {ambiguous : ℕ} → CallsHeld w s v words ambiguous → RowsIn s.n s.f words 0 (length words)
rows_held held = record { few = held.few; long = omega arith; rows_in = λ i _ h. held.rows_in i h }
