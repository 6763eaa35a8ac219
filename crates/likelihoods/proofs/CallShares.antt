-- What a row's call adds to a likelihood, at a flagged variant and elsewhere. Assumes nothing.
use mathlib.Core.Path.{◌≡◌, refl, ap, ◌∙◌}
use mathlib.Core.Bool.{Bool, true, false, cond}
use mathlib.Core.List.{List}
use Prim.Native.Nat.{ℕ, zero, suc, ◌+◌, ◌*◌, ◌-◌, ◌/◌, ◌%◌, ◌≤◌, ◌<◌}
use native.Mathlib.Omega.{arith}
use native.Mathlib.Decide.{ℕ_discrete}
use native.Mathlib.Numerals.{add-one}
use borrow.Author.Tests.{eq-eqb, ne_eqb}
use lib.Dec.{eqb}
use lib.IntN.{ℤ, pos, nat_abs}
use lib.ListN.{length, get_or}
use Rattle.variants_and_fragments.specs.Case.{Call}
use Rattle.variants_and_fragments.proofs.Sums.{sum_map, sum_to_cong}
use Rattle.pileup.specs.Inner.Packed.{row_at, rows_at, group_start, group_words, GroupThere}
use Rattle.variants_and_fragments.specs.Sums.{sum_to}
use Rattle.sweeps.specs.Sweeps.{allele0, call_term, likelihood}
use Rattle.sweeps.proofs.Basics.{lik_cong}
use Rattle.likelihoods.specs.Inner.Likelihoods.{row_call, call_at, calls_between, calls_of, likelihood_at, flagged, allele_on, call_share, CallIn, CallsIn, EndsIn, LikelihoodsAre}
use Rattle.likelihoods.specs.declared.likelihoods.ReadLikelihoods.{ReadLikelihoods}
use Rattle.likelihoods.proofs.GroupRows.{part_length, part_row, part_rows}
use Rattle.likelihoods.proofs.RunningSums.{table_sum}
use Rattle.likelihoods.proofs.SweepCases.{likelihood_sum}

either_small : (n : ℕ) (t : Bool) (x y : ℤ) → nat_abs x ≤ n → nat_abs y ≤ n → nat_abs (cond t x y) ≤ n
either_small n true x y h k = h
either_small n false x y h k = k

-- a term is one of the call's qualities
pub term_small : (n : ℕ) (c : Call) (a : ℕ) → nat_abs c.qual ≤ n → nat_abs c.one_minus_qual ≤ n → nat_abs (call_term c a) ≤ n
unfolding call_term
term_small n c a h k = either_small n (eqb c.allele a) c.one_minus_qual c.qual k h

-- what a call adds: its term where its flag is 1, and else nothing
module _ (call : Call) (hap mask : List ℕ) (h : ℕ) where
  pub share_flagged : get_or mask call.variant 0 ≡ 1 → call_term call (allele_on hap h call.variant) ≡ call_share (flagged mask) (allele_on hap h) call
  unfolding flagged
  share_flagged e = rw (eq-eqb (get_or mask call.variant 0) 1 e)

  pub share_unflagged : (get_or mask call.variant 0 ≡ 1 → ⊥) → pos 0 ≡ call_share (flagged mask) (allele_on hap h) call
  unfolding flagged
  share_unflagged e = rw (ne_eqb (get_or mask call.variant 0) 1 e)

  -- the same from the call's parts, and how far from 0 that is
  pub share_counted : (q o y : ℤ) → CallIn call hap mask → get_or mask call.variant 0 ≡ 1 → q ≡ call.qual → o ≡ call.one_minus_qual → y ≡ call_term (record { variant = call.variant; allele = call.allele; qual = q; one_minus_qual = o }) (allele_on hap h call.variant)
      → (y ≡ call_share (flagged mask) (allele_on hap h) call) × (nat_abs y ≤ 262144)
  unfolding call_term
  share_counted q o y k e eq eo ey =
      let t : y ≡ cond (eqb call.allele (allele_on hap h call.variant)) call.one_minus_qual call.qual = rw (eq, eo) at ey in (
        t ∙ share_flagged e,
        rw t (either_small 262144 (eqb call.allele (allele_on hap h call.variant)) _ _ k.one_minus_qual_small k.qual_small),
      )

  pub share_left_out : (get_or mask call.variant 0 ≡ 1 → ⊥) → (pos 0 ≡ call_share (flagged mask) (allele_on hap h) call) × (0 ≤ 262144)
  share_left_out n = (share_unflagged n, omega arith)

-- a likelihood over the first n rows adds up what each adds
abbrev pub row_share : List ℕ → List ℕ → List ℕ → ℕ → ℕ → ℤ
row_share rows hap mask h j = call_share (flagged mask) (allele_on hap h) (call_at rows j)

pub rows_sum : (rows hap mask : List ℕ) (h n : ℕ) → likelihood (flagged mask) (allele_on hap h) (calls_between rows 0 n) ≡ sum_to n (row_share rows hap mask h)
unfolding calls_between
rows_sum rows hap mask h n =
    let none : n - 0 ≡ n = omega arith in
    likelihood_sum (flagged mask) (allele_on hap h) (calls_between rows 0 n)
    ∙ sum_map row_call (rows_at rows 0 n) (call_share (flagged mask) (allele_on hap h))
    ∙ table_sum (row_at rows) (λ row. call_share (flagged mask) (allele_on hap h) (row_call row)) 0 (n - 0)
    ∙ ap (λ (m : ℕ). sum_to m (λ j. row_share rows hap mask h (0 + j))) none
    ∙ sum_to_cong n (λ j. row_share rows hap mask h (0 + j)) (row_share rows hap mask h) (λ j l. let z : 0 + j ≡ j = omega arith in ap (row_share rows hap mask h) z)

-- haplotype 0 has the first alleles
pub on_first : (counts : ℕ → Bool) (hap : List ℕ) (cs : List Call) → likelihood counts (allele_on hap 0) cs ≡ likelihood counts (allele0 hap) cs
on_first counts hap cs = lik_cong counts counts (allele_on hap 0) (allele0 hap) cs (λ v t. refl) (λ v t u. ap (λ (i : ℕ). get_or hap i 0) (omega arith))

-- the likelihoods of fragment f stand at 2f and 2f + 1
module _ (rows ends hap mask : List ℕ) (f : ℕ) where
  pub likelihood_first : likelihood_at rows ends hap mask (2 * f) ≡ likelihood (flagged mask) (allele_on hap 0) (calls_between rows (group_start ends f) (get_or ends f 0))
  unfolding likelihood_at calls_of
  likelihood_first = let q : 2 * f / 2 ≡ f = omega arith in let r : 2 * f % 2 ≡ 0 = omega arith in rw (q, r)

  pub likelihood_second : likelihood_at rows ends hap mask (2 * f + 1) ≡ likelihood (flagged mask) (allele_on hap 1) (calls_between rows (group_start ends f) (get_or ends f 0))
  unfolding likelihood_at calls_of
  likelihood_second = let q : (2 * f + 1) / 2 ≡ f = omega arith in let r : (2 * f + 1) % 2 ≡ 1 = omega arith in rw (q, r)

-- the rows of a fragment start at the end of the one before
pub start_next : (ends : List ℕ) (f : ℕ) → group_start ends (f + 1) ≡ get_or ends f 0
unfolding group_start
start_next ends f = rw (add-one f)

-- each fragment's rows end before or where those of the last do
pub ends_within : (ends : List ℕ) (n : ℕ) → ((f : ℕ) → f < n → group_start ends f ≤ get_or ends f 0) → (f : ℕ) → f < n → get_or ends f 0 ≤ group_start ends n
unfolding group_start
ends_within ends zero rises f h = absurd (omega arith)
ends_within ends (suc n) rises f h = elim (ℕ_discrete f n) [
  | yes e ↦ rw e (omega arith)
  | no e ↦ omega (arith, ends_within ends n (λ g k. rises g (omega arith)) f (omega arith), rises n (omega arith))
]

-- what holds of the calls holds of fewer
pub calls_fewer : {rows : List ℕ} {n m : ℕ} {hap mask : List ℕ} → m ≤ n → CallsIn rows n hap mask → CallsIn rows m hap mask
calls_fewer h k = record {
  count_top = omega (arith, k.count_top);
  long = omega (arith, k.long);
  pair_there = λ i l. k.pair_there i (omega arith);
  flag_there = λ i l. k.flag_there i (omega arith);
  qual_small = λ i l. k.qual_small i (omega arith);
  one_minus_qual_small = λ i l. k.one_minus_qual_small i (omega arith);
}

-- row j of a read's
pub row_in : {rows hap mask : List ℕ} → CallsIn rows (length rows) hap mask → (j : ℕ) → j < length rows → CallIn (call_at rows j) hap mask
row_in k j l = record {
  pair_there = k.pair_there j l;
  flag_there = k.flag_there j l;
  qual_small = k.qual_small j l;
  one_minus_qual_small = k.one_minus_qual_small j l;
}

-- ---- the rows of read f
module _ {rows ends hap mask : List ℕ} {n : ℕ} (k : CallsIn rows (group_start ends n) hap mask) (o : EndsIn ends n) (f : ℕ) (h : f < n) where
  pub read_rises : group_start ends f ≤ get_or ends f 0
  read_rises = o.rises f h

  read_within : get_or ends f 0 ≤ group_start ends n
  read_within = ends_within ends n o.rises f h

  pub read_few : get_or ends f 0 ≤ 16384
  read_few = omega (arith, read_within, k.count_top)

  pub read_there : GroupThere ends rows f
  read_there = record { g_in = omega (arith, o.long); rises = read_rises; long = omega (arith, read_within, k.long) }

  abbrev part : List ℕ
  part = group_words ends rows f

  abbrev a : ℕ
  a = group_start ends f

  part_call : (j : ℕ) → j < length part → (a + j < a + (get_or ends f 0 - a)) × (call_at part j ≡ call_at rows (a + j))
  part_call j l =
      let m : j < get_or ends f 0 - a = omega (arith, part_length read_there) in
      (omega arith, ap row_call (part_row read_there j m))

  pub read_calls : CallsIn part (length part) hap mask
  read_calls =
      let top : a + (get_or ends f 0 - a) ≤ group_start ends n = omega (arith, read_within, read_rises) in
      record {
        count_top = omega (arith, part_length read_there, read_few);
        long = omega arith;
        pair_there = λ j l. let c = part_call j l in rw c.1 (k.pair_there (a + j) (omega (arith, c.0)));
        flag_there = λ j l. let c = part_call j l in rw c.1 (k.flag_there (a + j) (omega (arith, c.0)));
        qual_small = λ j l. let c = part_call j l in rw c.1 (k.qual_small (a + j) (omega (arith, c.0)));
        one_minus_qual_small = λ j l. let c = part_call j l in rw c.1 (k.one_minus_qual_small (a + j) (omega (arith, c.0)));
      }

  -- its likelihoods over them
  pub read_likelihoods_are : (r : ReadLikelihoods) → LikelihoodsAre part 0 (length part) hap mask r → LikelihoodsAre rows a (get_or ends f 0) hap mask r
  unfolding calls_between
  read_likelihoods_are r x =
      let same = part_rows read_there in
      record {
        first_is = rw same at x.first_is;
        second_is = rw same at x.second_is;
        first_small = omega (arith, x.first_small, part_length read_there);
        second_small = omega (arith, x.second_small, part_length read_there);
      }
