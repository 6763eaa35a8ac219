-- Sums per allele: adding a call's four numbers is one step of the sums, and after the last call they are the sums over the pile. Assumes nothing.
use mathlib.Core.Path.{◌≡◌, refl, sym, ap, ◌∙◌}
use mathlib.Core.Bool.{Bool, true, false, cond}
use mathlib.Core.List.{List}
use Prim.Native.Nat.{ℕ, zero, suc, ◌+◌, ◌-◌, ◌*◌, ◌^◌, ◌<◌, ◌≤◌}
use native.Mathlib.Omega.{arith}
use native.Mathlib.Decide.{ℕ_discrete}
use lib.Dec.{eqb}
use lib.ListN.{length, set, replicate, length-set}
use lib.Seq.{get_or-set_same, get_or-set_other}
use lib.IntN.{ℤ, pos, nat_abs, ◌+ℤ◌, +ℤ_idl, +ℤ_idr, +ℤ_assoc}
use borrow.Author.Tests.{eq-eqb, ne_eqb}
use Rattle.steps.proofs.Signed.{add_abs}
use Rattle.variants_and_fragments.specs.Decode.{tabulate_from}
use Rattle.variants_and_fragments.specs.Pileup.{Row}
use Rattle.variants_and_fragments.specs.Sums.{sum_over}
use Rattle.variants_and_fragments.proofs.Tabulated.{table_more, table_end}
use Rattle.sweeps.specs.Inner.Incremental.{allele_sum}
use Rattle.sweeps.proofs.Fours.{allele_sum_on}
use Rattle.call_genotypes.specs.declared.score.Mixes.{Mixes}
use Rattle.call_genotypes.specs.Inner.Scores.{value_of, no_mixes, sums_at, SumsWithin, AlleleSums}
use Rattle.call_genotypes.proofs.Tables.{replicate_at}

none_value : (w : ℕ) → value_of no_mixes w ≡ pos 0
unfolding value_of
none_value zero = refl
none_value (suc zero) = refl
none_value (suc (suc zero)) = refl
none_value (suc (suc (suc w))) = refl

pub none_is : (m : Mixes) → m.first ≡ pos 0 → m.second ≡ pos 0 → m.gap ≡ pos 0 → m.neither ≡ pos 0 → m ≡ no_mixes
none_is m e f g h =
    let all : record { first = m.first; second = m.second; gap = m.gap; neither = m.neither } ≡ no_mixes = rw (e, f, g, h) in
    all

-- `value` is added to the sums of x
module _ (of : List Mixes) (x : ℕ) (m : Mixes) (value : ℕ → ℤ) (is : (w : ℕ) → value_of m w ≡ sums_at of x w +ℤ value w) (low : x < length of) where
  pub added_at : (y w : ℕ) → sums_at (set of x m) y w ≡ sums_at of y w +ℤ cond (eqb x y) (value w) (pos 0)
  added_at y w = elim (ℕ_discrete x y) [
    | yes e ↦ rw (eq-eqb x y e, ← e) (ap (λ (r : Mixes). value_of r w) (get_or-set_same of x m no_mixes low) ∙ is w)
    | no e ↦ rw (ne_eqb x y e, +ℤ_idr) (ap (λ (r : Mixes). value_of r w) (get_or-set_other of x y m no_mixes (λ (q : y ≡ x). e (sym q))))
  ]

  pub added_small : (n k : ℕ) → SumsWithin n of → ((w : ℕ) → nat_abs (value w) ≤ k) → SumsWithin (n + k) (set of x m)
  added_small n k s v y w = rw (added_at y w) (go (eqb x y))
    where
      go : (t : Bool) → nat_abs (sums_at of y w +ℤ cond t (value w) (pos 0)) ≤ n + k
      go true = omega (arith, add_abs (sums_at of y w) (value w), s y w, v w)
      go false = omega (arith, add_abs (sums_at of y w) (pos 0), s y w)

-- ---- the sums under way: the rows before p are in them
pub record Summing (value : Row → ℕ → ℤ) (row : ℕ → Row) (a e p : ℕ) (of : List Mixes) : Type 0 where
  pub from : a ≤ p
  pub few : p ≤ a + 16384
  pub long : length of ≡ 3
  pub small : SumsWithin ((p - a) * 2 ^ 35) of
  pub left : (x w : ℕ) → sums_at of x w +ℤ allele_sum value (tabulate_from row p (e - p)) x w ≡ allele_sum value (tabulate_from row a (e - a)) x w

module _ (value : Row → ℕ → ℤ) (row : ℕ → Row) (a e : ℕ) where
  pub summing_start : (of : List Mixes) → of ≡ replicate 3 no_mixes → Summing value row a e a of
  summing_start of q = record {
    from = omega arith;
    few = omega arith;
    long = rw q;
    small = λ x w. rw (q, replicate_at no_mixes 3 x, none_value w) (omega arith);
    left = λ x w. rw (q, replicate_at no_mixes 3 x, none_value w, +ℤ_idl);
  }

  pub summing_step : (p : ℕ) (of of' : List Mixes) (m : Mixes) (val : ℕ → ℤ) (x : ℕ) → Summing value row a e p of → p < e → e ≤ a + 16384 → x ≡ (row p).call.allele → x < 3
      → ((w : ℕ) → val w ≡ value (row p) w) → ((w : ℕ) → nat_abs (val w) ≤ 2 ^ 35) → ((w : ℕ) → value_of m w ≡ sums_at of x w +ℤ val w) → of' ≡ set of x m → Summing value row a e (p + 1) of'
  summing_step p of of' m val x s l f ex low ev size is q = record {
    from = omega arith;
    few = omega arith;
    long = rw q (length-set of x m ∙ s.long);
    small = λ y w. rw q (let k = added_small of x m val is (omega (arith, s.long)) ((p - a) * 2 ^ 35) (2 ^ 35) s.small size y w in omega arith);
    left = left_on;
  }
    where
      left_on : (y w : ℕ) → sums_at of' y w +ℤ allele_sum value (tabulate_from row (p + 1) (e - (p + 1))) y w ≡ allele_sum value (tabulate_from row a (e - a)) y w
      left_on y w =
          let b = s.left y w in
          let n = table_more row e p l in
          let o = allele_sum_on value (row p) (tabulate_from row (p + 1) (e - (p + 1))) y w in
          let d = added_at of x m val is (omega (arith, s.long)) y w in
          let z = +ℤ_assoc (sums_at of y w) (cond (eqb x y) (val w) (pos 0)) (allele_sum value (tabulate_from row (p + 1) (e - (p + 1))) y w) in
          cc (ev w)

  pub summing_end : (p : ℕ) (of : List Mixes) → Summing value row a e p of → e ≤ p → AlleleSums value (tabulate_from row a (e - a)) of
  unfolding allele_sum sum_over
  summing_end p of s h = record {
    sums = λ x w k l. let b = s.left x w in sym (+ℤ_idr _) ∙ (rw (table_end row e p h) at b);
    small = λ x w. let k = s.small x w in omega (arith, s.few);
  }
