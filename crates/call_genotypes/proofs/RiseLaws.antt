-- A call's four values are "neither" plus what its four numbers say that a score rises. Assumes nothing.
use mathlib.Core.Path.{◌≡◌, refl, sym, ap, ◌∙◌}
use mathlib.Core.Bool.{Bool, true, false, cond}
use mathlib.Core.List.{List}
use Prim.Native.Nat.{ℕ, zero, suc, ◌+◌, ◌*◌, ◌<◌}
use native.Mathlib.Omega.{arith}
use lib.Dec.{eqb}
use lib.ListN.{get_or}
use lib.IntN.{ℤ, pos, ◌+ℤ◌, ◌-ℤ◌, ◌*ℤ◌, zero-*ℤ}
use Rattle.steps.proofs.Signed.{zlin, up_pos, dn_pos, parts_add, parts_minus}
use Rattle.variants_and_fragments.specs.Case.{Call}
use Rattle.variants_and_fragments.specs.Pileup.{Row}
use Rattle.sweeps.specs.Sweeps.{call_term}
use Rattle.steps.specs.Logs.{mix_of}
use Rattle.sweeps.specs.Inner.Incremental.{without, four_value}
use Rattle.call_genotypes.specs.Inner.Scores.{one_plus, mix_value, row_gap, row_mixes, rise_of, turn}
use Rattle.likelihoods.proofs.TotalParts.{mixed_from}
use Rattle.call_genotypes.proofs.Turns.{times_one, times_minus}

-- a row's value w of the four, where v is at (g0, g1) and lik has the likelihoods that stand
unfoldable pub row_four : Bool → ℕ → ℕ → List ℤ → Row → ℕ → ℤ
row_four phased g0 g1 lik row w =
    four_value mix_of (without phased (get_or lik (2 * row.fragment) (pos 0)) row.call g0) (without phased (get_or lik (2 * row.fragment + 1) (pos 0)) row.call g1) row.call w

module _ (b0 b1 q o : ℤ) where
  abbrev low : ℤ
  low = (b1 +ℤ q) -ℤ pos 4096

  abbrev far : ℤ
  far = b0 -ℤ b1

  abbrev rise : ℤ
  rise = o -ℤ q

  neither_is : mix_of (b0 +ℤ q) (b1 +ℤ q) ≡ low +ℤ one_plus far
  neither_is = mixed_from (b0 +ℤ q) (b1 +ℤ q) low far (omega (zlin, parts_add b0 q, parts_minus (b0 +ℤ q) (pos 4096), parts_add b1 q, parts_minus (b1 +ℤ q) (pos 4096), parts_minus b0 b1, parts_add low far)) refl

  first_is : mix_of (b0 +ℤ o) (b1 +ℤ q) ≡ low +ℤ one_plus (far +ℤ rise)
  first_is = mixed_from (b0 +ℤ o) (b1 +ℤ q) low (far +ℤ rise) (omega (zlin, parts_add b0 o, parts_minus (b0 +ℤ o) (pos 4096), parts_add b1 q, parts_minus (b1 +ℤ q) (pos 4096), parts_minus b0 b1, parts_minus o q, parts_add far rise, parts_add low (far +ℤ rise))) refl

  hit : (b1 +ℤ o) -ℤ pos 4096 ≡ low +ℤ rise
  hit = omega (zlin, parts_add b1 o, parts_minus (b1 +ℤ o) (pos 4096), parts_add b1 q, parts_minus (b1 +ℤ q) (pos 4096), parts_minus o q, parts_add low rise)

  second_is : mix_of (b0 +ℤ q) (b1 +ℤ o) ≡ (low +ℤ rise) +ℤ one_plus (far -ℤ rise)
  second_is = mixed_from (b0 +ℤ q) (b1 +ℤ o) (low +ℤ rise) (far -ℤ rise) (omega (zlin, parts_add b0 q, parts_minus (b0 +ℤ q) (pos 4096), parts_add b1 q, parts_minus (b1 +ℤ q) (pos 4096), parts_minus b0 b1, parts_minus o q, parts_minus far rise, parts_add low rise, parts_add (low +ℤ rise) (far -ℤ rise))) hit

  both_is : mix_of (b0 +ℤ o) (b1 +ℤ o) ≡ (low +ℤ rise) +ℤ one_plus far
  both_is = mixed_from (b0 +ℤ o) (b1 +ℤ o) (low +ℤ rise) far (omega (zlin, parts_add b0 o, parts_minus (b0 +ℤ o) (pos 4096), parts_add b1 q, parts_minus (b1 +ℤ q) (pos 4096), parts_minus b0 b1, parts_minus o q, parts_add low rise, parts_add (low +ℤ rise) far)) hit

up_one : (z m n : ℤ) → z +ℤ m ≡ (z +ℤ n) +ℤ (m -ℤ n)
up_one z m n = omega (zlin, parts_add z m, parts_add z n, parts_minus m n, parts_add (z +ℤ n) (m -ℤ n))

up_two : (z m n g : ℤ) → (z +ℤ g) +ℤ m ≡ (z +ℤ n) +ℤ ((m -ℤ n) +ℤ g)
up_two z m n g = omega (zlin, parts_add z g, parts_add (z +ℤ g) m, parts_add z n, parts_minus m n, parts_add (m -ℤ n) g, parts_add (z +ℤ n) ((m -ℤ n) +ℤ g))

up_three : (z n g : ℤ) → (z +ℤ g) +ℤ n ≡ (z +ℤ n) +ℤ g
up_three z n g = omega (zlin, parts_add z g, parts_add (z +ℤ g) n, parts_add z n, parts_add (z +ℤ n) g)

-- a value is "neither" plus a rise
rise_is : (b0 b1 : ℤ) (c : Call) (w : ℕ) → w < 3 → four_value mix_of b0 b1 c (suc w) ≡ four_value mix_of b0 b1 c 0 +ℤ rise_of (mix_value (b0 -ℤ b1) (c.one_minus_qual -ℤ c.qual)) w
unfolding four_value rise_of mix_value
rise_is b0 b1 c zero l = let q = c.qual in let o = c.one_minus_qual in
    first_is b0 b1 q o ∙ up_one (low b0 b1 q o) (one_plus (far b0 b1 q o +ℤ rise b0 b1 q o)) (one_plus (far b0 b1 q o))
    ∙ ap (λ (z : ℤ). z +ℤ (one_plus (far b0 b1 q o +ℤ rise b0 b1 q o) -ℤ one_plus (far b0 b1 q o))) (sym (neither_is b0 b1 q o))
rise_is b0 b1 c (suc zero) l = let q = c.qual in let o = c.one_minus_qual in
    second_is b0 b1 q o ∙ up_two (low b0 b1 q o) (one_plus (far b0 b1 q o -ℤ rise b0 b1 q o)) (one_plus (far b0 b1 q o)) (rise b0 b1 q o)
    ∙ ap (λ (z : ℤ). z +ℤ ((one_plus (far b0 b1 q o -ℤ rise b0 b1 q o) -ℤ one_plus (far b0 b1 q o)) +ℤ rise b0 b1 q o)) (sym (neither_is b0 b1 q o))
rise_is b0 b1 c (suc (suc zero)) l = let q = c.qual in let o = c.one_minus_qual in
    both_is b0 b1 q o ∙ up_three (low b0 b1 q o) (one_plus (far b0 b1 q o)) (rise b0 b1 q o)
    ∙ ap (λ (z : ℤ). z +ℤ rise b0 b1 q o) (sym (neither_is b0 b1 q o))
rise_is b0 b1 c (suc (suc (suc w))) l = absurd (omega arith)

-- the likelihoods' distance without the call's own terms
far_is : (phased h0 h1 : Bool) (l0 l1 q o : ℤ) → (l0 -ℤ cond phased (cond h0 o q) (pos 0)) -ℤ (l1 -ℤ cond phased (cond h1 o q) (pos 0))
    ≡ (l0 -ℤ l1) +ℤ (cond phased (cond h1 (pos 1) (pos 0) -ℤ cond h0 (pos 1) (pos 0)) (pos 0) *ℤ (o -ℤ q))
far_is true true true l0 l1 q o = rw (zero-*ℤ (o -ℤ q)) (omega (zlin, parts_minus l0 o, parts_minus l1 o, parts_minus (l0 -ℤ o) (l1 -ℤ o), parts_minus l0 l1, parts_add (l0 -ℤ l1) (pos 0), up_pos 0, dn_pos 0))
far_is true true false l0 l1 q o = rw (times_minus (o -ℤ q)) (omega (zlin, parts_minus l0 o, parts_minus l1 q, parts_minus (l0 -ℤ o) (l1 -ℤ q), parts_minus l0 l1, parts_minus o q, parts_minus (l0 -ℤ l1) (o -ℤ q)))
far_is true false true l0 l1 q o = rw (times_one (o -ℤ q)) (omega (zlin, parts_minus l0 q, parts_minus l1 o, parts_minus (l0 -ℤ q) (l1 -ℤ o), parts_minus l0 l1, parts_minus o q, parts_add (l0 -ℤ l1) (o -ℤ q)))
far_is true false false l0 l1 q o = rw (zero-*ℤ (o -ℤ q)) (omega (zlin, parts_minus l0 q, parts_minus l1 q, parts_minus (l0 -ℤ q) (l1 -ℤ q), parts_minus l0 l1, parts_add (l0 -ℤ l1) (pos 0), up_pos 0, dn_pos 0))
far_is false h0 h1 l0 l1 q o = rw (zero-*ℤ (o -ℤ q)) (omega (zlin, parts_minus l0 (pos 0), parts_minus l1 (pos 0), parts_minus (l0 -ℤ pos 0) (l1 -ℤ pos 0), parts_minus l0 l1, parts_add (l0 -ℤ l1) (pos 0), up_pos 0, dn_pos 0))

-- a rise reads four numbers
rise_cong : (m n : ℕ → ℤ) (w : ℕ) → ((u : ℕ) → m u ≡ n u) → rise_of m w ≡ rise_of n w
unfolding rise_of
rise_cong m n zero e = cc (e 0, e 3)
rise_cong m n (suc zero) e = cc (e 1, e 2, e 3)
rise_cong m n (suc (suc w)) e = e 2

module _ (phased : Bool) (g0 g1 : ℕ) (turns lik : List ℤ) (turns-are : (x : ℕ) → get_or turns x (pos 0) ≡ turn phased g0 g1 x) where
  abbrev first_lik : Row → ℤ
  first_lik row = get_or lik (2 * row.fragment) (pos 0)

  abbrev second_lik : Row → ℤ
  second_lik row = get_or lik (2 * row.fragment + 1) (pos 0)

  abbrev without0 : Row → ℤ
  without0 row = without phased (first_lik row) row.call g0

  abbrev without1 : Row → ℤ
  without1 row = without phased (second_lik row) row.call g1

  distance_is : (row : Row) → (first_lik row -ℤ second_lik row) +ℤ (get_or turns row.call.allele (pos 0) *ℤ row_gap row) ≡ without0 row -ℤ without1 row
  unfolding call_term turn
  distance_is row =
      ap (λ (z : ℤ). (first_lik row -ℤ second_lik row) +ℤ (z *ℤ row_gap row)) (turns-are row.call.allele)
      ∙ sym (far_is phased (eqb row.call.allele g0) (eqb row.call.allele g1) (first_lik row) (second_lik row) row.call.qual row.call.one_minus_qual)

  mixes_are : (row : Row) (w : ℕ) → row_mixes turns lik row w ≡ mix_value (without0 row -ℤ without1 row) (row_gap row) w
  unfolding row_mixes
  mixes_are row w = ap (λ (d : ℤ). mix_value d (row_gap row) w) (distance_is row)

  -- a row's value of the four
  pub value_is : (row : Row) (w : ℕ) → w < 3 → row_four phased g0 g1 lik row (suc w) ≡ row_four phased g0 g1 lik row 0 +ℤ rise_of (row_mixes turns lik row) w
  unfolding row_four
  value_is row w l =
      rise_is (without0 row) (without1 row) row.call w l
      ∙ ap (λ (z : ℤ). four_value mix_of (without0 row) (without1 row) row.call 0 +ℤ z) (sym (rise_cong (row_mixes turns lik row) (mix_value (without0 row -ℤ without1 row) (row_gap row)) w (mixes_are row)))
