-- A read's likelihood adds up what each of its calls adds: nothing where a call is not usable or its variant not phased, else one of its
-- qualities. Each call of an arriving read adds a number in −262144..0, and there are 16,384 of them at most, so a likelihood of the read lies in
-- −2^32..0. Assumes nothing.
use mathlib.Core.Path.{◌≡◌, refl, sym, ap, ◌∙◌}
use mathlib.Core.Bool.{Bool, true, false, cond, ◌&&◌}
use mathlib.Core.List.{List, [], ◌∷◌}
use Prim.Native.Nat.{ℕ, zero, suc, ◌+◌, ◌*◌, ◌^◌, ◌≤◌, ◌<◌}
use native.Mathlib.Nat.{zero-add}
use native.Mathlib.Omega.{arith}
use native.Mathlib.Decide.{dec_lt}
use lib.IntN.{ℤ, pos, nat_abs, ◌+ℤ◌, +ℤ_idl}
use mir.Syntax.{w32, w64}
use mir.Val.{SFits, to_z, of_z}
use Rattle.steps.proofs.Signed.{plus_fits, read_wide}
use borrow.Author.Tests.{eq-eqb, ne_eqb}
use lib.Dec.{eqb}
use lib.ListN.{get_or}
use Rattle.variants_and_fragments.specs.declared.Sizes.{Sizes}
use Rattle.variants_and_fragments.specs.Case.{Fragment, Call, usable}
use Rattle.variants_and_fragments.specs.Layout.{lowest_quality, variant_field, allele_field, qual_field, one_minus_qual_field, allele_count_at}
use Rattle.variants_and_fragments.specs.Pileup.{only, usable_calls}
use Rattle.variants_and_fragments.specs.Sums.{sum_over, sum_to}
use Rattle.variants_and_fragments.specs.Words.{within, below, nat_of}
use Rattle.variants_and_fragments.specs.Inner.Accepted.{CaseIn}
use Rattle.variants_and_fragments.specs.Inner.Sums.{DownTo}
use Rattle.variants_and_fragments.proofs.Bools.{both}
use Rattle.variants_and_fragments.proofs.Bounds.{down_zero, down_more, down_add, down_abs}
use Rattle.variants_and_fragments.proofs.Ranges.{below_less}
use Rattle.variants_and_fragments.proofs.Readings.{quality_down}
use Rattle.variants_and_fragments.proofs.Sums.{sum_over_cong, sum_to_cong}
use Rattle.pileup.specs.declared.reader.Call.{Call as CallHeld}
use Rattle.pileup.specs.Inner.Packed.{UsableIs, call_read}
use Rattle.pileup.specs.Inner.Reader.{held_call}
use Rattle.haplotype_assembly.specs.Phase.{flag_of}
use Rattle.sweeps.specs.Sweeps.{call_term}
use Rattle.likelihoods.specs.Inner.Likelihoods.{call_share}
use Rattle.likelihoods.proofs.RunningSums.{table_sum}
use Rattle.likelihoods.proofs.SweepCases.{likelihood_sum, cond_down}
use Rattle.late_reads.specs.Arriving.{whole_calls, arriving_word, arriving_call, arriving_read, arriving_ok}
use Rattle.late_reads.specs.Values.{Fixed, likelihood_on}
use Rattle.late_reads.specs.Inner.Ready.{Arriving, CallArriving, arriving_left, share_on}
use Rattle.likelihoods.proofs.RunningSums.{Running, running_start, running_more}
use Rattle.late_reads.proofs.ReadCalls.{arriving_next, arriving_none}
use Rattle.late_reads.proofs.Room.{room_top}

-- ---- a likelihood is a sum over the calls
one_more : {X : Type 0} (t : Bool) (x : X) (xs : List X) (g : X → ℤ) (rest : ℤ) → sum_over xs g ≡ rest → sum_over (cond t (x ∷ xs) xs) g ≡ cond t (g x) (pos 0) +ℤ rest
unfolding sum_over
one_more true x xs g rest e = ap (λ (z : ℤ). g x +ℤ z) e
one_more false x xs g rest e = e ∙ sym (+ℤ_idl rest)

only_sum : {X : Type 0} (p : X → Bool) (g : X → ℤ) (xs : List X) → sum_over (only p xs) g ≡ sum_over xs (λ x. cond (p x) (g x) (pos 0))
unfolding only sum_over
only_sum p g [] = refl
only_sum p g (x ∷ xs) = one_more (p x) x (only p xs) g _ (only_sum p g xs)

two_tests : (a b : Bool) (x y : ℤ) → cond a (cond b x y) y ≡ cond (a && b) x y
two_tests true b x y = refl
two_tests false b x y = refl

module _ (fixed : Fixed) (x : Fragment) (h : ℕ) where
  abbrev own : ℕ → ℕ
  own v = get_or fixed.haps (2 * v + h) 0

  likelihood_on_lem : likelihood_on fixed x h ≡ sum_over x.calls (share_on fixed x h)
  unfolding likelihood_on usable_calls share_on
  likelihood_on_lem =
      likelihood_sum fixed.phased own (usable_calls fixed.cutoff x)
      ∙ only_sum (usable fixed.cutoff x) (call_share fixed.phased own) x.calls
      ∙ sum_over_cong x.calls _ _ (λ call. two_tests (usable fixed.cutoff x call) (fixed.phased call.variant) (call_term call (own call.variant)) (pos 0))

  -- what a call adds
  pub share_unusable : (call : Call) → usable fixed.cutoff x call ≡ false → pos 0 ≡ share_on fixed x h call
  unfolding share_on
  share_unusable call u = rw u

  module _ (call : Call) (u : usable fixed.cutoff x call ≡ true) where
    pub share_unphased : fixed.phased call.variant ≡ false → pos 0 ≡ share_on fixed x h call
    unfolding share_on
    share_unphased p = rw (u, p)

    pub share_phased : fixed.phased call.variant ≡ true → call_term call (own call.variant) ≡ share_on fixed x h call
    unfolding share_on
    share_phased p = rw (u, p)

  -- which is in −262144..0
  share_down : (call : Call) → DownTo 262144 call.qual → DownTo 262144 call.one_minus_qual → DownTo 262144 (share_on fixed x h call)
  unfolding share_on call_term
  share_down call q o =
      cond_down 262144 (usable fixed.cutoff x call && fixed.phased call.variant) _ (pos 0)
      (cond_down 262144 (eqb call.allele (own call.variant)) _ _ o q) (down_zero 262144)

-- one of its qualities: which one
pub term_match : (call : Call) (own : ℕ) → call.allele ≡ own → call.one_minus_qual ≡ call_term call own
unfolding call_term
term_match call own e = rw (eq-eqb call.allele own e)

pub term_other : (call : Call) (own : ℕ) → (call.allele ≡ own → ⊥) → call.qual ≡ call_term call own
unfolding call_term
term_other call own e = rw (ne_eqb call.allele own e)

-- a flag read back
pub flag_off : (b : Bool) → flag_of b ≡ 0 → b ≡ false
flag_off true e = absurd (omega arith)
flag_off false e = refl

pub flag_on : (b : Bool) → (flag_of b ≡ 0 → ⊥) → b ≡ true
flag_on true e = refl
flag_on false e = absurd (e refl)

-- a quality as the code returns it
module _ (x : ℤ) (fits : SFits w32 x) where
  pub quality_read : to_z w64 (of_z w64 (to_z w32 (of_z w32 x))) ≡ x
  quality_read = read_wide w32 w64 x tt fits

  pub quality_small : DownTo 262144 x → nat_abs (to_z w64 (of_z w64 (to_z w32 (of_z w32 x)))) ≤ 262144
  quality_small down = rw quality_read (down_abs 262144 x down)

-- ---- the calls of an arriving read
-- the code's test of a call is the definition's
pub usable_read : {q z : ℤ} {k : ℕ} {r : Bool} (cutoff strand : ℤ) (calls : List ℤ) (call : Call) → UsableIs q k z r → q ≡ cutoff → k ≡ nat_of strand → z ≡ call.qual
    → usable cutoff (arriving_read strand calls) call ≡ r
unfolding arriving_read
usable_read cutoff strand calls call u e k z = rw (← e) (sym (u.is (arriving_read strand calls) call (sym k) (sym z)))

-- what call i adds to a likelihood
abbrev pub arriving_share : ℤ → List ℤ → Fixed → ℕ → ℕ → ℤ
arriving_share strand calls fixed h i = share_on fixed (arriving_read strand calls) h (arriving_call calls i)

pub arriving_sum : (strand : ℤ) (calls : List ℤ) (fixed : Fixed) (h : ℕ) → likelihood_on fixed (arriving_read strand calls) h ≡ sum_to (whole_calls calls) (arriving_share strand calls fixed h)
unfolding arriving_read
arriving_sum strand calls fixed h =
    likelihood_on_lem fixed (arriving_read strand calls) h
    ∙ table_sum (arriving_call calls) (share_on fixed (arriving_read strand calls) h) 0 (whole_calls calls)
    ∙ sum_to_cong (whole_calls calls) _ _ (λ i l. ap (arriving_share strand calls fixed h) (zero-add i))

module _ {w : List ℤ} {s : Sizes} {f : ℕ} {strand : ℤ} {calls : List ℤ} (arriving : Arriving w s f strand calls) where
  pub arriving_in : (i : ℕ) → i < whole_calls calls → CallArriving s (arriving_call calls i)
  unfolding arriving_ok arriving_call
  arriving_in i l =
      let variant = arriving_word calls i variant_field in
      let allele = arriving_word calls i allele_field in
      let qual = arriving_word calls i qual_field in
      let other = arriving_word calls i one_minus_qual_field in
      let a = both (below s.n variant) _ (arriving.each_in i l) in
      let b = both (below (allele_count_at w (nat_of variant)) allele) _ a.1 in
      let c = both (within lowest_quality (pos 0) qual) (within lowest_quality (pos 0) other) b.1 in
      record { variant_in = below_less s.n variant a.0; qual_in = quality_down qual c.0; one_minus_qual_in = quality_down other c.1 }

  some_down : (fixed : Fixed) (h i : ℕ) → i ≤ whole_calls calls → DownTo (262144 * i) (sum_to i (arriving_share strand calls fixed h))
  unfolding sum_to
  some_down fixed h zero l = down_zero 0
  some_down fixed h (suc i) l =
      let c = arriving_in i (omega arith) in
      down_more (262144 * i + 262144) (262144 * suc i) _ (omega arith)
      (down_add (262144 * i) 262144 _ _ (some_down fixed h i (omega arith)) (share_down fixed _ h _ c.qual_in c.one_minus_qual_in))

  pub arriving_few : CaseIn w s → whole_calls calls ≤ 16384
  arriving_few case = omega (arith, arriving.fits, room_top case, case.sized.c_top)

  pub arriving_down : (fixed : Fixed) (h : ℕ) → CaseIn w s → DownTo (2 ^ 32) (likelihood_on fixed (arriving_read strand calls) h)
  arriving_down fixed h case =
      rw (arriving_sum strand calls fixed h)
      (down_more (262144 * whole_calls calls) (2 ^ 32) _ (omega (arith, arriving_few case)) (some_down fixed h (whole_calls calls) (omega arith)))

-- ---- the loop over the calls: i of them are added, and the others are left
pub record Summing (strand : ℤ) (calls : List ℤ) (fixed : Fixed) (left : List CallHeld) (first second : ℤ) : Type 0 where
  pub i : ℕ
  pub few : i ≤ whole_calls calls
  pub left_is : left ≡ arriving_left calls i
  pub on_first : Running (arriving_share strand calls fixed 0) i first (262144 * i)
  pub on_second : Running (arriving_share strand calls fixed 1) i second (262144 * i)

pub summing_start : (strand : ℤ) (calls : List ℤ) (fixed : Fixed) {left : List CallHeld} → left ≡ arriving_left calls 0 → Summing strand calls fixed left (pos 0) (pos 0)
summing_start strand calls fixed e = record { i = 0; few = omega arith; left_is = e; on_first = running_start _ _; on_second = running_start _ _ }

module _ {strand : ℤ} {calls : List ℤ} {fixed : Fixed} {left : List CallHeld} {first second : ℤ} (s : Summing strand calls fixed left first second) where
  -- one call more
  module _ {call : CallHeld} {rest : List CallHeld} (e : left ≡ call ∷ rest) where
    summing_next : (s.i < whole_calls calls) × (call_read call ≡ arriving_call calls s.i) × (rest ≡ arriving_left calls (s.i + 1))
    unfolding held_call
    summing_next = elim (dec_lt s.i (whole_calls calls)) [
      | yes l ↦ let q : call ∷ rest ≡ held_call (arriving_call calls s.i) ∷ arriving_left calls (s.i + 1) = sym e ∙ s.left_is ∙ arriving_next calls s.i l in
          (l, ap (first_read (arriving_call calls s.i)) q, ap (others []) q)
      | no n ↦ let q : call ∷ rest ≡ [] = sym e ∙ s.left_is ∙ arriving_none calls s.i (omega arith) in absurd (some_left q)
    ]
      where
        first_read : Call → List CallHeld → Call
        first_read other [] = other
        first_read other (x ∷ xs) = call_read x

        others : List CallHeld → List CallHeld → List CallHeld
        others other [] = other
        others other (x ∷ xs) = xs

        some_left : call ∷ rest ≡ [] → ⊥
        some_left q = let z : ◌≡◌ {A = ℕ} 0 1 = cc in omega arith

    pub summing_in : {w : List ℤ} {sizes : Sizes} {f : ℕ} → Arriving w sizes f strand calls → CallArriving sizes (call_read call)
    summing_in {sizes = sizes} a = let n = summing_next in rw n.1 (arriving_in a s.i n.0)

    module _ (few : whole_calls calls ≤ 16384) (h : ℕ) (x : ℤ) (small : nat_abs x ≤ 262144) where
      more_fits : {sum : ℤ} → Running (arriving_share strand calls fixed h) s.i sum (262144 * s.i) → SFits w64 (to_z w64 (of_z w64 sum) +ℤ to_z w64 (of_z w64 x))
      more_fits {sum} r = let n = summing_next in plus_fits w64 sum x (omega (arith, r.small, n.0))

      more_on : {sum : ℤ} → x ≡ share_on fixed (arriving_read strand calls) h (call_read call) → Running (arriving_share strand calls fixed h) s.i sum (262144 * s.i)
          → Running (arriving_share strand calls fixed h) (s.i + 1) (to_z w64 (of_z w64 (to_z w64 (of_z w64 sum) +ℤ to_z w64 (of_z w64 x)))) (262144 * (s.i + 1))
      more_on {sum} is r = let n = summing_next in running_more _ s.i sum x (262144 * (s.i + 1)) r (rw n.1 at is) (omega arith) (omega (arith, n.0))

    pub first_fits : whole_calls calls ≤ 16384 → (x : ℤ) → nat_abs x ≤ 262144 → SFits w64 (to_z w64 (of_z w64 first) +ℤ to_z w64 (of_z w64 x))
    first_fits few x small = more_fits few 0 x small s.on_first

    pub second_fits : whole_calls calls ≤ 16384 → (x : ℤ) → nat_abs x ≤ 262144 → SFits w64 (to_z w64 (of_z w64 second) +ℤ to_z w64 (of_z w64 x))
    second_fits few x small = more_fits few 1 x small s.on_second

    pub summing_on : whole_calls calls ≤ 16384 → (x y : ℤ) → (x ≡ share_on fixed (arriving_read strand calls) 0 (call_read call)) × (nat_abs x ≤ 262144) → (y ≡ share_on fixed (arriving_read strand calls) 1 (call_read call)) × (nat_abs y ≤ 262144)
        → Summing strand calls fixed rest (to_z w64 (of_z w64 (to_z w64 (of_z w64 first) +ℤ to_z w64 (of_z w64 x)))) (to_z w64 (of_z w64 (to_z w64 (of_z w64 second) +ℤ to_z w64 (of_z w64 y))))
    summing_on few x y p q =
        let n = summing_next in
        record { i = s.i + 1; few = omega (arith, n.0); left_is = n.2; on_first = more_on few 0 x p.1 p.0 s.on_first; on_second = more_on few 1 y q.1 q.0 s.on_second }

  -- none is left
  module _ (e : left ≡ []) (few : whole_calls calls ≤ 16384) where
    all_added : s.i ≡ whole_calls calls
    all_added = elim (dec_lt s.i (whole_calls calls)) [
      | yes l ↦ let q : held_call (arriving_call calls s.i) ∷ arriving_left calls (s.i + 1) ≡ [] = sym (s.left_is ∙ arriving_next calls s.i l) ∙ e in absurd (no_calls q)
      | no n ↦ omega (arith, s.few)
    ]
      where
        no_calls : {x : CallHeld} {xs : List CallHeld} → x ∷ xs ≡ [] → ⊥
        no_calls q = let z : ◌≡◌ {A = ℕ} 0 1 = cc in omega arith

    summed : (h : ℕ) {sum : ℤ} → Running (arriving_share strand calls fixed h) s.i sum (262144 * s.i) → (sum ≡ likelihood_on fixed (arriving_read strand calls) h) × (nat_abs sum ≤ 2 ^ 32)
    summed h r = (r.is ∙ rw all_added (sym (arriving_sum strand calls fixed h)), omega (arith, r.small, s.few))

    pub first_summed : (first ≡ likelihood_on fixed (arriving_read strand calls) 0) × (nat_abs first ≤ 2 ^ 32)
    first_summed = summed 0 s.on_first

    pub second_summed : (second ≡ likelihood_on fixed (arriving_read strand calls) 1) × (nat_abs second ≤ 2 ^ 32)
    second_summed = summed 1 s.on_second
