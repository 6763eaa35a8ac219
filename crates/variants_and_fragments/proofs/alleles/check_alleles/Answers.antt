-- The variants passed have bases alone; the first that has not is the place.
use Rattle.std.proofs.Common.{◌≡◌, ◌↔◌, IsTrue, EachIndex, slice_index, take, drop, rules, ℕ, ◌+◌, ◌-◌, ◌<◌, ◌≤◌, List, ℤ, Bool, true, length, arith, refl, sym, ◌∙◌, below_more, eq-eqb, ne_eqb}
use Rattle.variants_and_fragments.specs.Alleles.{alleles_length, alleles_start, is_base, base_ok_at, alleles_ok}
use Rattle.variants_and_fragments.proofs.AlleleBytes.{off_on, off_le}
use Rattle.variants_and_fragments.proofs.First.{part_decides}
use Rattle.variants_and_fragments.proofs.Outcomes.{unless_on, unless_at, each_fails, each_holds}
use Rattle.variants_and_fragments.proofs.alleles.check_alleles.Goals as goal

-- variant v's bytes are there
within_bases : (w : List ℤ) (b : List ℕ) (n v at m all : ℕ) → length b ≡ all → all ≡ alleles_start w n → v < n → at ≡ alleles_start w v → m ≡ alleles_length w v → at + m ≤ length b
within_bases w b n v at m all size is_all l here long = omega (arith, off_on w v, off_le w (v + 1) n (omega arith))

-- the test of its bytes
bases_decide : (w : List ℤ) (b : List ℕ) (v at m : ℕ) (r : Bool) → at ≡ alleles_start w v → m ≡ alleles_length w v → at + m ≤ length b
    → (IsTrue r ↔ EachIndex (take (at + m - at) (drop at b)) (λ i. is_base (slice_index (take (at + m - at) (drop at b)) i) ≡ true)) → r ≡ alleles_ok w b v
unfolding alleles_ok
bases_decide w b v at m r here long size d = rw (← here, ← long) (part_decides (base_ok_at b at) is_base 0 b at m (at + m - at) r (omega arith) size (λ i l. refl) d)

pub returns-then-bases-all_alleles_length : goal.returns-then-bases-all_alleles_length
returns-then-bases-all_alleles_length c = unless_at _ 3 _ _ (ne_eqb _ _ (λ e. c.if-bases-all_alleles_length.true (e ∙ sym c.all_alleles_length.ensures)))

pub overflow_add-end : goal.overflow_add-end
overflow_add-end c = let s = within_bases c.args.known.now.laid.words.now c.args.bases.now c.args.known.now.laid.sizes.n c.loop-v.v _ _ _ c.if-bases-all_alleles_length.false c.all_alleles_length.ensures c.loop-v-test.true c.loop-v.invariant.0 c.alleles_length.ensures.0 in omega (arith, c.all_alleles_length.type_inv)

pub slice_bounds-are_bases-end : goal.slice_bounds-are_bases-end
slice_bounds-are_bases-end c = let s = within_bases c.args.known.now.laid.words.now c.args.bases.now c.args.known.now.laid.sizes.n c.loop-v.v _ _ _ c.if-bases-all_alleles_length.false c.all_alleles_length.ensures c.loop-v-test.true c.loop-v.invariant.0 c.alleles_length.ensures.0 in search rules

pub returns-then-not-are_bases : goal.returns-then-not-are_bases
returns-then-not-are_bases c =
    each_fails 3 _ 0 _ _ c.loop-v.v (omega arith) (omega arith) (λ j _ l. c.loop-v.invariant.1 j l)
    (sym (bases_decide c.args.known.now.laid.words.now c.args.bases.now c.loop-v.v c.loop-v.at c.alleles_length.result c.are_bases.result c.loop-v.invariant.0 c.alleles_length.ensures.0 (within_bases c.args.known.now.laid.words.now c.args.bases.now c.args.known.now.laid.sizes.n c.loop-v.v _ _ _ c.if-bases-all_alleles_length.false c.all_alleles_length.ensures c.loop-v-test.true c.loop-v.invariant.0 c.alleles_length.ensures.0) c.are_bases.ensures) ∙ c.if-not-are_bases.true)
    ∙ unless_on _ 3 _ _ (eq-eqb _ _ (c.if-bases-all_alleles_length.false ∙ c.all_alleles_length.ensures))

pub loop-v-preserved : goal.loop-v-preserved
loop-v-preserved c = (
  cc (c.loop-v.invariant.0, c.alleles_length.ensures.0, off_on c.args.known.now.laid.words.now c.loop-v.v),
  below_more _ _ c.loop-v.invariant.1
      (sym (bases_decide c.args.known.now.laid.words.now c.args.bases.now c.loop-v.v c.loop-v.at c.alleles_length.result c.are_bases.result c.loop-v.invariant.0 c.alleles_length.ensures.0 (within_bases c.args.known.now.laid.words.now c.args.bases.now c.args.known.now.laid.sizes.n c.loop-v.v _ _ _ c.if-bases-all_alleles_length.false c.all_alleles_length.ensures c.loop-v-test.true c.loop-v.invariant.0 c.alleles_length.ensures.0) c.are_bases.ensures) ∙ c.if-not-are_bases.false),
)

pub returns : goal.returns
returns c =
    each_holds 3 _ 0 _ _ (λ j _ l. c.loop-v.invariant.1 j (omega arith))
    ∙ unless_on _ 3 _ _ (eq-eqb _ _ (c.if-bases-all_alleles_length.false ∙ c.all_alleles_length.ensures))
