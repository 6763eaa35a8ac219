-- The usable calls of a good case: they are some of its calls, and still rise. Of calls that rise one at most is at a variant.
-- Assumes nothing.
use mathlib.Core.Path.{◌≡◌, refl, ◌∙◌}
use mathlib.Core.Bool.{Bool, true, false, cond}
use mathlib.Core.List.{List, [], ◌∷◌}
use Prim.Native.Nat.{ℕ, suc, ◌≤◌, ◌<◌}
use native.Mathlib.Omega.{arith}
use borrow.Author.Tests.{le-leb, leb-true}
use lib.Dec.{leb}
use lib.IntN.{ℤ}
use lib.ListN.{length}
use Rattle.steps.proofs.Signed.{by_test}
use Rattle.variants_and_fragments.proofs.Bools.{both, off}
use Rattle.variants_and_fragments.proofs.Only.{only_in, only_out, only_none, only_length, only_all}
use Rattle.variants_and_fragments.specs.Case.{Variant, Fragment, Call, usable}
use Rattle.variants_and_fragments.specs.Inner.Case.{rising_from, rising, All, GoodCall, GoodFragment}
use Rattle.variants_and_fragments.specs.Pileup.{only, usable_calls}

-- ---- some of them still rise
rising_down : (a b : ℕ) (calls : List Call) → a ≤ b → rising_from b calls ≡ true → rising_from a calls ≡ true
unfolding rising_from
rising_down a b [] h r = refl
rising_down a b (call ∷ calls) h r =
    let x = both (leb b call.variant) (rising_from (suc call.variant) calls) r in
    let l = leb-true b call.variant x.0 in
    rw (le-leb a call.variant (omega arith)) x.1

pub only_rising : (p : Call → Bool) (b : ℕ) (calls : List Call) → rising_from b calls ≡ true → rising_from b (only p calls) ≡ true
unfolding only rising_from
only_rising p b [] r = refl
only_rising p b (call ∷ calls) r =
    let x = both (leb b call.variant) (rising_from (suc call.variant) calls) r in
    go (p call) x.0 (only_rising p (suc call.variant) calls x.1)
  where
    go : (t : Bool) → leb b call.variant ≡ true → rising_from (suc call.variant) (only p calls) ≡ true → rising_from b (cond t (call ∷ only p calls) (only p calls)) ≡ true
    go true l a = rw l a
    go false l a = let m = leb-true b call.variant l in rising_down b (suc call.variant) (only p calls) (omega arith) a

-- ---- of those that rise one at most is at v, and so of those that pass a test that only calls at v pass
module _ (v : ℕ) (p : Call → Bool) (here : (call : Call) → p call ≡ true → call.variant ≡ v) where
  none_past : (b : ℕ) (calls : List Call) → v < b → rising_from b calls ≡ true → only p calls ≡ []
  unfolding rising_from
  none_past b [] h r = only_none p
  none_past b (call ∷ calls) h r =
      let x = both (leb b call.variant) (rising_from (suc call.variant) calls) r in
      let l = leb-true b call.variant x.0 in
      only_out p call calls (off (p call) (λ e. omega (arith, here call e))) ∙ none_past (suc call.variant) calls (omega arith) x.1

  pub one_at : (b : ℕ) (calls : List Call) → rising_from b calls ≡ true → length (only p calls) ≤ 1
  unfolding rising_from
  one_at b [] r = rw (only_none p) (omega arith)
  one_at b (call ∷ calls) r =
      let x = both (leb b call.variant) (rising_from (suc call.variant) calls) r in
      by_test (p call)
      (λ e. rw (only_in p call calls e, none_past (suc call.variant) calls (omega (arith, here call e)) x.1) (omega arith))
      (λ e. rw (only_out p call calls e) (one_at (suc call.variant) calls x.1))

-- ---- the usable calls of a fragment
pub usable_fewer : (cutoff : ℤ) (fragment : Fragment) → length (usable_calls cutoff fragment) ≤ length fragment.calls
unfolding usable_calls
usable_fewer cutoff fragment = only_length (usable cutoff fragment) fragment.calls

module _ {variants : List Variant} {fragment : Fragment} (cutoff : ℤ) (good : GoodFragment variants fragment) where
  pub usable_in : All (GoodCall variants) (usable_calls cutoff fragment)
  unfolding usable_calls
  usable_in = only_all (usable cutoff fragment) fragment.calls good.calls_in

  pub usable_rises : rising (usable_calls cutoff fragment) ≡ true
  unfolding usable_calls
  usable_rises = only_rising (usable cutoff fragment) 0 fragment.calls good.rises
