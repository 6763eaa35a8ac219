-- Sums of numbers at or below 0: a sum over a list lies in −n..0, n being what its terms lack to 0 at most. So every sum over the
-- calls of an accepted case, or over some of them, is −2^32 or more where each term lies in −262144..0.
-- Assumes nothing.
use mathlib.Core.Path.{◌≡◌}
use mathlib.Core.List.{List, [], ◌∷◌}
use Prim.Native.Nat.{ℕ, ◌+◌, ◌*◌, ◌^◌, ◌≤◌, ◌<◌}
use native.Mathlib.Omega.{arith}
use lib.IntN.{ℤ, pos, neg_ℤ, nat_abs, ◌+ℤ◌}
use lib.ListN.{length}
use Rattle.variants_and_fragments.specs.Case.{Case, Fragment, Call, no_fragment, fragment_of}
use Rattle.variants_and_fragments.specs.Inner.Case.{All, end, also, GoodCase}
use Rattle.variants_and_fragments.specs.Sums.{sum_over, count_over}
use Rattle.variants_and_fragments.specs.Inner.Sums.{DownTo}
use Rattle.variants_and_fragments.proofs.Alls.{all_imp}
use Rattle.variants_and_fragments.proofs.Sums.{count_same, count_times, count_at}
use Rattle.steps.proofs.Signed.{up, dn, up_pos, dn_pos, nat_abs_parts, by_sign, ≤ℤ→, →≤ℤ, le_true, true_le, parts_add, neg_up, neg_dn}

-- ---- the range −n..0
neg_low : (n : ℕ) → up (neg_ℤ (pos n)) + n ≡ dn (neg_ℤ (pos n))
neg_low n = omega (arith, neg_up (pos n), neg_dn (pos n), up_pos n, dn_pos n)

pub down_low : (n : ℕ) (z : ℤ) → DownTo n z → dn z ≤ up z + n
down_low n z d = omega (arith, ≤ℤ→ _ _ (true_le (neg_ℤ (pos n)) z d.low), neg_low n)

pub down_high : (n : ℕ) (z : ℤ) → DownTo n z → up z ≤ dn z
down_high n z d = omega (arith, ≤ℤ→ _ _ (true_le z (pos 0) d.high), up_pos 0, dn_pos 0)

pub down_in : (n : ℕ) (z : ℤ) → dn z ≤ up z + n → up z ≤ dn z → DownTo n z
down_in n z l h = record {
  low = le_true (neg_ℤ (pos n)) z (→≤ℤ _ _ (omega (arith, neg_low n)));
  high = le_true z (pos 0) (→≤ℤ _ _ (omega (arith, up_pos 0, dn_pos 0)));
}

pub down_abs : (n : ℕ) (z : ℤ) → DownTo n z → nat_abs z ≤ n
down_abs n z d =
    let l = down_low n z d in
    let h = down_high n z d in
    let e = nat_abs_parts z in by_sign z (λ u. omega arith) (λ u. omega arith)

pub down_zero : (n : ℕ) → DownTo n (pos 0)
down_zero n = down_in n (pos 0) (omega (arith, up_pos 0, dn_pos 0)) (omega (arith, up_pos 0, dn_pos 0))

pub down_more : (n m : ℕ) (z : ℤ) → n ≤ m → DownTo n z → DownTo m z
down_more n m z h d = down_in m z (omega (arith, down_low n z d)) (down_high n z d)

pub down_add : (n m : ℕ) (a b : ℤ) → DownTo n a → DownTo m b → DownTo (n + m) (a +ℤ b)
down_add n m a b c d =
    let p = parts_add a b in
    down_in (n + m) (a +ℤ b) (omega (arith, down_low n a c, down_low m b d)) (omega (arith, down_high n a c, down_high m b d))

-- ---- sums over any list
pub down_sum : {X : Type 0} (xs : List X) (n : X → ℕ) (g : X → ℤ) → All (λ x. DownTo (n x) (g x)) xs → DownTo (count_over xs n) (sum_over xs g)
unfolding count_over sum_over
down_sum [] n g end = down_zero 0
down_sum (x ∷ xs) n g (also d ds) = down_add (n x) (count_over xs n) (g x) (sum_over xs g) d (down_sum xs n g ds)

-- ---- sums over calls, each term in −262144..0
pub calls_sum : (calls : List Call) (g : Call → ℤ) → All (λ call. DownTo 262144 (g call)) calls → DownTo (262144 * length calls) (sum_over calls g)
calls_sum calls g h = rw (count_same calls 262144) at (down_sum calls (λ _. 262144) g h)

-- over the fragments, of each all or some of its calls
pub fragments_sum : (fragments : List Fragment) (part : Fragment → List Call) (g : Fragment → Call → ℤ) → All (λ fragment. All (λ call. DownTo 262144 (g fragment call)) (part fragment)) fragments
    → DownTo (262144 * count_over fragments (λ fragment. length (part fragment))) (sum_over fragments (λ fragment. sum_over (part fragment) (g fragment)))
fragments_sum fragments part g h =
    rw (count_times fragments 262144 (λ fragment. length (part fragment))) at
    (down_sum fragments (λ fragment. 262144 * length (part fragment)) (λ fragment. sum_over (part fragment) (g fragment)) (all_imp (λ fragment. calls_sum (part fragment) (g fragment)) h))

module _ {case : Case} (good : GoodCase case) (part : Fragment → List Call) (fewer : (fragment : Fragment) → length (part fragment) ≤ length fragment.calls) where
  -- a fragment has at most as many calls as all together
  pub fragment_calls_top : (f : ℕ) → f < length case.fragments → length (part (fragment_of case f)) ≤ 16384
  fragment_calls_top f h = omega (arith, good.calls_top, count_at case.fragments (λ fragment. length fragment.calls) f no_fragment h, fewer (fragment_of case f))

  -- a sum over a fragment's calls
  pub fragment_sum_top : (f : ℕ) → f < length case.fragments → (g : Call → ℤ) → All (λ call. DownTo 262144 (g call)) (part (fragment_of case f))
      → DownTo (2 ^ 32) (sum_over (part (fragment_of case f)) g)
  fragment_sum_top f h g a = down_more (262144 * length (part (fragment_of case f))) (2 ^ 32) _ (omega (arith, fragment_calls_top f h)) (calls_sum (part (fragment_of case f)) g a)
