-- Decimal numbers: the digits of n are those of n / 10 and the last, and what std writes for n.
-- Assumes nothing.
use mathlib.Core.Path.{◌≡◌, sym, ap, ◌∙◌}
use mathlib.Core.Bool.{Bool, true, false, cond}
use mathlib.Core.List.{List, [], ◌∷◌, ◌++◌, append_assoc}
use Prim.Native.Nat.{ℕ, zero, suc, ◌+◌, ◌*◌, ◌/◌, ◌%◌, ◌^◌, ◌≤◌, ◌<◌}
use native.Mathlib.Omega.{arith}
use native.Mathlib.Decide.{dec_lt}
use borrow.Author.Tests.{lt-ltb, le-ltb}
use lib.Dec.{ltb}
use lib.ListN.{length, take, drop, length-append}
use native.Mathlib.Nat.{pow-succ'}
use Rattle.std.proofs.lemmas.Fmt.{decimal_digit, decimal_step}
use Rattle.std.proofs.lemmas.List.{take-append-drop}
use Rattle.std.proofs.lemmas.List.Edits.{sets-eq}
use Rattle.std.specs.Fmt.{decimal as text}
use Rattle.haplotype_assembly.specs.Lines.{digit, decimal_from, decimal}
use Rattle.haplotype_assembly.specs.Inner.LinesRead.{Put}

same_turns : (j k n : ℕ) → n < j → n < k → decimal_from j n ≡ decimal_from k n
unfolding decimal_from
same_turns zero k n h l = absurd (omega arith)
same_turns (suc j) zero n h l = absurd (omega arith)
same_turns (suc j) (suc k) n h l = elim (dec_lt n 10) [
  | yes s ↦ rw (lt-ltb n 10 s)
  | no s ↦ rw (le-ltb n 10 (omega arith), same_turns j k (n / 10) (omega arith) (omega arith))
]

pub decimal_small : (n : ℕ) → n < 10 → decimal n ≡ digit n ∷ []
unfolding decimal decimal_from
decimal_small n h = let e : n % 10 ≡ n = omega arith in rw (lt-ltb n 10 h, e)

pub decimal_large : (n : ℕ) → 10 ≤ n → decimal n ≡ decimal (n / 10) ++ (digit (n % 10) ∷ [])
unfolding decimal decimal_from
decimal_large n h = rw (le-ltb n 10 h) (ap (λ (l : List ℕ). l ++ (digit (n % 10) ∷ [])) (same_turns n (suc (n / 10)) (n / 10) (omega arith) (omega arith)))

pub large_length : (n : ℕ) → 10 ≤ n → length (decimal n) ≡ length (decimal (n / 10)) + 1
large_length n h = ap length (decimal_large n h) ∙ length-append (decimal (n / 10)) (digit (n % 10) ∷ [])

pub small_length : (n : ℕ) → n < 10 → length (decimal n) ≡ 1
small_length n h = ap length (decimal_small n h)

-- no more digits than turns, and at least one
turns_top : (turns n : ℕ) → length (decimal_from turns n) ≤ turns
unfolding decimal_from
turns_top zero n = omega arith
turns_top (suc turns) n = go (ltb n 10) (turns_top turns (n / 10))
  where
    go : (t : Bool) → length (decimal_from turns (n / 10)) ≤ turns → length (cond t [] (decimal_from turns (n / 10)) ++ (digit (n % 10) ∷ [])) ≤ suc turns
    go true h = omega arith
    go false h = omega (arith, length-append (decimal_from turns (n / 10)) (digit (n % 10) ∷ []))

pub decimal_top : (n : ℕ) → length (decimal n) ≤ n + 1
unfolding decimal
decimal_top n = omega (arith, turns_top (suc n) n)

ten_some : (k : ℕ) → 1 ≤ 10 ^ k
ten_some zero = omega arith
ten_some (suc k) = let e : 10 ^ suc k ≡ 10 * 10 ^ k = pow-succ' 10 k in omega (arith, ten_some k)

-- as many as the powers of ten that it reaches
pub digits_are : (k n : ℕ) → 10 ^ k ≤ n → n < 10 * 10 ^ k → length (decimal n) ≡ k + 1
digits_are zero n lo hi = small_length n (omega arith)
digits_are (suc k) n lo hi =
    let e : 10 ^ suc k ≡ 10 * 10 ^ k = pow-succ' 10 k in
    let p = ten_some k in
    omega (arith, large_length n (omega arith), digits_are k (n / 10) (omega arith) (omega arith))

-- ---- what std writes for a number is its decimal
std_from : (k n : ℕ) → n < k → n < 2 ^ 64 → text n ≡ decimal n
std_from zero n l h = absurd (omega arith)
std_from (suc k) n l h = elim (dec_lt n 10) [
  | yes s ↦ decimal_digit n s ∙ sym (decimal_small n s)
  | no s ↦ decimal_step n (omega arith) h ∙ ap (λ (ds : List ℕ). ds ++ (digit (n % 10) ∷ [])) (std_from k (n / 10) (omega arith) (omega arith)) ∙ sym (decimal_large n (omega arith))
]

pub std_is : (n : ℕ) → n < 2 ^ 64 → text n ≡ decimal n
std_is n h = std_from (suc n) n (omega arith) h

-- a text that ends at `end`, in place of as many bytes
pub put_text : {before after : List ℕ} {at end : ℕ} {xs ys : List ℕ} (start : ℕ) → ys ≡ xs → at + length xs ≤ length before → end ≡ at + length xs
    → start + length ys ≡ end → take start after ≡ take start before → drop start after ≡ ys ++ drop end before → Put before after at end xs
put_text {before} {after} {at} {end} {xs} {ys} start same room last long head tail =
    let e : start ≡ at = omega (arith, long, last, ap length same) in
    record {
      stored = sym (take-append-drop start after) ∙ rw (head, tail, same, last, e) (sym (append_assoc (take at before) xs _) ∙ sym (sets-eq xs before at room));
      end_is = last;
    }
