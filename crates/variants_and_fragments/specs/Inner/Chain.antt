-- Chains as the check walks them: which records are marked, and what a walk and the check of a fragment leave. Assumes nothing.
use Rattle.std.specs.Prelude.{◌≡◌, Bool, true, false, cond, List, ◌++◌, ℕ, suc, ◌≤◌, ◌<◌, length, get_or, ℤ, leb}
use Rattle.variants_and_fragments.specs.declared.Sizes.{Sizes}
use Rattle.variants_and_fragments.specs.Layout.{max_calls, first_call_at, next_call_at}
use Rattle.variants_and_fragments.specs.Chain.{is_record, memb, reached, good_chain, fragment_ok}
use Rattle.variants_and_fragments.specs.Refusals.{Outcome, done, each}

-- what a word names as a record, and 0 where that is none of those used
unfoldable pub record_of : Sizes → ℕ → ℕ
record_of s t = cond (leb t s.used) t 0

-- where fragment f's chain starts: its first call, and 0 where that is no record (absent, −1, or past those used)
abbrev pub first_record_at : List ℤ → Sizes → ℕ → ℕ
first_record_at w s f = record_of s (first_call_at w s f)

-- flags: what stands at x says whether x is in l
pub record Marked (seen : List Bool) (l : List ℕ) : Type 0 where
  pub long : max_calls < length seen
  pub marks : (x : ℕ) → x ≤ max_calls → get_or seen x false ≡ memb x l

-- what a walk of the chain rs answers, l being the records reached before, and that the flags then mark its records too
pub record Walked (right : ℕ → Bool) (l rs : List ℕ) (seen : List Bool) (r : Bool) : Type 0 where
  pub ok : r ≡ good_chain right l rs
  pub marked : r ≡ true → Marked seen (rs ++ l)

-- the same of fragment f's test
pub record FragmentChecked (w : List ℤ) (s : Sizes) (f : ℕ) (seen : List Bool) (r : Bool) : Type 0 where
  pub ok : r ≡ fragment_ok w s f
  pub marked : r ≡ true → Marked seen (reached w s (suc f))

-- number 5's lines for the fragments
abbrev pub fragments_outcome : List ℤ → Sizes → Outcome Unit
fragments_outcome w s = each 5 (fragment_ok w s) 0 s.f (done tt)

-- and of all fragments' tests
pub record FragmentsChecked (w : List ℤ) (s : Sizes) (seen : List Bool) (answer : Outcome Unit) : Type 0 where
  pub ok : answer ≡ fragments_outcome w s
  pub marked : answer ≡ done tt → Marked seen (reached w s s.f)

-- the record after each of l is one of l, or none
pub record Closed (w : List ℤ) (s : Sizes) (l : List ℕ) : Type 0 where
  pub closed : (x : ℕ) → memb x l ≡ true → is_record s (next_call_at w s x) ≡ true → memb (next_call_at w s x) l ≡ true

-- the flags mark what the fragments below f reach
pub record ReachMarked (w : List ℤ) (s : Sizes) (f : ℕ) (seen : List Bool) : Type 0 where
  pub marked : Marked seen (reached w s f)
  pub whole : Closed w s (reached w s f)
