-- A case and its unmuted case have the same usable calls, the same ambiguous counts and the same lines: no call of a muted fragment is usable, and none
-- whose qualities are 0 is, since no cutoff is above 0; every other fragment stays.
-- Assumes nothing.
use mathlib.Core.Path.{◌≡◌, refl, sym, ap, ◌∙◌}
use mathlib.Core.Bool.{Bool, true, false, cond}
use mathlib.Core.List.{List, [], ◌∷◌, map}
use Prim.Native.Nat.{ℕ, suc, ◌/◌, ◌%◌}
use native.Mathlib.Omega.{arith}
use borrow.Author.Tests.{lt-ltb}
use lib.Dec.{eqb}
use lib.IntN.{ℤ, pos}
use lib.ListN.{length, length-map}
use lib.Signed.{le_z, lt_z}
use Rattle.steps.proofs.Signed.{by_test, zlin}
use Rattle.variants_and_fragments.specs.Case.{Case, Fragment, Call, votes, direction, usable, fragment_of}
use Rattle.variants_and_fragments.specs.Pileup.{only, usable_calls, rows_from, ambiguous_in, ambiguous_from}
use Rattle.variants_and_fragments.specs.Inner.Case.{All}
use Rattle.variants_and_fragments.proofs.Alls.{all_map}
use Rattle.variants_and_fragments.proofs.Only.{only_map}
use Rattle.haplotype_assembly.specs.Lines.{line_calls, line_of, has_line, lines_from, line_count}
use Rattle.late_reads.specs.Values.{read_count}
use Rattle.muted.specs.Unmuted.{zeroed, unmuted, unmuted_case}
use Rattle.muted.proofs.AllUnmuted.{voting_same, unmuted_at}
use Rattle.muted.proofs.MutedRead.{all_each, none_usable, all_ambiguous, counted_last, no_line, never_usable}

-- ---- one fragment
-- a muted one unmuted: its calls have both qualities 0
abbrev quiet : Fragment → Fragment
quiet x = record { present = x.present; strand = direction x.strand; calls = map zeroed x.calls }

muted_quiet : (x : Fragment) → votes x.strand ≡ false → unmuted x ≡ quiet x
unfolding unmuted
muted_quiet x m = rw m

-- what is the same of a fragment that stays and of one that is unmuted is the same of each
by_vote : {A : Type 0} (g : Fragment → A) (x : Fragment) → (votes x.strand ≡ false → g (quiet x) ≡ g x) → g (unmuted x) ≡ g x
by_vote g x h = by_test (votes x.strand) (λ v. ap g (voting_same x v)) (λ m. ap g (muted_quiet x m) ∙ h m)

-- its calls are at the same variants
calls_at : (v : ℕ) (calls : List Call) → length (only (λ (call : Call). eqb call.variant v) (map zeroed calls)) ≡ length (only (λ (call : Call). eqb call.variant v) calls)
unfolding zeroed
calls_at v calls = ap length (only_map zeroed (λ (call : Call). eqb call.variant v) calls) ∙ length-map (only (λ (call : Call). eqb call.variant v) calls) zeroed

pub votes_unmuted : (x : Fragment) → votes (unmuted x).strand ≡ true
votes_unmuted x = by_test (votes x.strand) (λ v. ap (λ (y : Fragment). votes y.strand) (voting_same x v) ∙ v) (λ m. ap (λ (y : Fragment). votes y.strand) (muted_quiet x m) ∙ lt-ltb (direction x.strand) 2 (omega arith))

pub present_same : (x : Fragment) → (unmuted x).present ≡ x.present
present_same x = by_vote (λ y. y.present) x (λ m. refl)

pub direction_same : (x : Fragment) → direction (unmuted x).strand ≡ direction x.strand
direction_same x = by_vote (λ y. direction y.strand) x (λ m. omega arith)

pub all_calls_same : (v : ℕ) (x : Fragment) → length (only (λ (call : Call). eqb call.variant v) (unmuted x).calls) ≡ length (only (λ (call : Call). eqb call.variant v) x.calls)
all_calls_same v x = by_vote (λ y. length (only (λ (call : Call). eqb call.variant v) y.calls)) x (λ m. calls_at v x.calls)

-- ---- by a cutoff that is not above 0
module _ (cutoff : ℤ) (low : le_z cutoff (pos 0) ≡ true) where
  -- a call with both qualities 0 is not usable
  quiet_never : (x : Fragment) → All (λ call. usable cutoff (quiet x) call ≡ false) (quiet x).calls
  unfolding usable zeroed
  quiet_never x = let z : lt_z (pos 0) cutoff ≡ false = omega (zlin, low) in all_map zeroed x.calls (all_each (λ call. rw z) x.calls)

  pub usable_same : (x : Fragment) → usable_calls cutoff (unmuted x) ≡ usable_calls cutoff x
  usable_same x = by_vote (usable_calls cutoff) x (λ m. none_usable (quiet x) cutoff (quiet_never x) ∙ sym (none_usable x cutoff (never_usable x m cutoff)))

  ambiguous_same : (v : ℕ) (x : Fragment) → ambiguous_in cutoff v (unmuted x) ≡ ambiguous_in cutoff v x
  ambiguous_same v x = by_vote (ambiguous_in cutoff v) x (λ m.
      all_ambiguous (quiet x) cutoff (quiet_never x) v ∙ calls_at v x.calls ∙ sym (all_ambiguous x cutoff (never_usable x m cutoff) v))

  pub count_same : (e : ℕ) (x : Fragment) → read_count cutoff (unmuted x) e ≡ read_count cutoff x e
  count_same e x = by_vote (λ y. read_count cutoff y e) x (λ m.
      counted_last (quiet x) cutoff (quiet_never x) e
      ∙ ap (λ (n : ℕ). cond (eqb (e % 10) 9) n 0) (calls_at (e / 10) x.calls)
      ∙ sym (counted_last x cutoff (never_usable x m cutoff) e))

  -- ---- all fragments
  pub frags_same : (xs : List Fragment) → map (usable_calls cutoff) (map unmuted xs) ≡ map (usable_calls cutoff) xs
  frags_same [] = refl
  frags_same (x ∷ xs) = rw (usable_same x, frags_same xs)

  pub rows_same : (f : ℕ) (xs : List Fragment) → rows_from cutoff f (map unmuted xs) ≡ rows_from cutoff f xs
  unfolding rows_from
  rows_same f [] = refl
  rows_same f (x ∷ xs) = rw (usable_same x, rows_same (suc f) xs)

  pub ambiguous_from_same : (v : ℕ) (xs : List Fragment) → ambiguous_from cutoff v (map unmuted xs) ≡ ambiguous_from cutoff v xs
  unfolding ambiguous_from
  ambiguous_from_same v [] = refl
  ambiguous_from_same v (x ∷ xs) = rw (ambiguous_same v x, ambiguous_from_same v xs)

-- ---- the lines of a case; they go by its variants and its cutoff, which the unmuted one has too
module _ (case : Case) (low : le_z case.cutoff (pos 0) ≡ true) where
  module _ (x : Fragment) (m : votes x.strand ≡ false) where
    no_calls : line_calls case x ≡ []
    no_calls = no_line x case.cutoff (never_usable x m case.cutoff) case refl

    no_calls_there : line_calls (unmuted_case case) (unmuted x) ≡ []
    unfolding unmuted_case
    no_calls_there = rw (muted_quiet x m) (no_line (quiet x) case.cutoff (quiet_never case.cutoff low x) (unmuted_case case) refl)

  -- of a fragment that votes
  calls_there : (x : Fragment) → line_calls (unmuted_case case) x ≡ line_calls case x
  unfolding line_calls unmuted_case
  calls_there x = refl

  line_there : (id : ℕ) (x : Fragment) → line_of (unmuted_case case) id x ≡ line_of case id x
  unfolding line_of line_calls unmuted_case
  line_there id x = refl

  none_shown : (single : Bool) → has_line single 0 ≡ false
  unfolding has_line
  none_shown true = refl
  none_shown false = refl

  pub lines_same : (single : Bool) (id : ℕ) (xs : List Fragment) → lines_from (unmuted_case case) single id (map unmuted xs) ≡ lines_from case single id xs
  unfolding lines_from
  lines_same single id [] = refl
  lines_same single id (x ∷ xs) =
      by_test (votes x.strand)
      (λ v. rw (voting_same x v, calls_there x, line_there id x, lines_same single id xs, lines_same single (suc id) xs))
      (λ m. rw (no_calls_there x m, no_calls x m, none_shown single) (lines_same single id xs))

  pub line_count_same : (single : Bool) (xs : List Fragment) → line_count (unmuted_case case) single (map unmuted xs) ≡ line_count case single xs
  unfolding line_count
  line_count_same single [] = refl
  line_count_same single (x ∷ xs) =
      by_test (votes x.strand)
      (λ v. rw (voting_same x v, calls_there x, line_count_same single xs))
      (λ m. rw (no_calls_there x m, no_calls x m, line_count_same single xs))

-- ---- a fragment by its number
pub fragment_there : (case : Case) (f : ℕ) → fragment_of (unmuted_case case) f ≡ unmuted (fragment_of case f)
unfolding unmuted_case
fragment_there case f = unmuted_at case.fragments f
