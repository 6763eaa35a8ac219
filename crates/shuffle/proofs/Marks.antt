-- The check of one order by marks: the entries seen are below n, and a number has the order's mark just where it stands among them.
-- Assumes nothing.
use Rattle.std.proofs.Common.{◌≡◌, ℕ, suc, ◌+◌, ◌<◌, ◌≤◌, true, false, T, List, [], ◌∷◌, ◌++◌, length, get_or, take, drop, set, sym, refl, ap, ◌∙◌, arith, All, length-set, get_or-set_other, get_or-set_same}
use native.Mathlib.Decide.{ℕ_discrete, dec_lt}
use lib.Seq.{split_at}
use Rattle.shuffle.specs.Permutation.{member, times, permutes}
use Rattle.shuffle.proofs.Times.{is_one, is_same, is_other, is_le, times_append, member_times, times_member, each_once}
use Rattle.shuffle.proofs.Permuted.{permutation_permutes, not_permutes}

-- what holds at the loop's head of the entries seen
pub record Marking (mark : ℕ) (seen marks : List ℕ) : Type 0 where
  pub outside : (v : ℕ) → length marks ≤ v → times v seen ≡ 0
  pub marked : (v : ℕ) → v < length marks → times v seen ≡ is_one (get_or marks v 0) mark

pub marking_start : (mark : ℕ) (marks : List ℕ) → All (λ x. x < mark) marks → Marking mark [] marks
unfolding times
marking_start mark marks h =
    record {
      outside = λ v k. refl;
      marked = λ v k. sym (is_other (get_or marks v 0) mark (λ e. omega (arith, h v 0 k)));
    }

times_single : (u v : ℕ) → times u (v ∷ []) ≡ is_one v u
unfolding times
times_single u v = omega arith

times_more : (u v : ℕ) (seen : List ℕ) → times u (seen ++ (v ∷ [])) ≡ times u seen + is_one v u
times_more u v seen = times_append u seen (v ∷ []) ∙ ap (λ (k : ℕ). times u seen + k) (times_single u v)

-- one entry more
pub marking_more : (mark v : ℕ) (seen marks : List ℕ) → Marking mark seen marks → v < length marks → (get_or marks v 0 ≡ mark → ⊥) → Marking mark (seen ++ (v ∷ [])) (set marks v mark)
marking_more mark v seen marks m low fresh =
    record {
      outside = λ u k. omega (arith, times_more u v seen, long, m.outside u (omega (arith, long)), is_other v u (λ e. omega (arith, long)));
      marked = λ u k. times_more u v seen ∙ elim (ℕ_discrete u v) [ yes e ↦ same u e (omega (arith, long)) | no e ↦ other u e (omega (arith, long)) ];
    }
  where
    long : length (set marks v mark) ≡ length marks
    long = length-set marks v mark

    same : (u : ℕ) → u ≡ v → u < length marks → times u seen + is_one v u ≡ is_one (get_or (set marks v mark) u 0) mark
    same u e k =
        let new = is_same (get_or (set marks v mark) u 0) mark (ap (λ (w : ℕ). get_or (set marks v mark) w 0) e ∙ get_or-set_same marks v mark 0 low) in
        let old = is_other (get_or marks u 0) mark (λ q. fresh (sym (ap (λ (w : ℕ). get_or marks w 0) e) ∙ q)) in
        omega (arith, new, old, m.marked u k, is_same v u (sym e))

    other : (u : ℕ) → (u ≡ v → ⊥) → u < length marks → times u seen + is_one v u ≡ is_one (get_or (set marks v mark) u 0) mark
    other u e k =
        let kept = ap (λ (x : ℕ). is_one x mark) (get_or-set_other marks v u mark 0 e) in
        omega (arith, kept, m.marked u k, is_other v u (λ q. e (sym q)))

-- ---- an entry at which the check stops
module _ (mark : ℕ) (order marks : List ℕ) (i : ℕ) (m : Marking mark (take i order) marks) (long : length order ≡ length marks) (h : i < length order) where
  abbrev entry : ℕ
  entry = get_or order i 0

  -- the entry stands in the order once more than before it
  entry_times : times entry (take i order) + 1 ≤ times entry order
  entry_times =
      let whole = ap (times entry) (split_at order i 0 h) ∙ times_append entry (take i order) (entry ∷ drop (suc i) order) in
      omega (arith, whole, times_append entry (entry ∷ []) (drop (suc i) order), times_single entry entry, is_same entry entry refl)

  pub marking_high : length marks ≤ entry → false ≡ permutes (length order) order
  marking_high high = sym (not_permutes (length order) order (λ p. omega (arith, p.within entry (times_member entry order (omega (arith, entry_times))))))

  pub marking_twice : entry < length marks → get_or marks entry 0 ≡ mark → false ≡ permutes (length order) order
  marking_twice low seen = sym (not_permutes (length order) order (λ p. omega (arith, p.once entry (omega arith), entry_times, m.marked entry low, is_same (get_or marks entry 0) mark seen)))

-- all entries are seen
pub marking_end : (mark : ℕ) (order marks : List ℕ) → Marking mark order marks → length order ≡ length marks → true ≡ permutes (length order) order
marking_end mark order marks m long =
    sym
    (permutation_permutes (length order) order
    record {
      within = within;
      once = each_once (length order) order refl within (λ v k. omega (arith, m.marked v (omega arith), is_le (get_or marks v 0) mark));
    })
  where
    within : (v : ℕ) → T (member v order) → v < length order
    within v t = elim (dec_lt v (length order)) [
      | yes k ↦ k
      | no k ↦ absurd (omega (arith, member_times v order t, m.outside v (omega arith)))
    ]
