-- The stretch that one variant v marks: where v is strong and the strong ones within its reach e number more than density_count, it
-- goes to the last of these, and else there is none. The count from v is the strong ones below j less those up to v.
-- Assumes nothing.
use mathlib.Core.Path.{◌≡◌, refl, sym, ◌∙◌}
use mathlib.Core.Bool.{Bool, true, false, cond, ◌&&◌, ◌||◌, and-true, and-false, or-false}
use mathlib.Core.List.{List}
use Prim.Native.Nat.{ℕ, suc, ◌+◌, ◌-◌, ◌≤◌, ◌<◌}
use native.Mathlib.Omega.{arith}
use Rattle.std.proofs.lemmas.Bool.Decides.{nat_tests}
use native.Mathlib.Decide.{dec_le, dec_lt}
use borrow.Author.Tests.{lt-ltb, le-ltb, le-leb, lt-leb}
use lib.Dec.{leb, ltb}
use lib.Ieee.{Float}
use lib.ListN.{length}
use Rattle.variants_and_fragments.specs.Case.{Case, variant_of}
use Rattle.var_filter.specs.Filter.{any_below, count_below, Limits, strong, counted, dense}
use Rattle.var_filter.specs.Inner.FilterWindow.{past_last}
use Rattle.var_filter.proofs.Below.{any_one, any_none, any_more, count_after, count_le, past_le, past_none, past_holds, past_count}

-- e is the first variant past the reach of v, or N
pub record ReachTo (case : Case) (limits : Limits) (v e : ℕ) : Type 0 where
  pub within : e ≤ length case.variants
  pub past : v < e
  pub near : (m : ℕ) → v ≤ m → m < e → (variant_of case m).pos0 ≤ (variant_of case v).pos0 + limits.density_dist
  pub far : (m : ℕ) → e ≤ m → m < length case.variants → (variant_of case v).pos0 + limits.density_dist < (variant_of case m).pos0

-- m lies below the end of a stretch that a variant below v marks
abbrev pub covers : Case → List Float → Limits → ℕ → ℕ → Bool
covers case quals limits v m = any_below v (λ i. any_below (length case.variants) (λ j. leb m j && dense case quals limits i j))

farther : (m a b : ℕ) → a ≤ b → (ltb m a || ltb m b) ≡ ltb m b
farther m a b h = grind (arith, nat_tests)

module _ (case : Case) (quals : List Float) (limits : Limits) (v e : ℕ) (reach : ReachTo case limits v e) where
  abbrev p : ℕ → Bool
  p = strong quals limits.density_qual

  counted_early : (m : ℕ) → m ≤ v → counted case quals limits v m ≡ false
  unfolding counted
  counted_early m h = rw (le-ltb v m h)

  counted_near : (m : ℕ) → v < m → m < e → counted case quals limits v m ≡ p m
  unfolding counted
  counted_near m h l = rw (lt-ltb v m h, le-leb _ _ (reach.near m (omega arith) l)) (and-true _)

  counted_far : (m : ℕ) → e ≤ m → m < length case.variants → counted case quals limits v m ≡ false
  unfolding counted
  counted_far m h l = rw (lt-leb _ _ (reach.far m h l)) (and-false (ltb v m && p m))

  counted_weak : (m : ℕ) → p m ≡ false → counted case quals limits v m ≡ false
  unfolding counted
  counted_weak m h = simp (h, and-false)

  count_from : (k : ℕ) → v < k → k ≤ e → count_below k (counted case quals limits v) + count_below (suc v) p ≡ count_below k p
  count_from = count_after p (counted case quals limits v) v e counted_early counted_near

  not_counted : (j : ℕ) → counted case quals limits v j ≡ false → dense case quals limits v j ≡ false
  unfolding dense
  not_counted j h = simp (h, and-false)

  -- a weak v marks nothing
  dense_weak : (j : ℕ) → p v ≡ false → dense case quals limits v j ≡ false
  unfolding dense
  dense_weak j h = rw h

  module _ (ahead : ℕ) (ahead_is : ahead + count_below (suc v) p ≡ count_below e p) where
    -- where too few are ahead, v marks nothing
    dense_few : (j : ℕ) → j < length case.variants → ahead ≤ limits.density_count → dense case quals limits v j ≡ false
    unfolding dense
    dense_few j l few = elim (dec_lt j e) [
      | yes h ↦
          let c = count_le (counted case quals limits v) (suc j) e (omega arith) in
          let m : count_below (suc j) (counted case quals limits v) ≤ limits.density_count = omega (arith, count_from e reach.past (omega arith), c) in
          rw (le-ltb _ _ m) (and-false (p v && counted case quals limits v j))
      | no h ↦ not_counted j (counted_far j (omega arith) l)
    ]

    -- past the last strong one in reach, v marks nothing
    dense_late : (j : ℕ) → j < length case.variants → past_last e p ≤ j → dense case quals limits v j ≡ false
    dense_late j l late = elim (dec_lt j e) [
      | yes h ↦ not_counted j (counted_weak j (past_none e _ j late h))
      | no h ↦ not_counted j (counted_far j (omega arith) l)
    ]

    -- else it marks up to the last
    last_past : limits.density_count < ahead → suc v < past_last e p
    last_past h = grind (arith, past_count e p, count_le p (past_last e p) (suc v))

    dense_last : p v ≡ true → limits.density_count < ahead → dense case quals limits v (past_last e p - 1) ≡ true
    unfolding dense
    dense_last t h =
        let l = last_past h in
        let top = past_le e p in
        let k : suc (past_last e p - 1) ≡ past_last e p = omega arith in
        let more : limits.density_count < count_below (suc (past_last e p - 1)) (counted case quals limits v) = rw k (omega (arith, count_from (past_last e p) (omega arith) top, past_count e p)) in
        rw (t, counted_near (past_last e p - 1) (omega arith) (omega arith) ∙ past_holds e p (omega arith), lt-ltb _ _ more)

    abbrev stretch : ℕ → ℕ → Bool
    stretch m j = leb m j && dense case quals limits v j

    not_stretch : (m j : ℕ) → dense case quals limits v j ≡ false → stretch m j ≡ false
    not_stretch m j h = rw h (and-false (leb m j))

    marks_none : (m : ℕ) → ((j : ℕ) → j < length case.variants → dense case quals limits v j ≡ false) → any_below (length case.variants) (stretch m) ≡ false
    marks_none m h = any_none _ (stretch m) (λ j l. not_stretch m j (h j l))

    marks_some : p v ≡ true → limits.density_count < ahead → (m : ℕ) → any_below (length case.variants) (stretch m) ≡ ltb m (past_last e p)
    marks_some t h m = elim (dec_lt m (past_last e p)) [
      | yes l ↦
          let one : stretch m (past_last e p - 1) ≡ true = rw (dense_last t h, le-leb m (past_last e p - 1) (omega arith)) in
          any_one _ (stretch m) (past_last e p - 1) (omega (arith, past_le e p, reach.within)) one ∙ sym (lt-ltb m _ l)
      | no l ↦ any_none _ (stretch m) (λ j k. past j k (omega arith)) ∙ sym (le-ltb m (past_last e p) (omega arith))
    ]
      where
        past : (j : ℕ) → j < length case.variants → past_last e p ≤ m → stretch m j ≡ false
        past j k l = elim (dec_le m j) [
          | yes q ↦ not_stretch m j (dense_late j k (omega arith))
          | no q ↦ rw (lt-leb m j (omega arith))
        ]

    -- what is covered once v is visited: up to the stretch's end where v marks one, else as before
    pub covers_on : (last until after : ℕ) → last ≡ past_last e p → until ≤ last → after ≡ cond (p v && ltb limits.density_count ahead) last until → ((m : ℕ) → covers case quals limits v m ≡ ltb m until) → (m : ℕ) → covers case quals limits (suc v) m ≡ ltb m after
    covers_on last until after is low now before m = any_more v _ ∙ go (p v) refl
      where
        go : (b : Bool) → p v ≡ b → (covers case quals limits v m || any_below (length case.variants) (stretch m)) ≡ ltb m after
        go false t =
            let q : after ≡ until = rw (now, t) in
            rw (before m, marks_none m (λ j l. dense_weak j t), q) (or-false _)
        go true t = elim (dec_lt limits.density_count ahead) [
          | yes h ↦
              let q : after ≡ last = rw (now, t, lt-ltb _ _ h) in
              rw (before m, marks_some t h m, q, is) (farther m until (past_last e p) (rw is at low))
          | no h ↦
              let q : after ≡ until = rw (now, t, le-ltb limits.density_count ahead (omega arith)) in
              rw (before m, marks_none m (λ j l. dense_few j l (omega arith)), q) (or-false _)
        ]
