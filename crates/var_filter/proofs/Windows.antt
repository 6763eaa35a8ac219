-- The window of `var_filter`: its start, one more variant passed, one visited, and what it says of the decoded case.
-- Positions do not fall, so a variant in reach from v is in reach from every one between, and what lies past the window is out of reach.
-- Assumes nothing.
use Rattle.std.proofs.Common.{◌≡◌, ℕ, zero, suc, ◌+◌, ◌-◌, ◌≤◌, ◌<◌, true, false, List, length, sym, ap, ◌∙◌, arith, le_refl, add-one, lt-ltb, le-ltb}
use native.Mathlib.Decide.{dec_lt, ℕ_discrete}
use lib.IntN.{ℤ}
use Rattle.variants_and_fragments.specs.declared.Sizes.{Sizes}
use Rattle.var_filter.specs.declared.scan.Scan.{Scan}
use Rattle.var_filter.specs.declared.window.Window.{Window}
use Rattle.variants_and_fragments.specs.Case.{variant_of}
use Rattle.variants_and_fragments.specs.Sums.{count_to}
use Rattle.variants_and_fragments.specs.Layout.{sizes_of, pos0_at, depth_at}
use Rattle.variants_and_fragments.specs.Decode.{variant_from, decode}
use Rattle.var_filter.specs.Filter.{limits_of}
use Rattle.var_filter.specs.Inner.FilterWindow.{past_last, is_strong, position, WindowAt, WindowEnd, Extended, Slid}
use Rattle.variants_and_fragments.proofs.Decoded.{variant_count, variant_is}
use Rattle.variants_and_fragments.proofs.Records.{pos0_up}
use Rattle.var_filter.proofs.Below.{count_in, count_out, count_le, count_top, past_in, past_out, past_le}
use Rattle.var_filter.proofs.Density.{ReachTo}

-- the position and the depth of the decoded variant
pub pos0_is : (w : List ℤ) (b : List ℕ) (v : ℕ) → v < (sizes_of w).n → (variant_of (decode w b) v).pos0 ≡ pos0_at w v
unfolding variant_from
pos0_is w b v h = rw (variant_is w b v h)

pub depth_is : (w : List ℤ) (b : List ℕ) (v : ℕ) → v < (sizes_of w).n → (variant_of (decode w b) v).dp ≡ depth_at w v
unfolding variant_from
depth_is w b v h = rw (variant_is w b v h)

-- positions do not fall
pub pos0_le : (scan : Scan) (i j : ℕ) → i ≤ j → j < scan.case.laid.sizes.n → position scan i ≤ position scan j
pos0_le scan i zero h l = let e : i ≡ 0 = omega arith in rw e (le_refl _)
pos0_le scan i (suc j) h l = elim (ℕ_discrete i (suc j)) [
  | yes e ↦ rw e (le_refl _)
  | no e ↦ omega (arith, pos0_le scan i j (omega arith) (omega arith), pos0_up scan.case.case_in.variants j l)
]

-- as many variants as the words say
pub count_is : (scan : Scan) → scan.case.laid.sizes.n ≡ (sizes_of scan.case.laid.words.now).n
count_is scan = ap (λ (z : Sizes). z.n) scan.case.case_in.shape

module _ {scan : Scan} where
  pub window_start : {x : Window} → x.end ≡ 0 → x.ahead ≡ 0 → x.strong_end ≡ 0 → x.marked_end ≡ 0 → WindowAt scan 0 x
  unfolding count_to past_last
  window_start {x} e a s m = record {
    end_in = omega arith;
    ahead_is = rw (e, a);
    strong_end_is = rw (e, s);
    marked_in = omega arith;
    within = λ i k p q h. absurd (omega arith);
  }

  pub ahead_top : {v : ℕ} {x : Window} → WindowAt scan v x → x.ahead ≤ scan.case.laid.sizes.n
  ahead_top {v} {x} at = omega (arith, at.ahead_is, at.end_in, count_top x.end (is_strong scan))

  -- one variant more, m, is passed: in reach from v, and so from every later one
  module _ {v m : ℕ} {x : Window} (at : WindowAt scan v x) (here : x.end ≡ m) (more : m < scan.case.laid.sizes.n) (near : position scan m ≤ position scan v + scan.density.len) where
    within_on : (i k : ℕ) → v ≤ i → i ≤ k → k < m + 1 → position scan k ≤ position scan i + scan.density.len
    within_on i k a b h = elim (ℕ_discrete k m) [
      | yes e ↦ rw e (omega (arith, pos0_le scan v i a (omega arith), near))
      | no e ↦ at.within i k a b (omega arith)
    ]

    pub window_strong : is_strong scan m ≡ true → WindowAt scan v (record { end = m + 1; ahead = x.ahead + 1; strong_end = m + 1; marked_end = x.marked_end })
    window_strong t = record {
      end_in = omega arith;
      ahead_is = rw (add-one m) (omega (arith, count_in m (is_strong scan) t, rw here at at.ahead_is));
      strong_end_is = rw (add-one m) (sym (past_in m (is_strong scan) t));
      marked_in = omega (arith, at.marked_in, at.strong_end_is, past_le x.end (is_strong scan));
      within = within_on;
    }

    pub window_weak : is_strong scan m ≡ false → WindowAt scan v (record { end = m + 1; ahead = x.ahead; strong_end = x.strong_end; marked_end = x.marked_end })
    window_weak t = record {
      end_in = omega arith;
      ahead_is = rw (add-one m) (omega (arith, count_out m (is_strong scan) t, rw here at at.ahead_is));
      strong_end_is = rw (add-one m) (rw here at at.strong_end_is ∙ sym (past_out m (is_strong scan) t));
      marked_in = at.marked_in;
      within = within_on;
    }

  -- v itself is in the window, once this ends where v's reach does
  pub window_past : {v : ℕ} {x : Window} → v < scan.case.laid.sizes.n → WindowEnd scan v x → v < x.end
  window_past {v} {x} h ends = elim (dec_lt v x.end) [
    | yes l ↦ l
    | no l ↦ absurd (omega (arith, ends.beyond (omega arith), pos0_le scan x.end v (omega arith) h))
  ]

  -- a visit of v: a strong v is among those ahead, and is taken off them; where more than density.n are left, it marks up to the last
  module _ {v : ℕ} {x y : Window} (h : v < scan.case.laid.sizes.n) (to : Extended scan v x y) where
    pub ahead_some : is_strong scan v ≡ true → 1 ≤ y.ahead
    ahead_some t = omega (arith, to.window.ahead_is, count_in v (is_strong scan) t, count_le (is_strong scan) (suc v) y.end (window_past h to.ends))

    within_later : (i m : ℕ) → suc v ≤ i → i ≤ m → m < y.end → position scan m ≤ position scan i + scan.density.len
    within_later i m a b l = to.window.within i m (omega arith) b l

    grown : x.marked_end ≤ y.strong_end
    grown = omega (arith, to.kept, to.window.marked_in)

    pub slid_weak : is_strong scan v ≡ false → Slid scan v x y
    slid_weak t = record {
      window = record {
        end_in = to.window.end_in;
        ahead_is = omega (arith, to.window.ahead_is, count_out v (is_strong scan) t);
        strong_end_is = to.window.strong_end_is;
        marked_in = to.window.marked_in;
        within = within_later;
      };
      ends = to.ends;
      grows = grown;
      marks = rw t to.kept;
    }

    visited_strong : is_strong scan v ≡ true → (marked : ℕ) → marked ≤ y.strong_end → WindowAt scan (suc v) (record { end = y.end; ahead = y.ahead - 1; strong_end = y.strong_end; marked_end = marked })
    visited_strong t marked l = record {
      end_in = to.window.end_in;
      ahead_is = omega (arith, to.window.ahead_is, count_in v (is_strong scan) t, ahead_some t);
      strong_end_is = to.window.strong_end_is;
      marked_in = l;
      within = within_later;
    }

    pub slid_few : is_strong scan v ≡ true → y.ahead - 1 ≤ scan.density.n → Slid scan v x (record { end = y.end; ahead = y.ahead - 1; strong_end = y.strong_end; marked_end = y.marked_end })
    slid_few t l = record {
      window = visited_strong t y.marked_end to.window.marked_in;
      ends = record { near = to.ends.near; beyond = to.ends.beyond };
      grows = grown;
      marks = rw (t, le-ltb scan.density.n (y.ahead - 1) l) to.kept;
    }

    pub slid_marks : is_strong scan v ≡ true → scan.density.n < y.ahead - 1 → Slid scan v x (record { end = y.end; ahead = y.ahead - 1; strong_end = y.strong_end; marked_end = y.strong_end })
    slid_marks t l = record {
      window = visited_strong t y.strong_end (le_refl _);
      ends = record { near = to.ends.near; beyond = to.ends.beyond };
      grows = grown;
      marks = rw (t, lt-ltb scan.density.n (y.ahead - 1) l);
    }

  -- a visited window is the reach of v in the decoded case
  pub reach_to : {v : ℕ} {x : Window} (b : List ℕ) (max_depth : ℕ) → v < scan.case.laid.sizes.n → WindowAt scan (suc v) x → WindowEnd scan v x → ReachTo (decode scan.case.laid.words.now b) (limits_of scan.density max_depth) v x.end
  reach_to {v} {x} b max_depth h at ends =
      let w = scan.case.laid.words.now in
      let same = count_is scan in
      let count : length (decode w b).variants ≡ scan.case.laid.sizes.n = variant_count w b ∙ sym same in
      let here = pos0_is w b v (omega arith) in
      record {
        within = omega (arith, at.end_in);
        past = window_past h ends;
        near = λ m a l. omega (arith, here, pos0_is w b m (omega (arith, at.end_in)), ends.near m a l);
        far = λ m a l. omega (arith, here, pos0_is w b m (omega arith), ends.beyond (omega arith), pos0_le scan x.end m a (omega arith));
      }
