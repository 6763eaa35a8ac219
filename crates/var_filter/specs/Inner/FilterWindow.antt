-- The window that `var_filter` slides along the variants of an accepted case: what it holds before variant v is visited, and how a visit moves it.
-- Assumes nothing.
use Rattle.std.specs.Prelude.{◌≡◌, Bool, cond, ◌&&◌, ℕ, zero, suc, ◌+◌, ◌≤◌, ◌<◌, ltb}
use Rattle.var_filter.specs.declared.scan.Scan.{Scan}
use Rattle.var_filter.specs.declared.window.Window.{Window}
use Rattle.variants_and_fragments.specs.Layout.{pos0_at}
use Rattle.var_filter.specs.Filter.{count_below, strong}

-- one past the last of 0..n−1 of which p holds; 0 where there is none
unfoldable pub past_last : ℕ → (ℕ → Bool) → ℕ
past_last zero p = 0
past_last (suc n) p = cond (p n) (suc n) (past_last n p)

module _ (scan : Scan) where
  abbrev pub is_strong : ℕ → Bool
  is_strong v = strong scan.quals.now scan.density.gq.0 v

  abbrev pub position : ℕ → ℕ
  position v = pos0_at scan.case.laid.words.now v

  -- the window goes from v to end: any two of its variants are in reach of each other, and ahead of them are strong
  pub record WindowAt (v : ℕ) (x : Window) : Type 0 where
    pub end_in : x.end ≤ scan.case.laid.sizes.n
    pub ahead_is : x.ahead + count_below v is_strong ≡ count_below x.end is_strong
    pub strong_end_is : x.strong_end ≡ past_last x.end is_strong
    pub marked_in : x.marked_end ≤ x.strong_end
    pub within : (i m : ℕ) → v ≤ i → i ≤ m → m < x.end → position m ≤ position i + scan.density.len

  -- end is the first variant that is out of reach from v, or N
  pub record WindowEnd (v : ℕ) (x : Window) : Type 0 where
    pub near : (m : ℕ) → v ≤ m → m < x.end → position m ≤ position v + scan.density.len
    pub beyond : x.end < scan.case.laid.sizes.n → position v + scan.density.len < position x.end

  -- x, moved to y: as far as reach from v goes, and no more
  pub record Extended (v : ℕ) (x y : Window) : Type 0 where
    pub window : WindowAt v y
    pub ends : WindowEnd v y
    pub kept : y.marked_end ≡ x.marked_end

  -- x, moved to y: v is visited, and where it marks a stretch, marked_end is one past the stretch
  pub record Slid (v : ℕ) (x y : Window) : Type 0 where
    pub window : WindowAt (suc v) y
    pub ends : WindowEnd v y
    pub grows : x.marked_end ≤ y.strong_end
    pub marks : y.marked_end ≡ cond (is_strong v && ltb scan.density.n y.ahead) y.strong_end x.marked_end
