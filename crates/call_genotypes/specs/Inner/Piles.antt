-- A variant's pile as a part of the piles. Assumes nothing.
use Rattle.std.specs.Prelude.{◌≡◌, List, ℕ, ◌<◌, ◌≤◌, length, get_or}
use Rattle.pileup.specs.Inner.Packed.{RowsIn, rows_at, group_start}

-- v's pile is there
pub record PileThere (ends piles : List ℕ) (v : ℕ) : Type 0 where
  pub v_in : v < length ends
  pub rises : group_start ends v ≤ get_or ends v 0
  pub few : get_or ends v 0 ≤ 16384
  pub long : get_or ends v 0 ≤ length piles

-- pile has its rows, and what holds of them there holds of them here
pub record PileIs (ends piles : List ℕ) (v : ℕ) (pile : List ℕ) : Type 0 where
  pub rows : rows_at pile 0 (length pile) ≡ rows_at piles (group_start ends v) (get_or ends v 0)
  pub rows_in : (n f : ℕ) → RowsIn n f piles (group_start ends v) (get_or ends v 0) → RowsIn n f pile 0 (length pile)
